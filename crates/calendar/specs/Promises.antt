-- What is promised of lists of leap days, in plain facts, kept in proofs/KeepsLists.antt.
-- Assumes nothing.
use Rattle.std.specs.Prelude.{◌≡◌, ◌↔◌, ℕ, suc, ◌+◌, ◌*◌, ◌≤◌, ◌<◌, true, List, length, get_or}
use Rattle.calendar.specs.Years.{days_in}
use Rattle.calendar.specs.Leaps.{good_list, listed, listed_before}

-- A number is a day that the calendar has: 2016366 is day 366 of 2016.
pub record IsDay (n : ℕ) : Type 0 where
  pub year : ℕ
  pub day : ℕ
  pub number : n ≡ year * 1000 + day
  pub to_9999 : year ≤ 9999
  pub from_1 : 1 ≤ day
  pub to_last : day ≤ days_in year

-- At most 64 such days, each before the next.
pub record IsList (leaps : List ℕ) : Type 0 where
  pub most : length leaps ≤ 64
  pub days : (i : ℕ) → i < length leaps → IsDay (get_or leaps i 0)
  pub rising : (i : ℕ) → suc i < length leaps → get_or leaps i 0 < get_or leaps (suc i) 0

-- A day stands somewhere in a list.
pub record InList (leaps : List ℕ) (n : ℕ) : Type 0 where
  pub place : ℕ
  pub within : place < length leaps
  pub is : get_or leaps place 0 ≡ n

-- The days of a list before a day are so many of the first ones.
pub record Passed (leaps : List ℕ) (n k : ℕ) : Type 0 where
  pub most : k ≤ length leaps
  pub before : (i : ℕ) → i < length leaps → (get_or leaps i 0 < n) ↔ (i < k)

pub record Lists : Type 0 where
  pub good : (leaps : List ℕ) → (good_list leaps ≡ true) ↔ IsList leaps
  pub has : (leaps : List ℕ) (n : ℕ) → (listed leaps n ≡ true) ↔ InList leaps n
  pub counts : (leaps : List ℕ) (n : ℕ) → IsList leaps → Passed leaps n (listed_before leaps n)
  pub once : (leaps : List ℕ) (n k : ℕ) → IsList leaps → Passed leaps n k → listed_before leaps n ≡ k
