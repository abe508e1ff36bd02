-- What is promised of the numbers of a spacelook block. Words count from 1. The proofs are in proofs/KeepsNumbers.antt and
-- proofs/KeepsArrays.antt.
-- Assumes nothing.
use Rattle.std.specs.Prelude.{ℕ, ◌+◌, ◌-◌, ◌*◌, ◌≤◌, ◌<◌, ◌≡◌, ◌⊎◌, ◌&&◌, List, [], ◌∷◌, ◌++◌, map, leb, ltb, Float, length, get_or, drop}
use Rattle.ground.specs.Choice.{pick}
use Rattle.parity.specs.Words.{ground_of}
use Rattle.parity.specs.declared.Layout.{Layout}
use Rattle.parity.specs.declared.Layout.TheVariants.{ImagerSpacelook, SounderSpacelook}
use Rattle.floating.specs.Floating.{reading_of}
use Rattle.floating.specs.Cases.{case_of, value_of}
use Rattle.floating.specs.declared.Reading.{Reading}
use Rattle.floating.specs.declared.Reading.TheVariants.{Zero}
use Rattle.spacelook.specs.declared.Array.{Array}
use Rattle.spacelook.specs.Found.{Read, Refused}
use Rattle.spacelook.specs.Answers.{answer_in, case_in, value_in}
use Rattle.spacelook.specs.Arrays.{first_word, count_of, arrays_in}
use Rattle.spacelook.specs.Numbers.{found_of, all_of, answer_of, filled_of, numbers_after, cases_after}

-- the number in word k and the three behind it, of which word k is the highest
abbrev pub number_from : List ℕ → ℕ → Reading
number_from ws k = reading_of (get_or ws (k - 1) 0 * 0x1000000 + get_or ws k 0 * 0x10000 + get_or ws (k + 1) 0 * 0x100 + get_or ws (k + 2) 0)

-- A field begins with word `first` and has so many numbers, its index from 0 on; among all numbers they stand from place `start` on, which
-- is counted from 0. An index behind the last is 13.
pub record Reads (layout : Layout) (field first count start : ℕ) : Type 0 where
  pub there : (ws : List ℕ) (i : ℕ) → ground_of ws ≡ 0 → i < count → found_of layout ws field i ≡ Read (number_from ws (first + 4 * i))
  pub not_there : (ws : List ℕ) (i : ℕ) → ground_of ws ≡ 0 → count ≤ i → found_of layout ws field i ≡ Refused 13
  pub among : (ws : List ℕ) (i : ℕ) → i < count → get_or (all_of layout ws) (start + i) Zero ≡ number_from ws (first + 4 * i)

-- a field that is none from 1 to the last
abbrev pub NoMore : Layout → ℕ → Type 0
NoMore layout last = (ws : List ℕ) (field i : ℕ) → ground_of ws ≡ 0 → (field < 1) ⊎ (last < field) → found_of layout ws field i ≡ Refused 13

-- Table 3-22 of source 001: what it calls 4 x N, by its names.
pub record Imager : Type 0 where
  pub umndoh : Reads ImagerSpacelook 1 403 15 0
  pub fmndoh : Reads ImagerSpacelook 2 463 15 15
  pub usddoh : Reads ImagerSpacelook 3 523 15 30
  pub fscdoh : Reads ImagerSpacelook 4 583 15 45
  pub fsrdoh : Reads ImagerSpacelook 5 643 7 60
  pub fstdh : Reads ImagerSpacelook 6 671 7 67
  pub umnodd : Reads ImagerSpacelook 7 883 15 74
  pub fmnodd : Reads ImagerSpacelook 8 943 15 89
  pub usdodd : Reads ImagerSpacelook 9 1003 15 104
  pub fscodd : Reads ImagerSpacelook 10 1063 15 119
  pub fsrodd : Reads ImagerSpacelook 11 1123 7 134
  pub fstodd : Reads ImagerSpacelook 12 1151 7 141
  pub idprm1 : Reads ImagerSpacelook 13 1183 120 148
  pub idprm2 : Reads ImagerSpacelook 14 1663 120 268
  pub idprm3 : Reads ImagerSpacelook 15 2143 120 388
  pub idprm4 : Reads ImagerSpacelook 16 2623 120 508
  pub idprm5 : Reads ImagerSpacelook 17 3103 120 628
  pub idprm6 : Reads ImagerSpacelook 18 3583 120 748
  pub idprm7 : Reads ImagerSpacelook 19 4063 120 868
  pub idpom1 : Reads ImagerSpacelook 20 4543 120 988
  pub idpom2 : Reads ImagerSpacelook 21 5023 120 1108
  pub idpom3 : Reads ImagerSpacelook 22 5503 120 1228
  pub idpom4 : Reads ImagerSpacelook 23 5983 120 1348
  pub idpom5 : Reads ImagerSpacelook 24 6463 120 1468
  pub idpom6 : Reads ImagerSpacelook 25 6943 120 1588
  pub idpom7 : Reads ImagerSpacelook 26 7423 120 1708
  pub no_more : NoMore ImagerSpacelook 26
  pub all : (ws : List ℕ) → length (all_of ImagerSpacelook ws) ≡ 1828

-- Table 3-26 of source 000, which is Table 3-24 of source 001.
pub record Sounder : Type 0 where
  pub ufmev : Reads SounderSpacelook 1 1135 76 0
  pub fmev : Reads SounderSpacelook 2 1439 76 76
  pub ufsdv : Reads SounderSpacelook 3 1743 76 152
  pub fsdv : Reads SounderSpacelook 4 2047 76 228
  pub fsrv : Reads SounderSpacelook 5 2351 72 304
  pub fstv : Reads SounderSpacelook 6 2639 72 376
  pub no_more : NoMore SounderSpacelook 6
  pub all : (ws : List ℕ) → length (all_of SounderSpacelook ws) ≡ 448

-- How many of the arrays have word k.
unfoldable pub times_in : List Array → ℕ → ℕ
times_in [] k = 0
times_in (a ∷ rest) k = pick (leb (first_word a) k && ltb k (first_word a + 4 * count_of a)) 1 0 + times_in rest k

-- No two arrays overlap and each lies inside the block: the words from 403 to 698, from 883 to 1178 and from 1183 to 7902 of the Imager's are
-- in one array, those from 1135 to 2926 of the Sounder's, and no other word is in any. So none has a parity word in it: 222, 702, 1182 and
-- 7906, or 222 and 2927.
pub record Apart : Type 0 where
  pub imager : (k : ℕ) → ((403 ≤ k) × (k ≤ 698)) ⊎ (((883 ≤ k) × (k ≤ 1178)) ⊎ ((1183 ≤ k) × (k ≤ 7902))) → times_in (arrays_in ImagerSpacelook) k ≡ 1
  pub imager_none : (k : ℕ) → (k < 403) ⊎ (((698 < k) × (k < 883)) ⊎ (((1178 < k) × (k < 1183)) ⊎ (7902 < k))) → times_in (arrays_in ImagerSpacelook) k ≡ 0
  pub sounder : (k : ℕ) → 1135 ≤ k → k ≤ 2926 → times_in (arrays_in SounderSpacelook) k ≡ 1
  pub sounder_none : (k : ℕ) → (k < 1135) ⊎ (2926 < k) → times_in (arrays_in SounderSpacelook) k ≡ 0

-- What is read, in numbers: the answer 0, the reading's case, and its value.
abbrev pub Told : Type 0
Told = (r : Reading) → (answer_in (Read r) ≡ 0) × (case_in (Read r) ≡ case_of r) × (value_in (Read r) ≡ value_of r)

-- A refusal of the block comes before 13; of all numbers a refusal gives its number and 0, and leaves both rooms as they were.
abbrev pub Behind : Type 0
Behind = (layout : Layout) (ws : List ℕ) (field i : ℕ) → (ground_of ws ≡ 0 → ⊥) → found_of layout ws field i ≡ Refused (ground_of ws)

pub record Filling (layout : Layout) (ws : List ℕ) (numbers : List Float) (cases : List ℕ) : Type 0 where
  pub refused : (answer_of layout ws (length numbers) (length cases) ≡ 0 → ⊥)
      → (filled_of layout ws (length numbers) (length cases) ≡ record { number = answer_of layout ws (length numbers) (length cases); count = 0 })
      × (numbers_after layout ws numbers (length cases) ≡ numbers)
      × (cases_after layout ws (length numbers) cases ≡ cases)
  pub accepted : answer_of layout ws (length numbers) (length cases) ≡ 0
      → let n = length (all_of layout ws) in
      (filled_of layout ws (length numbers) (length cases) ≡ record { number = 0; count = n })
      × (numbers_after layout ws numbers (length cases) ≡ map value_of (all_of layout ws) ++ drop n numbers)
      × (cases_after layout ws (length numbers) cases ≡ map case_of (all_of layout ws) ++ drop n cases)
