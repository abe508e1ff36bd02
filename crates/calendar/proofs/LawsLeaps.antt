-- The walks over a list of leap days: what one day adds to whether it has a day, how many of its days are before one, and whether it rises.
-- Assumes nothing.
use mathlib.Core.Path.{◌≡◌, refl, sym, ◌∙◌}
use Prim.Native.Nat.{ℕ, suc, ◌+◌, ◌≤◌, ◌<◌}
use native.Mathlib.Omega.{arith}
use mathlib.Core.Bool.{Bool, true, false, ◌&&◌, ◌||◌}
use mathlib.Core.List.{List, [], ◌∷◌, foldl}
use lib.Dec.{eqb}
use mir.Val.{bool_byte}
use lib.ListN.{length, get_or, take, drop}
use lib.Seq.{take_all}
use Rattle.ground.specs.Choice.{pick}
use Rattle.ground.proofs.LawsTests.{or_assoc, or_false}
use Rattle.ground.proofs.LawsWalk as Walk
use Rattle.ground.proofs.LawsWalk.{Walking, step, here, finish}
use Rattle.calendar.specs.Leaps.{most_leaps, follows, rises_from, listed, counts_for, listed_before}

pub at_most_1 : (t : Bool) → pick t 1 0 ≤ 1
at_most_1 true = omega arith
at_most_1 false = omega arith

pub as_one : (t : Bool) → bool_byte t ≡ pick t 1 0
as_one true = refl
as_one false = refl

-- ---- whether it has a day

pub find_all : (n : ℕ) (found : Bool) (ds : List ℕ) → foldl (λ (t : Bool) (d : ℕ). t || eqb d n) found ds ≡ (found || listed ds n)
unfolding listed
find_all n found [] = or_false found
find_all n found (d ∷ ds) = find_all n (found || eqb d n) ds ∙ or_assoc found (eqb d n) (listed ds n)

module _ (leaps : List ℕ) (n : ℕ) where
  -- ---- how many of its days are before one

  abbrev more : ℕ → List ℕ → ℕ
  more k ds = k + listed_before ds n

  pub record Counting (count i : ℕ) : Type 0 where
    pub walk : Walking more 0 leaps count i
    pub most : count ≤ i

  pub count_start : Counting 0 0
  count_start = record { walk = Walk.start more 0 leaps; most = omega arith }

  pub count_next : {count i one : ℕ} → Counting count i → i < length leaps → one ≡ pick (counts_for (get_or leaps i 0) n) 1 0 → Counting (count + one) (i + 1)
  unfolding listed_before
  count_next {count} {i} s h e =
      record {
        walk = step more 0 leaps s.walk h (omega (arith, e));
        most = omega (arith, e, s.most, at_most_1 (counts_for (get_or leaps i 0) n));
      }

  pub counted : {count i : ℕ} → Counting count i → length leaps ≤ i → count ≡ listed_before leaps n
  unfolding listed_before
  counted {count} s h = omega (arith, finish more 0 leaps s.walk h)

module _ (leaps : List ℕ) where
  -- ---- whether it rises

  abbrev pub Rising : ℕ → ℕ → Type 0
  Rising before i = Walking rises_from 0 leaps before i

  module _ {before i : ℕ} (s : Rising before i) where
    abbrev test : Bool
    test = follows before (get_or leaps i 0)

    pub rise_next : {t : Bool} → i < length leaps → t ≡ test → t ≡ true → Rising (get_or leaps i 0) (i + 1)
    unfolding rises_from
    rise_next h e y = step rises_from 0 leaps s h (λ j. (sym y ∙ e) j && rises_from (get_or leaps i 0) (drop (suc i) leaps))

    pub falls : {t : Bool} → i < length leaps → t ≡ test → t ≡ false → false ≡ rises_from 0 leaps
    unfolding rises_from
    falls h e y = (λ j. (sym y ∙ e) j && rises_from (get_or leaps i 0) (drop (suc i) leaps)) ∙ here rises_from 0 leaps s h

    pub risen : length leaps ≤ i → true ≡ rises_from 0 leaps
    unfolding rises_from
    risen h = finish rises_from 0 leaps s h

-- ---- the first days of a list

pub firsts : (leaps : List ℕ) → length leaps ≤ most_leaps → take most_leaps leaps ≡ leaps
firsts leaps h = take_all most_leaps leaps h
