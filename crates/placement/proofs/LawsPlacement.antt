-- What the definition of a placement comes to at each of its tests, for callers that keep it shut.
-- Assumes nothing.
use mathlib.Core.Path.{◌≡◌, refl}
use mathlib.Core.Bool.{Bool, true, false, or-true}
use mathlib.Core.Logic.{◌⊎◌, inl, inr, ⊎_elim}
use Prim.Native.Nat.{ℕ, ◌-◌, ◌≤◌, ◌<◌}
use native.Mathlib.Nat.{eq-zero-or-pos}
use native.Mathlib.Omega.{arith}
use lib.Dec.{ltb}
use lib.ListN.{get_or}
use borrow.Author.Tests.{lt-ltb, le-ltb, ltb-true, ltb-false, eq-eqb, ne_eqb}
use Rattle.ground.specs.Choice.{pick}
use Rattle.placement.specs.Placement.{◌det◌, held_in, records_held, no_record, accepted, refused_by, place_of}

lt_or_le : (a b : ℕ) (t : Bool) → ltb a b ≡ t → (a < b) ⊎ (b ≤ a)
lt_or_le a b true e = inl (ltb-true a b e)
lt_or_le a b false e = inr (ltb-false a b e)

-- a record that is not among the block's is 0 or above their number
pub zero_or_above : (n k : ℕ) → (1 ≤ k → k ≤ n → ⊥) → (k ≡ 0) ⊎ (n < k)
zero_or_above n k h = ⊎_elim inl (λ l. ⊎_elim inr (λ m. absurd (h l m)) (lt_or_le n k _ refl)) (eq-zero-or-pos k)

module _ (block version k : ℕ) where
  pub unknown_block : 11 < block → place_of block version k ≡ refused_by 4
  unfolding place_of
  unknown_block h = simp (lt-ltb 11 block h)

  pub unknown_version : block ≤ 11 → 3 < version → place_of block version k ≡ refused_by 5
  unfolding place_of
  unknown_version hb h = simp (le-ltb 11 block hb, lt-ltb 3 version h)

  module _ (hb : block ≤ 11) (hv : version ≤ 3) where
    last_test : (t : Bool) → no_record block version k ≡ t
        → place_of block version k ≡ pick t (refused_by 13) (accepted (get_or (held_in block version) (k - 1) (0 det 0)))
    unfolding place_of
    last_test true e = simp (le-ltb 11 block hb, le-ltb 3 version hv, e)
    last_test false e = simp (le-ltb 11 block hb, le-ltb 3 version hv, e)

    pub absent : (1 ≤ k → k ≤ records_held block version → ⊥) → place_of block version k ≡ refused_by 13
    absent h =
        last_test true
        (⊎_elim (λ e. simp (eq-eqb k 0 e)) (λ l. simp (lt-ltb (records_held block version) k l, or-true))
        (zero_or_above (records_held block version) k h))

    pub present : 1 ≤ k → k ≤ records_held block version
        → place_of block version k ≡ accepted (get_or (held_in block version) (k - 1) (0 det 0))
    present l m = last_test false (simp (ne_eqb k 0 (λ e. omega arith), le-ltb (records_held block version) k m))
