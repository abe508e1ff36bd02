-- The answer for one number, and for all, by the grounds that hold.
-- Assumes nothing.
use mathlib.Core.Path.{◌≡◌, refl, sym, ap, ◌∙◌}
use mathlib.Core.Bool.{Bool, true, false, ◌||◌}
use mathlib.Core.List.{List, map}
use Prim.Native.Nat.{ℕ, ◌≤◌, ◌<◌}
use lib.Dec.{eqb, ltb}
use lib.Ieee.{Float}
use lib.ListN.{length}
use borrow.Author.Tests.{eq-eqb, ne_eqb, lt-ltb, le-ltb}
use Rattle.ground.specs.Choice.{pick}
use Rattle.ground.proofs.LawsChoice.{yes, no}
use Rattle.ground.proofs.LawsTests.{or_second}
use Rattle.parity.specs.declared.Layout.{Layout}
use Rattle.parity.specs.Words.{ground_of}
use Rattle.floating.specs.Cases.{case_of, value_of}
use Rattle.spacelook.specs.Found.{Read, Refused}
use Rattle.spacelook.specs.Arrays.{count_of, row_of, size_of}
use Rattle.spacelook.specs.Numbers.{Filled, number_at, found_of, all_of, answer_of, filled_of, front_of, numbers_after, cases_after}

module _ (layout : Layout) (words : List ℕ) (field index : ℕ) where
  pub refused : (ground_of words ≡ 0 → ⊥) → Refused (ground_of words) ≡ found_of layout words field index
  unfolding found_of
  refused h = no _ refl (ne_eqb (ground_of words) 0 h) refl

  pub not_there : ground_of words ≡ 0 → count_of (row_of layout field) ≤ index → Refused 13 ≡ found_of layout words field index
  unfolding found_of
  not_there h k = yes _ refl (eq-eqb (ground_of words) 0 h) (no _ refl (le-ltb index (count_of (row_of layout field)) k) refl)

  pub there : ground_of words ≡ 0 → index < count_of (row_of layout field) → Read (number_at words (row_of layout field) index) ≡ found_of layout words field index
  unfolding found_of
  there h k = yes _ refl (eq-eqb (ground_of words) 0 h) (yes _ refl (lt-ltb index (count_of (row_of layout field)) k) refl)

-- ---- all of them

abbrev filled_by : Layout → ℕ → Filled
filled_by layout n = record { number = n; count = pick (eqb n 0) (size_of layout).1 0 }

module _ (layout : Layout) (words : List ℕ) (room cases : ℕ) where
  pub all_refused : (ground_of words ≡ 0 → ⊥) → ground_of words ≡ answer_of layout words room cases
  unfolding answer_of
  all_refused h = no _ refl (ne_eqb (ground_of words) 0 h) refl

  small : ground_of words ≡ 0 → (ltb room (size_of layout).1 || ltb cases (size_of layout).1) ≡ true → 9 ≡ answer_of layout words room cases
  unfolding answer_of
  small h t = yes _ refl (eq-eqb (ground_of words) 0 h) (yes _ refl t refl)

  pub small_room : ground_of words ≡ 0 → room < (size_of layout).1 → 9 ≡ answer_of layout words room cases
  small_room h k = small h (ap (λ (t : Bool). t || ltb cases (size_of layout).1) (lt-ltb room (size_of layout).1 k))

  pub small_cases : ground_of words ≡ 0 → cases < (size_of layout).1 → 9 ≡ answer_of layout words room cases
  small_cases h k = small h (or_second (ltb room (size_of layout).1) (lt-ltb cases (size_of layout).1 k))

  pub enough : ground_of words ≡ 0 → (size_of layout).1 ≤ room → (size_of layout).1 ≤ cases → 0 ≡ answer_of layout words room cases
  unfolding answer_of
  enough h k l =
      yes _ refl (eq-eqb (ground_of words) 0 h)
      (no _ refl (ap (λ (t : Bool). t || ltb cases (size_of layout).1) (le-ltb room (size_of layout).1 k) ∙ le-ltb cases (size_of layout).1 l) refl)

-- what a refusal leaves, and what acceptance gives
module _ (layout : Layout) (words : List ℕ) (numbers : List Float) (cases : List ℕ) where
  abbrev Left : Filled → List Float → List ℕ → Type 0
  Left answer numbers' cases' =
      (answer ≡ filled_of layout words (length numbers) (length cases))
      × ((numbers' ≡ numbers_after layout words numbers (length cases)) × (cases' ≡ cases_after layout words (length numbers) cases))

  module _ {n : ℕ} (e : n ≡ answer_of layout words (length numbers) (length cases)) where
    pub leaves : (n ≡ 0 → ⊥) → Left (record { number = n; count = 0 }) numbers cases
    unfolding filled_of numbers_after cases_after
    leaves h =
        let t : eqb n 0 ≡ false = ne_eqb n 0 h in (
          ap (λ (u : Bool). record { number = n; count = pick u (size_of layout).1 0 }) (sym t) ∙ ap (filled_by layout) e,
          (no _ (ap (λ (k : ℕ). eqb k 0) e) t refl, no _ (ap (λ (k : ℕ). eqb k 0) e) t refl),
        )

    pub gives : n ≡ 0
        → Left (record { number = n; count = (size_of layout).1 }) (front_of (map value_of (all_of layout words)) numbers) (front_of (map case_of (all_of layout words)) cases)
    unfolding filled_of numbers_after cases_after
    gives h =
        let t : eqb n 0 ≡ true = eq-eqb n 0 h in (
          ap (λ (u : Bool). record { number = n; count = pick u (size_of layout).1 0 }) (sym t) ∙ ap (filled_by layout) e,
          (yes _ (ap (λ (k : ℕ). eqb k 0) e) t refl, yes _ (ap (λ (k : ℕ). eqb k 0) e) t refl),
        )
