-- What the definition of a refusal comes to at each test, where those before it did not hold.
-- Assumes nothing.
use Rattle.std.specs.Prelude.{Result, Ok, Err, IsErrAnd}
use mathlib.Core.Path.{◌≡◌, refl, sym, ap, ◌∙◌, subst}
use mathlib.Core.Bool.{Bool, true, false}
use mathlib.Core.List.{List}
use Prim.Native.Nat.{ℕ}
use native.Mathlib.Omega.{arith}
use lib.Dec.{eqb}
use borrow.Author.Tests.{eqb-true, eqb-false, eq-eqb, ne_eqb}
use Rattle.parity.specs.Words.{ground_of}
use Rattle.calendar.specs.Leaps.{good_list}
use Rattle.detectors.specs.Status.{spare_zero}
use Rattle.sounder.specs.Words.{status_in}
use Rattle.sounder.specs.Frame.{frame_of, first_out}
use Rattle.sounder.specs.declared.Fault.{Fault}
use Rattle.sounder.specs.Judging.{Refusal, bare, refusal_of}

-- what the exit of a `?` returns
pub passed_on : {T : Type 0} {f : Fault} (r : Result T Fault) → IsErrAnd r (λ y. y ≡ f) → r ≡ Err f
passed_on (Ok x) h = absurd h
passed_on (Err y) h = ap Err h

module _ (leaps words : List ℕ) where
  pub bad_words : {n : ℕ} → n ≡ ground_of words → (n ≡ 0 → ⊥) → bare n ≡ refusal_of leaps words
  unfolding refusal_of
  bad_words e h = ap bare e ∙ sym (rw (ne_eqb (ground_of words) 0 (λ z. h (e ∙ z))))

  module _ (plain : ground_of words ≡ 0) where
    pub spare_set : spare_zero (status_in words) ≡ false → bare 21 ≡ refusal_of leaps words
    unfolding refusal_of
    spare_set s = sym (rw (eq-eqb (ground_of words) 0 plain, s))

    module _ (zero : spare_zero (status_in words) ≡ true) where
      pub field_out : {w : ℕ} → w ≡ first_out (frame_of words) → (w ≡ 0 → ⊥) → record { number = 22; word = w } ≡ refusal_of leaps words
      unfolding refusal_of
      field_out {w} e h =
          ap {B = Refusal} (λ (k : ℕ). record { number = 22; word = k }) e
          ∙ sym (rw (eq-eqb (ground_of words) 0 plain, zero, ne_eqb (first_out (frame_of words)) 0 (λ z. h (e ∙ z))))

      module _ (inside : first_out (frame_of words) ≡ 0) where
        pub bad_list : good_list leaps ≡ false → bare 19 ≡ refusal_of leaps words
        unfolding refusal_of
        bad_list l = sym (rw (eq-eqb (ground_of words) 0 plain, zero, eq-eqb (first_out (frame_of words)) 0 inside, l))

        pub none : good_list leaps ≡ true → bare 0 ≡ refusal_of leaps words
        unfolding refusal_of
        none l = sym (rw (eq-eqb (ground_of words) 0 plain, zero, eq-eqb (first_out (frame_of words)) 0 inside, l))

  -- what holds of each outcome of the tests, where its test decided, holds of the refusal
  pub by_tests : (P : Refusal → Type 0)
      → ((ground_of words ≡ 0 → ⊥) → P (bare (ground_of words)))
      → (ground_of words ≡ 0 → P (bare 21))
      → (ground_of words ≡ 0 → (first_out (frame_of words) ≡ 0 → ⊥) → P (record { number = 22; word = first_out (frame_of words) }))
      → (ground_of words ≡ 0 → P (bare 19))
      → (ground_of words ≡ 0 → good_list leaps ≡ true → P (bare 0))
      → P (refusal_of leaps words)
  by_tests P a b c d e = by (eqb (ground_of words) 0) (spare_zero (status_in words)) (eqb (first_out (frame_of words)) 0) (good_list leaps) refl refl refl refl
    where
      by : (g z f l : Bool) → eqb (ground_of words) 0 ≡ g → spare_zero (status_in words) ≡ z → eqb (first_out (frame_of words)) 0 ≡ f → good_list leaps ≡ l
          → P (refusal_of leaps words)
      by false z f l eg ez ef el = let n = eqb-false (ground_of words) 0 eg in subst P (bad_words refl n) (a n)
      by true false f l eg ez ef el = let p = eqb-true (ground_of words) 0 eg in subst P (spare_set p ez) (b p)
      by true true false l eg ez ef el =
          let p = eqb-true (ground_of words) 0 eg in
          let n = eqb-false (first_out (frame_of words)) 0 ef in
          subst P (field_out p ez refl n) (c p n)
      by true true true false eg ez ef el =
          let p = eqb-true (ground_of words) 0 eg in subst P (bad_list p ez (eqb-true (first_out (frame_of words)) 0 ef) el) (d p)
      by true true true true eg ez ef el =
          let p = eqb-true (ground_of words) 0 eg in subst P (none p ez (eqb-true (first_out (frame_of words)) 0 ef) el) (e p el)

  -- a block that is not refused is not refused for its words, nor by its list
  pub words_taken : (refusal_of leaps words).number ≡ 0 → ground_of words ≡ 0
  words_taken = by_tests (λ r. r.number ≡ 0 → ground_of words ≡ 0) (λ _ h. h) (λ p _. p) (λ p _ _. p) (λ p _. p) (λ p _ _. p)

  pub list_taken : (refusal_of leaps words).number ≡ 0 → good_list leaps ≡ true
  list_taken =
      by_tests (λ r. r.number ≡ 0 → good_list leaps ≡ true) (λ n h. absurd (n h)) (λ _ h. absurd (omega arith)) (λ _ _ h. absurd (omega arith)) (λ _ h. absurd (omega arith))
      (λ _ l _. l)
