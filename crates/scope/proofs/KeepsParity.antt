-- The scope's statements on parity sections are kept: the fold is the XOR word by word, and what a block is refused for is
-- told by its tests.
-- Assumes nothing.
use Prim.Native.Nat.{ℕ, zero, suc, ◌<◌}
use mathlib.Core.Path.{◌≡◌, refl, sym, ap, ◌∙◌, subst}
use mathlib.Core.Logic.{◌⊎◌, inl, inr, ⊎_elim}
use mathlib.Core.Bool.{Bool, true, false, not, ◌||◌}
use mathlib.Core.List.{List, [], ◌∷◌, foldl}
use native.Mathlib.Omega.{arith}
use lib.Bits.{bit_xor, xor_zero_l, xor_zero_r}
use lib.Dec.{eqb, ltb}
use lib.ListN.{length, get_or}
use Rattle.ground.proofs.LawsGrounds.{reads_number}
use Rattle.ground.specs.Grounds.{◌when◌}
use Rattle.check_rule.proofs.LawsXor.{xor_assoc}
use Rattle.parity.specs.Sections.{xor_of, sections_in, verdicts_on, judged_as, refused_by, sections_of}
use Rattle.parity.specs.Words.{any_large, ground_of}
use Rattle.parity.specs.declared.Layout.{Layout}
use Rattle.parity.specs.declared.Layout.TheVariants.{ImagerSpacelook, SounderSpacelook}
use Rattle.parity.specs.Sections.{SectionsAnswer}
use Rattle.parity.proofs.LawsSections.{accepts, refuses}
use Rattle.parity.proofs.KeepsSections.{judged, covered}
use Rattle.scope.specs.Notions.{FirstOf}
use Rattle.scope.specs.Parity.{Xor, reasons, Judging}
use Rattle.scope.proofs.LawsReasons.{Tells, told_as, tells_true, tells_eq, tells_less, tells_not, tells_either, first_reason}

-- ---- the XOR

onto : (k : ℕ) (ws : List ℕ) → foldl bit_xor k ws ≡ bit_xor k (foldl bit_xor 0 ws)
onto k [] = sym (xor_zero_r k)
onto k (w ∷ ws) =
    onto (bit_xor k w) ws ∙ xor_assoc k w (foldl bit_xor 0 ws) ∙ ap (bit_xor k) (sym (onto w ws) ∙ ap (λ (x : ℕ). foldl bit_xor x ws) (sym (xor_zero_l w)))

one_more : (w : ℕ) (ws : List ℕ) → xor_of (w ∷ ws) ≡ bit_xor w (xor_of ws)
unfolding xor_of
one_more w ws = ap (λ (x : ℕ). foldl bit_xor x ws) (xor_zero_l w) ∙ onto w ws

none : xor_of [] ≡ 0
unfolding xor_of
none = refl

pub xor : Xor
xor = record { none = none; one_more = one_more }

-- ---- a word above 255

abbrev pub Large : List ℕ → Type 0
Large ws = (i : ℕ) × (255 < get_or ws i 0)

module _ (found : Bool) (w : ℕ) (ws : List ℕ) where
  tells_next : Tells (found || ltb 255 w) ((found ≡ true) ⊎ (255 < w))
  tells_next = tells_either (tells_true found) (tells_less 255 w)

  is_next : (found ≡ true) ⊎ (255 < w) → found || ltb 255 w ≡ true
  is_next h = by (found || ltb 255 w) tells_next
    where
      by : (t : Bool) → Tells t ((found ≡ true) ⊎ (255 < w)) → t ≡ true
      by true k = refl
      by false k = absurd (k.no refl h)

  large_there : (found || ltb 255 w ≡ true) ⊎ Large ws → (found ≡ true) ⊎ Large (w ∷ ws)
  large_there (inl e) = ⊎_elim (λ f. inl f) (λ h. inr (0, h)) (tells_next.yes e)
  large_there (inr p) = inr (suc p.0, p.1)

  large_at : (i : ℕ) → 255 < get_or (w ∷ ws) i 0 → (found || ltb 255 w ≡ true) ⊎ Large ws
  large_at zero h = inl (is_next (inr h))
  large_at (suc i) h = inr (i, h)

  large_back : (found ≡ true) ⊎ Large (w ∷ ws) → (found || ltb 255 w ≡ true) ⊎ Large ws
  large_back (inl e) = inl (is_next (inl e))
  large_back (inr p) = large_at p.0 p.1

tells_large_from : (found : Bool) (ws : List ℕ) → Tells (foldl (λ f w. f || ltb 255 w) found ws) ((found ≡ true) ⊎ Large ws)
tells_large_from found [] = told_as (λ e. inl e, ⊎_elim (λ e. e) (λ p. absurd (omega (arith, p.1)))) (tells_true found)
tells_large_from found (w ∷ ws) = told_as (large_there found w ws, large_back found w ws) (tells_large_from (found || ltb 255 w) ws)

pub tells_large : (ws : List ℕ) → Tells (any_large ws) (Large ws)
unfolding any_large
tells_large ws = told_as (⊎_elim (λ e. absurd ((tells_true false).no refl e)) (λ p. p), λ p. inr p) (tells_large_from false ws)

-- ---- the verdicts

ground : (ws : List ℕ) → FirstOf (reasons ws) (ground_of ws)
unfolding ground_of
ground ws =
    first_reason ((8 when not (eqb (length ws) 8040)) ∷ (14 when any_large ws) ∷ []) (reasons ws)
    (refl, tells_not (tells_eq (length ws) 8040), λ _ _. (refl, tells_large ws, λ _ _. tt))

same_number : (layout : Layout) (ws : List ℕ) → (sections_of layout ws).number ≡ ground_of ws
unfolding sections_of
same_number layout ws =
    reads_number (judged_as (length (sections_in layout)) (verdicts_on layout ws)) refused_by (λ (r : SectionsAnswer). r.number) refl (λ _. refl) (ground_of ws)

accepted : (layout : Layout) (ws : List ℕ) → (sections_of layout ws).number ≡ 0 → judged_as (length (sections_in layout)) (verdicts_on layout ws) ≡ sections_of layout ws
accepted layout ws h = accepts layout ws (sym (same_number layout ws) ∙ h)

pub judging : Judging
judging = record {
  ground = ground;
  number = λ layout ws. subst (FirstOf (reasons ws)) (sym (same_number layout ws)) (ground ws);
  count = λ ws h. (
    ap (λ (r : SectionsAnswer). r.count) (sym (accepted ImagerSpacelook ws h)),
    ap (λ (r : SectionsAnswer). r.count) (sym (accepted SounderSpacelook ws (same_number SounderSpacelook ws ∙ sym (same_number ImagerSpacelook ws) ∙ h))),
  );
  refused = λ layout ws n. refuses layout ws (λ e. n (same_number layout ws ∙ e)) ∙ ap refused_by (sym (same_number layout ws));
  verdicts = judged;
  covered = covered;
}
