-- The scope's statements on the Sounder's status are kept: each test tells its reason, and what is promised of the status bits is so of the
-- detectors that are asked for.
-- Assumes nothing.
use Prim.Native.Nat.{ℕ, suc, ◌≤◌, ◌<◌, suc-le-suc}
use mathlib.Core.Path.{◌≡◌, refl, sym, ap, ◌∙◌, subst}
use mathlib.Core.Logic.{◌⊎◌, inl, inr, ⊎_elim}
use mathlib.Core.Bool.{Bool, true, false, not, ◌||◌}
use mathlib.Core.List.{List, [], ◌∷◌}
use Rattle.std.specs.Prelude.{Option}
use native.Mathlib.Nat.{le_of_suc-le-suc, lt_of_not-le}
use native.Mathlib.Omega.{arith}
use lib.Dec.{eqb, ltb}
use lib.ListN.{length, get_or}
use borrow.Author.Tests.{eqb-true, eqb-false, not-true, not-false}
use Rattle.ground.specs.Choice.{pick}
use Rattle.detectors.specs.Status.{spare_zero, channel_of, detector_of, suspects_of}
use Rattle.detectors.specs.Promises as Detectors
use Rattle.detectors.specs.Promises.{Inside, sum_to}
use Rattle.detectors.specs.declared.Detector.{Detector}
use Rattle.detectors.proofs.KeepsDetectors as Kept
use Rattle.sounder.specs.Frame.{frame_of, first_out}
use Rattle.sounder.specs.Judging.{status_of, asked_of}
use Rattle.sounder.specs.Promises.{status, Out, NoneOut, Plain, SpareZero}
use Rattle.sounder.specs.Judging.{Asked}
use Rattle.sounder.proofs.LawsWords.{part_long}
use Rattle.sounder.proofs.KeepsFrame.{framing}
use Rattle.sounder.proofs.KeepsSounder.{judging, asking, asked_suspect, asked_no_word, ten_words}
use Rattle.calendar.proofs.KeepsLists.{is_list}
use Rattle.scope.specs.Notions.{◌if◌, FirstOf}
use Rattle.scope.specs.Sounder.{status_bit, reasons, asked_reasons, NoneSuspect, FirstSuspect, Suspects, Status}
use Rattle.scope.proofs.LawsReasons.{Tells, tells_eq, tells_not, tells_less, tells_either, decided, behind}
use Rattle.scope.proofs.LawsGrounds.{fill_bit}
use Rattle.scope.proofs.KeepsParity.{tells_large}
use Rattle.scope.proofs.KeepsLeapTags.{to_days, tells_list}

-- ---- each test tells its reason

module _ (ws : List ℕ) where
  abbrev Spare : Type 0
  Spare = (i : ℕ) × (76 ≤ i) × (i < 80) × (status_bit i ws ≡ 1)

  tells_spare : length (status ws) ≡ 10 → Tells (not (spare_zero (status ws))) Spare
  unfolding spare_zero
  tells_spare ten = record {
    yes = λ y. let r = fill_bit 76 (status ws) (not-true _ y) in (r.0, r.1, omega (arith, r.2), r.3);
    no = λ n s. omega (arith, sym ((Kept.sparing (status ws) ten).0 (not-false _ n) s.0 s.1 s.2) ∙ s.3);
  }

  tells_frame : Tells (not (eqb (first_out (frame_of ws)) 0)) ((k : ℕ) × Out ws k)
  tells_frame = record {
    yes = λ y. (_, ((framing.lowest ws _).1 (refl, eqb-false (first_out (frame_of ws)) 0 (not-true _ y))).out);
    no = λ n o. (framing.none ws).1 (eqb-true (first_out (frame_of ws)) 0 (not-false _ n)) o.0 o.1;
  }

-- ---- the numbers

module _ (leaps ws : List ℕ) where
  abbrev n : ℕ
  n = (status_of leaps ws).number

  -- a block of 8,040 words, none of them large
  plain : length ws ≡ 8040 → ((i : ℕ) × (255 < get_or ws i 0) → ⊥) → Plain ws
  plain long none = record { long = long; small = λ i. le_of_suc-le-suc (lt_of_not-le (λ l. none (i, l))) }

  no_spare : length (status ws) ≡ 10 → (Spare ws → ⊥) → SpareZero ws
  no_spare ten none = (Kept.sparing (status ws) ten).0 (by (spare_zero (status ws)) (tells_spare ws ten))
    where
      by : (t : Bool) → Tells (not t) (Spare ws) → t ≡ true
      by true k = refl
      by false k = absurd (none (k.yes refl))

  number : FirstOf (reasons leaps ws) n
  number =
      let N = judging.number leaps ws in
      decided (tells_not (tells_eq (length ws) 8040)) (λ _ h. (N.wrong_length h).0)
      (λ e _.
      let long = eqb-true (length ws) 8040 (not-false _ e) in
      let ten = part_long ws 32 10 (omega arith) in
      decided (tells_large ws) (λ _ l. (N.large_word long l.0 l.1).0)
      (λ _ small.
      let p = plain long small in
      decided (tells_spare ws ten) (λ y s. (N.spare_bit p (λ z. omega (arith, sym (z s.0 s.1 s.2) ∙ s.3))).0)
      (λ _ none.
      let zero = no_spare ten none in
      decided (tells_frame ws) (λ y _. (N.out_of_range p zero _ ((framing.lowest ws _).1 (refl, eqb-false (first_out (frame_of ws)) 0 (not-true _ y)))).0)
      (λ _ inside.
      let out : NoneOut ws = λ k o. inside (k, o) in
      decided (tells_list leaps) (λ _ b. (N.bad_list p zero out (λ l. b (to_days leaps l))).0)
      (λ g _. (N.accepted p zero out (is_list leaps (not-false _ g))).0)))))

  -- ---- one that is asked for

  abbrev Outside : ℕ → ℕ → Type 0
  Outside c d = (c < 1) ⊎ ((19 < c) ⊎ ((d < 1) ⊎ (4 < d)))

  is_inside : (c d : ℕ) → (Outside c d → ⊥) → Inside c d
  is_inside c d h = record {
    from_channel = lt_of_not-le (λ l. h (inl (suc-le-suc l)));
    to_channel = le_of_suc-le-suc (lt_of_not-le (λ l. h (inr (inl l))));
    from_detector = lt_of_not-le (λ l. h (inr (inr (inl (suc-le-suc l)))));
    to_detector = le_of_suc-le-suc (lt_of_not-le (λ l. h (inr (inr (inr l)))));
  }

  no_inside : (c d : ℕ) → Outside c d → Inside c d → ⊥
  no_inside c d (inl l) w = omega (arith, w.from_channel)
  no_inside c d (inr (inl l)) w = omega (arith, w.to_channel)
  no_inside c d (inr (inr (inl l))) w = omega (arith, w.from_detector)
  no_inside c d (inr (inr (inr l))) w = omega (arith, w.to_detector)

  tells_outside : (c d : ℕ) → Tells (ltb c 1 || (ltb 19 c || (ltb d 1 || ltb 4 d))) (Outside c d)
  tells_outside c d = tells_either (tells_less c 1) (tells_either (tells_less 19 c) (tells_either (tells_less d 1) (tells_less 4 d)))

  accepted_asked : (c d : ℕ) → n ≡ 0 → FirstOf (13 if Outside c d ∷ []) (asked_of leaps ws c d).number
  accepted_asked c d z =
      decided (tells_outside c d) (λ _ o. ap (λ (a : Asked). a.number) (asking.outside leaps ws c d z (no_inside c d o)))
      (λ _ i. (asking.taken leaps ws c d z (is_inside c d i)).0)

  asked_number : (c d : ℕ) → FirstOf (asked_reasons leaps ws c d) (asked_of leaps ws c d).number
  asked_number c d =
      behind (reasons leaps ws) (13 if Outside c d ∷ []) (unzero, (unzero, (unzero, (unzero, (unzero, tt))))) number
      (λ z. ap (λ (a : Asked). a.number) (asking.refused leaps ws c d z)) (accepted_asked c d)
    where
      unzero : {m : ℕ} → suc m ≡ 0 → ⊥
      unzero e = omega arith

  asked_word : (c d : ℕ) → (asked_of leaps ws c d).word ≡ (status_of leaps ws).word
  asked_word c d = by (eqb n 0) refl
    where
      by : (t : Bool) → eqb n 0 ≡ t → (asked_of leaps ws c d).word ≡ (status_of leaps ws).word
      by true e = asked_no_word leaps ws (eqb-true n 0 e) c d ∙ sym (judging.no_word leaps ws (λ f. omega (arith, eqb-true n 0 e)))
      by false e = ap (λ (a : Asked). a.word) (asking.refused leaps ws c d (eqb-false n 0 e))

  asked_mark : (c d : ℕ) → ((asked_of leaps ws c d).number ≡ 0 → ⊥) → (asked_of leaps ws c d).suspect ≡ false
  asked_mark c d h = by (eqb n 0) refl (ltb c 1 || (ltb 19 c || (ltb d 1 || ltb 4 d))) refl
    where
      by : (t : Bool) → eqb n 0 ≡ t → (u : Bool) → ltb c 1 || (ltb 19 c || (ltb d 1 || ltb 4 d)) ≡ u → (asked_of leaps ws c d).suspect ≡ false
      by false e u f = ap (λ (a : Asked). a.suspect) (asking.refused leaps ws c d (eqb-false n 0 e))
      by true e true f = ap (λ (a : Asked). a.suspect) (asking.outside leaps ws c d (eqb-true n 0 e) (no_inside c d ((tells_outside c d).yes f)))
      by true e false f = absurd (h (asking.taken leaps ws c d (eqb-true n 0 e) (is_inside c d ((tells_outside c d).no f))).0)

  -- ---- the suspects

  module _ (z : n ≡ 0) where
    same : (c d : ℕ) → Detectors.is_suspect (status ws) c d ≡ (asked_of leaps ws c d).suspect
    same c d = sym (asked_suspect leaps ws z c d)

    ten : length (status ws) ≡ 10
    ten = ten_words leaps ws z

    says_first : (status_of leaps ws).first ≡ (suspects_of (status ws)).first
    says_first = (judging.says leaps ws z).first

    none_asked : Detectors.NoneSuspect (status ws) → NoneSuspect leaps ws
    none_asked h c d i = sym (same c d) ∙ h c d i

    asked_none : NoneSuspect leaps ws → Detectors.NoneSuspect (status ws)
    asked_none h c d i = same c d ∙ h c d i

    first_asked : (c d : ℕ) → Detectors.FirstSuspect (status ws) c d → FirstSuspect leaps ws c d
    first_asked c d f = record {
      inside = f.inside;
      is_suspect_is = sym (same c d) ∙ f.is_suspect_is;
      none_before = λ c' d' i b. sym (same c' d') ∙ f.none_before c' d' i b;
    }

    abbrev First-so : Option Detector → Type 0
    First-so f = (NoneSuspect leaps ws × (channel_of f ≡ 0) × (detector_of f ≡ 0)) ⊎ FirstSuspect leaps ws (channel_of f) (detector_of f)

    found : First-so (suspects_of (status ws)).first
    found =
        ⊎_elim (λ h. inl (none_asked h.0, h.1, h.2))
        (λ f. inr (first_asked (channel_of (suspects_of (status ws)).first) (detector_of (suspects_of (status ws)).first) f)) ((Kept.finding).first (status ws) ten)

    suspects : Suspects leaps ws
    suspects = record {
      suspect = λ c d i w e. asking.suspect leaps ws c d i z w e;
      count = (judging.says leaps ws z).suspects ∙ Kept.counting (status ws) ten ∙ (λ i. sum_to 19 (λ c. sum_to 4 (λ d. pick (same (suc c) (suc d) i) 1 0)));
      first = subst First-so (sym says_first) found;
      nobody =
          let k = (Kept.finding).nobody (status ws) ten in (λ e. none_asked (k.0 (sym says_first ∙ e)), λ h. says_first ∙ k.1 (asked_none h));
      none_counted =
          let k = (Kept.finding).none_counted (status ws) ten in
          let e = (judging.says leaps ws z).suspects in
          (λ f. e ∙ k.0 (sym says_first ∙ f), λ h. says_first ∙ k.1 (sym e ∙ h));
    }

pub sounder : Status
sounder = record {
  refusing = record {
    number = number;
    word = judging.word;
    no_word = judging.no_word;
    asked_number = asked_number;
    asked_word = asked_word;
    asked_mark = asked_mark;
  };
  suspects = suspects;
  says = judging.says;
  refused = judging;
  asking = asking;
  frame = framing;
  examples = Kept.examples;
}
