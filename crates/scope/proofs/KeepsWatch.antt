-- The statements on the watch are kept, with any leap days and with none: the grounds of refusal are told by their tests, each rule by the
-- promise on an accepted offer.
-- Assumes nothing.
use Prim.Native.Nat.{ℕ, ◌^◌, ◌≤◌, ◌<◌}
use mathlib.Core.Path.{◌≡◌, refl, sym, ◌∙◌, subst}
use mathlib.Core.Logic.{◌⊎◌, inl, inr}
use mathlib.Core.Bool.{Bool, true, false, not}
use mathlib.Core.List.{List, []}
use native.Mathlib.Omega.{arith}
use lib.Dec.{T, eqb, ltb}
use lib.IntN.{ℤ, pos}
use lib.Signed.{lt_z, ◌<ℤ◌, ◌≤ℤ◌, lt_z_yes, lt_z_no}
use borrow.Author.Tests.{eqb-true, ltb-true, ltb-false, not-true, not-false}
use Rattle.ground.specs.Choice.{pick}
use Rattle.ground.proofs.LawsTests.{never}
use Rattle.tag.specs.Tags.{tag_of, good_tag}
use Rattle.time.specs.Times.{between}
use Rattle.tag.specs.declared.Tag.{Tag}
use Rattle.watch_bounds.specs.Bounds.{bounding, bad_fill, grounds, refusal_of}
use Rattle.watch_bounds.specs.declared.Watch.{Watch}
use Rattle.watch_bounds.proofs.LawsSets.{below_all, top_block}
use Rattle.watch_bounds.proofs.KeepsNumbers.{sound_for}
use Rattle.watch.specs.Promises.{given, kind, Open, InTime}
use Rattle.watch.proofs.KeepsRules.{by_refusal, beginning, one_offer, accepted_offer}
use Rattle.watch.proofs.KeepsScans.{any_offers}
use Rattle.scope.specs.Notions.{FirstOf}
use Rattle.scope.specs.Tags.{Says}
use Rattle.scope.specs.Watch as Plain
use Rattle.scope.specs.Watch.{Outside, rules}
use Rattle.scope.specs.LeapSeconds.{refusals, Watching}
use Rattle.scope.proofs.LawsReasons.{Tells, tells_true, tells_eq, tells_less, tells_not, tells_both, tells_either, decided, first_reason, in_other_words}
use Rattle.scope.proofs.KeepsLeapTags.{says_only, tells_list, tells_bounds, tells_bad}
use Rattle.scope.proofs.KeepsTags.{no_days, same_bounds, same_bad}

-- ---- what an offer is refused for

tells_outside : (w : Watch) → Tells (bad_fill w) (Outside w)
tells_outside w = record {
  yes = λ e. let t = top_block w.fill (bounding w) (ltb-false w.fill (2 ^ bounding w) (not-true (ltb w.fill (2 ^ bounding w)) e)) in (t.0, t.1, out w.opened refl t.2);
  no = λ e o. in_scan o.0 (below_all w.fill (bounding w) o.0 (ltb-true w.fill (2 ^ bounding w) (not-false (ltb w.fill (2 ^ bounding w)) e)) o.1) o.2;
}
  where
    out : {b : ℕ} (o : Bool) → w.opened ≡ o → pick o w.expected 0 ≤ b → ((w.opened ≡ true) × (w.expected ≤ b)) ⊎ (w.opened ≡ false)
    out true e l = inl (e, l)
    out false e l = inr e

    in_scan : (b : ℕ) → b < bounding w → ((w.opened ≡ true) × (w.expected ≤ b)) ⊎ (w.opened ≡ false) → ⊥
    in_scan b l (inl p) = let k : b < w.expected = subst (λ (o : Bool). b < pick o w.expected 0) p.0 l in omega (arith, p.1)
    in_scan b l (inr e) = let k : b < 0 = subst (λ (o : Bool). b < pick o w.expected 0) e l in omega arith

tells_refusals : (leaps : List ℕ) (w : Watch) (b : ℕ) (s : List ℕ) → FirstOf (refusals leaps w b s) (refusal_of leaps w b s)
unfolding refusal_of
tells_refusals leaps w b s =
    first_reason (grounds leaps w b (good_tag leaps s)) (refusals leaps w b s) (
      refl,
      tells_less 3600000 w.limit,
      λ _ _. (
        refl,
        tells_both (tells_true w.opened) (tells_either (tells_less w.expected 1) (tells_less 10 w.expected)),
        λ _ _. (
          refl,
          tells_outside w,
          λ _ _. (
            refl,
            tells_list leaps,
            λ _ _. (
              refl,
              tells_both (tells_true w.opened) (tells_not (tells_bounds leaps w.last)),
              λ _ _. (
                refl,
                tells_less 11 b,
                λ _ _.
                    (refl, tells_bad leaps s, λ _ _. tt),
              ),
            ),
          ),
        ),
      ),
    )

-- ---- what an accepted offer does

tells_false : (t : Bool) → Tells (not t) (t ≡ false)
tells_false t = record { yes = not-true t; no = λ e f. never (sym f ∙ not-false t e) }

tells_before : (x y : ℤ) → Tells (lt_z x y) (x <ℤ y)
tells_before x y = record { yes = λ e. lt_z_yes (subst T (sym e) tt); no = λ e h. subst T e h.lt }

not_before : {x y : ℤ} → lt_z x y ≡ false → y ≤ℤ x
not_before e = lt_z_no (subst (λ (t : Bool). T (not t)) (sym e) tt)

module _ (leaps : List ℕ) (w : Watch) (b v : ℕ) (s : List ℕ) where
  by_rules : refusal_of leaps w b s ≡ 0 → FirstOf (rules leaps w b (tag_of s)) (kind leaps w b v s)
  by_rules accepted =
      let sound = sound_for leaps w b s accepted in
      decided (tells_both (tells_false w.opened) (tells_eq b 0))
      (λ _ p. (accepted_offer leaps).opens w b v s (record { idle = p.0; sound = sound }) p.1) (λ _ n.
      decided (tells_false w.opened)
      (λ _ o. (accepted_offer leaps).strays w b v s (record { idle = o; sound = sound }) (λ z. n (o, z))) (λ o _.
      let opened : Open leaps w b s = record { opened = not-false w.opened o; sound = sound } in
      decided (tells_before (between leaps w.last (tag_of s)) (pos 0))
      (λ _ h. (accepted_offer leaps).back w b v s opened h) (λ forward _.
      decided (tells_before (pos w.limit) (between leaps w.last (tag_of s)))
      (λ _ h. (accepted_offer leaps).late w b v s opened h) (λ soon _.
      let timely : InTime leaps w b s = record { taken = opened; forward = not_before forward; soon = not_before soon } in
      decided (tells_not (tells_eq b w.expected))
      (λ _ n. (accepted_offer leaps).broken w b v s timely n) (λ e _.
      let same : b ≡ w.expected = eqb-true b w.expected (not-false (eqb b w.expected) e) in
      decided (tells_eq b 10)
      (λ _ n. (accepted_offer leaps).complete w b v s timely same n) (λ _ n.
      inl (tt, (accepted_offer leaps).kept w b v s timely same n)))))))

  rule : (t : Tag) → Says s t → given leaps v w b s ≡ 0 → FirstOf (rules leaps w b t) (kind leaps w b v s)
  rule t y h = subst (λ (u : Tag). FirstOf (rules leaps w b u) (kind leaps w b v s)) (sym (says_only s t y)) (by_rules (sym (by_refusal leaps w b v s) ∙ h))

pub leap_watching : (leaps : List ℕ) → Watching leaps
leap_watching leaps = record {
  number = λ w b v s. subst (FirstOf (refusals leaps w b s)) (sym (by_refusal leaps w b v s)) (tells_refusals leaps w b s);
  rule = rule leaps;
  left = one_offer leaps;
  scans = any_offers leaps;
}

-- ---- with no leap days

-- reason by reason: the list is one, and the last tag and the offered one are judged as before
without : (w : Watch) (b : ℕ) (s : List ℕ) (n : ℕ) → FirstOf (refusals [] w b s) n → FirstOf (Plain.refusals w b s) n
without w b s n (inl p) = inl p
without w b s n (inr (l, inl p)) = inr (l, inl p)
without w b s n (inr (l, inr (e, inl p))) = inr (l, inr (e, inl p))
without w b s n (inr (l, inr (e, inr (f, inl p)))) = absurd (p.0 no_days)
without w b s n (inr (l, inr (e, inr (f, inr (d, inl p))))) = inr (l, inr (e, inr (f, inl ((p.0.0, λ b. p.0.1 ((same_bounds w.last).1 b)), p.1))))
without w b s n (inr (l, inr (e, inr (f, inr (d, inr (t, inl p)))))) = inr (l, inr (e, inr (f, inr (λ q. t (q.0, λ b. q.1 ((same_bounds w.last).0 b)), inl p))))
without w b s n (inr (l, inr (e, inr (f, inr (d, inr (t, inr (k, g))))))) =
    inr (l, inr (e, inr (f, inr (λ q. t (q.0, λ b. q.1 ((same_bounds w.last).0 b)), inr (k, in_other_words (same_bad s) g)))))

pub watching : Plain.Watching
watching = record {
  begun = beginning;
  number = λ w b v s. without w b s _ ((leap_watching []).number w b v s);
  rule = (leap_watching []).rule;
  left = (leap_watching []).left;
  scans = (leap_watching []).scans;
}
