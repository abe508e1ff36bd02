-- The promises on beginning and on one offer are kept, the latter case by case of what it did; the numbers as `watch_bounds` keeps them;
-- and what an accepted offer does, by the promises on the rules.
-- Assumes nothing.
use mathlib.Core.Path.{◌≡◌, refl, sym, ap, ◌∙◌}
use Prim.Native.Nat.{ℕ, ◌+◌, ◌^◌, ◌≤◌}
use native.Mathlib.Omega.{arith}
use mathlib.Core.Bool.{Bool, true, false, not, ◌&&◌, ◌||◌}
use mathlib.Core.List.{List, ◌∷◌}
use lib.Dec.{eqb, ltb}
use borrow.Author.Tests.{eq-eqb, ne_eqb, le-ltb, lt-ltb}
use Rattle.ground.specs.Choice.{pick}
use Rattle.ground.proofs.LawsChoice.{yes, no, either}
use Rattle.ground.specs.Grounds.{◌when◌, first_of}
use Rattle.ground.proofs.LawsTests.{never}
use Rattle.calendar.specs.Leaps.{good_list}
use Rattle.tag.specs.Tags.{tag_of, in_bounds, good_tag}
use Rattle.time.specs.Times.{between}
use Rattle.watch_rule.specs.Rules.{last_of_scan, rule_of, closing_kind}
use Rattle.watch_rule.specs.declared.Closing.{Closing}
use Rattle.watch_rule.specs.declared.Closing.TheVariants.{ClockBack, Late, Broken, Complete}
use Rattle.watch_rule.specs.declared.Rule.{Rule}
use Rattle.watch_rule.proofs.KeepsRules.{open_rules}
use Rattle.watch_bounds.specs.Bounds.{longest_wait, offered, refusal_of}
use Rattle.watch_bounds.specs.Promises.{Numbers}
use Rattle.watch_bounds.specs.declared.Watch.{Watch}
use Rattle.watch_bounds.proofs.KeepsNumbers as Bounds
use Rattle.watch_bounds.proofs.KeepsNumbers.{no_refusal}
use Rattle.watch.specs.Verdicts.{Verdict, Refused, Stray, Opened, number_of, kind_of}
use Rattle.watch.specs.Rules.{Stepped, idle, opening, after_closing, begin_of, following, on_idle, on_open, on_good, step_of}
use Rattle.watch.specs.Promises.{Waits, Beginning, given, kind, OneOffer, Idle, Open, AcceptedOffer}
use Rattle.watch.proofs.LawsSteps.{begun}
use Rattle.watch.proofs.LawsTurn as Turns
use Rattle.watch.proofs.LawsTurn.{Turn, refuses, strays, opens, keeps, turn}

-- ---- one offer, by what it did

pub from_four : (why : Closing) → 4 ≤ closing_kind why
from_four ClockBack = omega arith
from_four Late = omega arith
from_four Broken = omega arith
from_four Complete = omega arith

module _ (leaps : List ℕ) (w : Watch) (b v : ℕ) (s : List ℕ) where
  gives : {r : Stepped} → Turn leaps w b v s r → number_of r.verdict ≡ refusal_of leaps w b s
  gives (refuses h) = refl
  gives (strays e o z) = sym e
  gives (opens e z) = sym e
  gives (Turns.closes e o y) = sym e
  gives (keeps e o m q n) = sym e

  returned : {r : Stepped} → Turn leaps w b v s r → (number_of r.verdict ≡ 0 → ⊥) → (kind_of r.verdict ≡ 0) × (r.next ≡ w)
  returned (refuses h) n = (refl, refl)
  returned (strays e o z) n = absurd (n refl)
  returned (opens e z) n = absurd (n refl)
  returned (Turns.closes e o y) n = absurd (n refl)
  returned (keeps e o m q k) n = absurd (n refl)

  stays : {r : Stepped} → Turn leaps w b v s r → kind_of r.verdict ≡ 1 → r.next ≡ w
  stays (refuses h) x = refl
  stays (strays e o z) x = refl
  stays (opens e z) x = absurd (omega arith)
  stays (Turns.closes e o {why} y) x = absurd (omega (arith, from_four why))
  stays (keeps e o m q k) x = absurd (omega arith)

  pub opened : {r : Stepped} → Turn leaps w b v s r → kind_of r.verdict ≡ 2 → r.next ≡ opening v (tag_of s) w.limit
  opened (refuses h) x = absurd (omega arith)
  opened (strays e o z) x = absurd (omega arith)
  opened (opens e z) x = refl
  opened (Turns.closes e o {why} y) x = absurd (omega (arith, from_four why))
  opened (keeps e o m q k) x = absurd (omega arith)

  pub closed : {r : Stepped} → Turn leaps w b v s r → 4 ≤ kind_of r.verdict → r.next ≡ after_closing b v (tag_of s) w.limit
  closed (refuses h) x = absurd (omega arith)
  closed (strays e o z) x = absurd (omega arith)
  closed (opens e z) x = absurd (omega arith)
  closed (Turns.closes e o y) x = refl
  closed (keeps e o m q k) x = absurd (omega arith)

  goes_on : {r : Stepped} → Turn leaps w b v s r → kind_of r.verdict ≡ 3 → Waits r.next (w.expected + 1) (tag_of s) w.limit
  goes_on (refuses h) x = absurd (omega arith)
  goes_on (strays e o z) x = absurd (omega arith)
  goes_on (opens e z) x = absurd (omega arith)
  goes_on (Turns.closes e o {why} y) x = absurd (omega (arith, from_four why))
  goes_on (keeps e o m q k) x = record { opened = refl; expected = refl; last = refl; limit = refl }

  same_limit : {r : Stepped} → Turn leaps w b v s r → r.next.limit ≡ w.limit
  same_limit (refuses h) = refl
  same_limit (strays e o z) = refl
  same_limit (opens e z) = refl
  same_limit (Turns.closes e o y) = either (λ (u : Watch). u.limit ≡ w.limit) (eqb b 0) (λ z. refl) (λ z. refl)
  same_limit (keeps e o m q k) = refl

  -- the watch that block 0 leaves open
  waits_for_one : {u : Watch} → u ≡ opening v (tag_of s) w.limit → Waits u 1 (tag_of s) w.limit
  waits_for_one e = record { opened = λ i. (e i).opened; expected = λ i. (e i).expected; last = λ i. (e i).last; limit = λ i. (e i).limit }

  pub anew : 4 ≤ kind leaps w b v s → b ≡ 0 → (step_of leaps w b v s).next ≡ opening v (tag_of s) w.limit
  anew h z = closed (turn leaps w b v s) h ∙ ap (λ (c : Bool). pick c (opening v (tag_of s) w.limit) (idle w.limit)) (eq-eqb b 0 z)

  at_rest : 4 ≤ kind leaps w b v s → (b ≡ 0 → ⊥) → (step_of leaps w b v s).next ≡ idle w.limit
  at_rest h n = closed (turn leaps w b v s) h ∙ ap (λ (c : Bool). pick c (opening v (tag_of s) w.limit) (idle w.limit)) (ne_eqb b 0 n)

  pub by_refusal : given leaps v w b s ≡ refusal_of leaps w b s
  by_refusal = gives (turn leaps w b v s)

-- ---- the numbers given

pub numbers : (leaps : List ℕ) (v : ℕ) → Numbers leaps (given leaps v)
numbers leaps v =
    let N = Bounds.numbers leaps in
    record {
      limit = λ w b s h. by_refusal leaps w b v s ∙ N.limit w b s h;
      expected = λ w b s l n. by_refusal leaps w b v s ∙ N.expected w b s l n;
      fill = λ w b s l e n. by_refusal leaps w b v s ∙ N.fill w b s l e n;
      list = λ w b s l e f n. by_refusal leaps w b v s ∙ N.list w b s l e f n;
      last = λ w b s l e f k o n. by_refusal leaps w b v s ∙ N.last w b s l e f k o n;
      block = λ w b s h k. by_refusal leaps w b v s ∙ N.block w b s h k;
      tag = λ w b s h k n. by_refusal leaps w b v s ∙ N.tag w b s h k n;
      accepted = λ w b s h. by_refusal leaps w b v s ∙ N.accepted w b s h;
    }

-- ---- an accepted offer, rule by rule

module _ (leaps : List ℕ) (w : Watch) (b v : ℕ) (s : List ℕ) where
  on_idle_is : Idle leaps w b s → step_of leaps w b v s ≡ on_idle w b v (tag_of s)
  unfolding step_of on_good
  on_idle_is o = sym (yes _ refl (eq-eqb (refusal_of leaps w b s) 0 (no_refusal leaps w b s o.sound)) (no _ refl o.idle refl))

  on_open_is : Open leaps w b s → step_of leaps w b v s ≡ on_open w b v (tag_of s) (between leaps w.last (tag_of s))
  unfolding step_of on_good
  on_open_is o = sym (yes _ refl (eq-eqb (refusal_of leaps w b s) 0 (no_refusal leaps w b s o.sound)) (yes _ refl o.opened refl))

  -- the kind of a step
  kind_of_is : {q : Stepped} → step_of leaps w b v s ≡ q → kind leaps w b v s ≡ kind_of q.verdict
  kind_of_is e = ap (λ (r : Stepped). kind_of r.verdict) e

  by_rule : Open leaps w b s → {rule : Rule} → rule_of w.expected w.limit b (between leaps w.last (tag_of s)) ≡ rule → kind leaps w b v s ≡ kind_of (following w b v (tag_of s) rule).verdict
  by_rule o e = kind_of_is (on_open_is o) ∙ ap (λ (rule : Rule). kind_of (following w b v (tag_of s) rule).verdict) e

  opening_kind : Idle leaps w b s → b ≡ 0 → kind leaps w b v s ≡ 2
  unfolding on_idle
  opening_kind o z = kind_of_is (on_idle_is o ∙ sym (yes _ refl (eq-eqb b 0 z) refl))

  straying_kind : Idle leaps w b s → (b ≡ 0 → ⊥) → kind leaps w b v s ≡ 1
  unfolding on_idle
  straying_kind o n = kind_of_is (on_idle_is o ∙ sym (no _ refl (ne_eqb b 0 n) refl))

-- ---- an idle record

module _ (leaps : List ℕ) (b v : ℕ) (s : List ℕ) where
  -- The number of an idle watch, by its limit and its set alone, and the verdict by the number.
  abbrev idle_number : ℕ → ℕ → ℕ
  idle_number l set = first_of ((16 when ltb longest_wait l) ∷ (20 when not (ltb set 1)) ∷ (19 when not (good_list leaps)) ∷ offered b (good_tag leaps s))

  abbrev idle_verdict : ℕ → Verdict
  idle_verdict n = pick (eqb n 0) (pick (eqb b 0) Opened Stray) (Refused n)

  by_limit : (w : Watch) → w.opened ≡ false → refusal_of leaps w b s ≡ idle_number w.limit w.fill
  unfolding refusal_of
  by_limit w o = λ i.
      first_of
      ((16 when ltb longest_wait w.limit) ∷ (13 when (o i && (ltb w.expected 1 || ltb last_of_scan w.expected))) ∷ (20 when not (ltb w.fill (2 ^ pick (o i) w.expected 0)))
      ∷ (19 when not (good_list leaps)) ∷ (12 when (o i && not (in_bounds leaps w.last))) ∷ offered b (good_tag leaps s))

  by_number : (w : Watch) → w.opened ≡ false → {r : Stepped} → Turn leaps w b v s r → r.verdict ≡ idle_verdict (refusal_of leaps w b s)
  by_number w i (refuses h) = sym (ap (λ (c : Bool). pick c (pick (eqb b 0) Opened Stray) (Refused (refusal_of leaps w b s))) (ne_eqb (refusal_of leaps w b s) 0 h))
  by_number w i (strays e o z) = sym (ap idle_verdict e ∙ ap (λ (c : Bool). pick c Opened Stray) (ne_eqb b 0 z))
  by_number w i (opens e z) = sym (ap idle_verdict e ∙ ap (λ (c : Bool). pick c Opened Stray) (eq-eqb b 0 z))
  by_number w i (Turns.closes e o y) = never (sym i ∙ o)
  by_number w i (keeps e o m q k) = never (sym i ∙ o)

  unread : (x y : Watch) → x.opened ≡ false → y.opened ≡ false → x.limit ≡ y.limit → x.fill ≡ y.fill → (step_of leaps x b v s).verdict ≡ (step_of leaps y b v s).verdict
  unread x y i j e f =
      by_number x i (turn leaps x b v s) ∙ ap idle_verdict (by_limit x i ∙ (λ k. idle_number (e k) (f k)) ∙ sym (by_limit y j)) ∙ sym (by_number y j (turn leaps y b v s))

-- ---- the promises

begins : (l : ℕ) (t : Bool) → ltb longest_wait l ≡ t → begin_of l ≡ pick t (begun 16 (idle 0)) (begun 0 (idle l))
unfolding begin_of
begins l t e = ap (λ (c : Bool). pick c (begun 16 (idle 0)) (begun 0 (idle l))) e

pub beginning : Beginning
beginning = record {
  taken = λ l h. begins l false (le-ltb longest_wait l h);
  refused = λ l h. begins l true (lt-ltb longest_wait l h);
}

pub one_offer : (leaps : List ℕ) → OneOffer leaps
one_offer leaps = record {
  refused = λ w b v s. returned leaps w b v s (turn leaps w b v s);
  stray = λ w b v s. stays leaps w b v s (turn leaps w b v s);
  unread = λ x y b v s. unread leaps b v s x y;
  opened_alike = λ x y b v s e h k.
      opened leaps x b v s (turn leaps x b v s) h ∙ ap (opening v (tag_of s)) e ∙ sym (opened leaps y b v s (turn leaps y b v s) k);
  opening = λ w b v s h. waits_for_one leaps w b v s (opened leaps w b v s (turn leaps w b v s) h);
  anew = λ w b v s h z. waits_for_one leaps w b v s (anew leaps w b v s h z);
  at_rest = at_rest leaps;
  going_on = λ w b v s. goes_on leaps w b v s (turn leaps w b v s);
  limit = λ w b v s. same_limit leaps w b v s (turn leaps w b v s);
}

pub accepted_offer : (leaps : List ℕ) → AcceptedOffer leaps
accepted_offer leaps = record {
  opens = opening_kind leaps;
  strays = straying_kind leaps;
  back = λ w b v s o h. by_rule leaps w b v s o ((open_rules w.expected w.limit).back b _ h);
  late = λ w b v s o h. by_rule leaps w b v s o ((open_rules w.expected w.limit).late b _ h);
  broken = λ w b v s t n. by_rule leaps w b v s t.taken ((open_rules w.expected w.limit).broken b _ t.forward t.soon n);
  complete = λ w b v s t e n. by_rule leaps w b v s t.taken ((open_rules w.expected w.limit).complete b _ t.forward t.soon e n);
  kept = λ w b v s t e n. by_rule leaps w b v s t.taken ((open_rules w.expected w.limit).keeps b _ t.forward t.soon e n);
  eleven = λ w v s t.
      let within : w.expected ≤ 10 = (t.taken.sound.watch.expected t.taken.opened).1 in
      by_rule leaps w 11 v s t.taken ((open_rules w.expected w.limit).broken 11 _ t.forward t.soon (λ e. omega arith));
}
