-- Offers one after the other: a list of them and one more, what holds of every watch that was begun idle, and that such a watch stays
-- within its bounds.
-- Assumes nothing.
use mathlib.Core.Path.{◌≡◌, refl, sym, ap, ◌∙◌, subst}
use Prim.Native.Nat.{ℕ, ◌+◌, ◌^◌, ◌≤◌, ◌<◌}
use native.Mathlib.Numerals.{add-one}
use native.Mathlib.Omega.{arith}
use mathlib.Core.Bool.{Bool, true, false, not, ◌&&◌, ◌||◌}
use mathlib.Core.List.{List, [], ◌∷◌, ◌++◌, append_assoc, append-nil}
use lib.Arith.{lt_of_le-ne}
use lib.Dec.{eqb, ltb}
use borrow.Author.Tests.{eq-eqb, ne_eqb, le-ltb, lt-ltb}
use Rattle.ground.proofs.LawsChoice.{either}
use Rattle.ground.proofs.LawsGrounds.{none_first, none_append}
use Rattle.ground.proofs.LawsTests.{both, first, second, not_second}
use Rattle.calendar.specs.Leaps.{good_list}
use Rattle.tag.specs.Tags.{tag_of, good_tag, in_bounds}
use Rattle.tag.proofs.LawsTags.{good_bounds}
use Rattle.watch_rule.specs.Rules.{last_of_scan}
use Rattle.watch_bounds.specs.Bounds.{bad_limit, bad_expected, bad_fill, bad_last, lent, offered, grounds, refusal_of}
use Rattle.watch_bounds.specs.declared.Watch.{Watch}
use Rattle.watch_bounds.proofs.LawsBounds.{accepted_for, to_ten}
use Rattle.watch_bounds.proofs.KeepsNumbers.{under}
use Rattle.watch.specs.Verdicts.{number_of}
use Rattle.watch.specs.Fills.{filled}
use Rattle.watch.specs.Rules.{Stepped, idle, opening, step_of}
use Rattle.watch.specs.Offers.{Offer, next_of, verdict_of, after, is_accepted, begins, none_begins, OneList}
use Rattle.watch.specs.Promises.{BegunBy}
use Rattle.watch.proofs.LawsFills.{filled_below}
use Rattle.watch.proofs.LawsTurn.{Turn, refuses, strays, opens, closes, keeps, turn}
use Rattle.watch.proofs.KeepsRules.{by_refusal}

-- ---- a list of offers and one more

pub after_more : (w : Watch) (xs ys : List Offer) → after w (xs ++ ys) ≡ after (after w xs) ys
unfolding after
after_more w [] ys = refl
after_more w (x ∷ xs) ys = after_more (next_of w x) xs ys

pub after_one : (w : Watch) (os : List Offer) (o : Offer) → after w (os ++ (o ∷ [])) ≡ next_of (after w os) o
unfolding after
after_one w os o = after_more w os (o ∷ [])

pub none_one : (w : Watch) (os : List Offer) (o : Offer) → none_begins w os ≡ true → begins (after w os) o ≡ false → none_begins w (os ++ (o ∷ [])) ≡ true
unfolding after none_begins
none_one w [] o h n = ap (λ (b : Bool). not b && true) n
none_one w (x ∷ os) o h n = both (first (not (begins w x)) _ h) (none_one (next_of w x) os o (second (not (begins w x)) _ h) n)

-- Where the scan that began stands now.
pub stands_at : (w : Watch) (os : List Offer) (B : BegunBy w os) → after w os ≡ after (after w B.earlier) (B.first ∷ B.since)
stands_at w os B = ap (after w) B.parts ∙ after_more w B.earlier (B.first ∷ B.since)

-- The scan goes on, or begins with the offer.
module _ (w : Watch) (os : List Offer) (o : Offer) where
  unfoldable pub goes_on : BegunBy w os → begins (after w os) o ≡ false → BegunBy w (os ++ (o ∷ []))
  unfolding after
  goes_on B n = record {
    earlier = B.earlier;
    first = B.first;
    since = B.since ++ (o ∷ []);
    parts = ap (λ (l : List Offer). l ++ (o ∷ [])) B.parts ∙ append_assoc B.earlier (B.first ∷ B.since) (o ∷ []);
    begun = B.begun;
    none_since = none_one (next_of (after w B.earlier) B.first) B.since o B.none_since (ap (λ (v : Watch). begins v o) (sym (stands_at w os B)) ∙ n);
  }

  unfoldable pub starts : begins (after w os) o ≡ true → BegunBy w (os ++ (o ∷ []))
  unfolding none_begins
  starts h = record { earlier = os; first = o; since = []; parts = refl; begun = h; none_since = refl }

-- Whether an offer is accepted, and whether it begins a scan.
module _ (w : Watch) (o : Offer) where
  number : number_of (verdict_of w o) ≡ refusal_of o.leaps w o.block o.tag
  number = by_refusal o.leaps w o.block o.valid o.tag

  pub is_taken : refusal_of o.leaps w o.block o.tag ≡ 0 → is_accepted w o ≡ true
  is_taken e = eq-eqb (number_of (verdict_of w o)) 0 (number ∙ e)

  pub is_refused : (refusal_of o.leaps w o.block o.tag ≡ 0 → ⊥) → is_accepted w o ≡ false
  is_refused n = ne_eqb (number_of (verdict_of w o)) 0 (λ e. n (sym number ∙ e))

  pub is_first : o.block ≡ 0 → refusal_of o.leaps w o.block o.tag ≡ 0 → begins w o ≡ true
  is_first z e = both (eq-eqb o.block 0 z) (is_taken e)

  pub not_first : (o.block ≡ 0 → ⊥) → begins w o ≡ false
  not_first n = ap (λ (z : Bool). z && is_accepted w o) (ne_eqb o.block 0 n)

  pub not_taken : (refusal_of o.leaps w o.block o.tag ≡ 0 → ⊥) → begins w o ≡ false
  not_taken n = not_second (eqb o.block 0) (is_refused n)

-- ---- what holds of every watch that was begun idle

module _ (l : ℕ) (P : List Offer → Watch → Type 0) where
  abbrev Holds : List Offer → Type 0
  Holds os = P os (after (idle l) os)

  module _ (one_on : (os : List Offer) (o : Offer) → Holds os → P (os ++ (o ∷ [])) (next_of (after (idle l) os) o)) where
    further : (xs os : List Offer) → Holds xs → Holds (xs ++ os)
    further xs [] I = subst Holds (sym (append-nil xs)) I
    further xs (o ∷ os) I =
        subst Holds (append_assoc xs (o ∷ []) os) (further (xs ++ (o ∷ [])) os (subst (P (xs ++ (o ∷ []))) (sym (after_one (idle l) xs o)) (one_on xs o I)))

    pub every : P [] (idle l) → (os : List Offer) → Holds os
    unfolding after
    every I os = further [] os I

-- what one offer does, by its own list
pub turn_of : (w : Watch) (o : Offer) → Turn o.leaps w o.block o.valid o.tag (step_of o.leaps w o.block o.valid o.tag)
turn_of w o = turn o.leaps w o.block o.valid o.tag

-- ---- the bounds

pub record Bound (w : Watch) : Type 0 where
  pub expected : bad_expected w ≡ false
  pub fill : bad_fill w ≡ false

in_scan : (set b v : ℕ) → set < 2 ^ b → not (ltb (filled set b v) (2 ^ (b + 1))) ≡ false
in_scan set b v h = ap not (lt-ltb (filled set b v) (2 ^ (b + 1)) (subst (λ (n : ℕ). filled set b v < 2 ^ n) (sym (add-one b)) (filled_below set b v h)))

module _ (leaps : List ℕ) (w : Watch) (b v : ℕ) (s : List ℕ) where
  bound_open : Bound (opening v (tag_of s) w.limit)
  bound_open = record { expected = refl; fill = in_scan 0 0 v (omega arith) }

  stays_bound : Bound w → {r : Stepped} → Turn leaps w b v s r → Bound r.next
  stays_bound B (refuses n) = B
  stays_bound B (strays e i n) = B
  stays_bound B (opens e z) = bound_open
  stays_bound B (closes e i y) = either Bound (eqb b 0) (λ z. bound_open) (λ z. record { expected = refl; fill = refl })
  stays_bound B (keeps e i m q n) =
      let p : w.expected < last_of_scan = lt_of_le-ne (to_ten w B.expected i) (λ z. n (q ∙ z)) in
      record {
        expected = λ j. le-ltb (w.expected + 1) 1 (omega arith) j || le-ltb last_of_scan (w.expected + 1) (omega arith) j;
        fill = in_scan w.fill w.expected v (under w B.fill i);
      }

  -- the last tag is good by the list that judged it
  good_last : refusal_of leaps w b s ≡ 0 → not (in_bounds leaps (tag_of s)) ≡ false
  good_last e = ap not (good_bounds leaps s (accepted_for leaps w b s e).tag)

  stays_last : bad_last leaps w ≡ false → {r : Stepped} → Turn leaps w b v s r → bad_last leaps r.next ≡ false
  stays_last h (refuses n) = h
  stays_last h (strays e i n) = h
  stays_last h (opens e z) = good_last e
  stays_last h (closes e i y) = either (λ (u : Watch). bad_last leaps u ≡ false) (eqb b 0) (λ z. good_last e) (λ z. refl)
  stays_last h (keeps e i m q n) = good_last e

pub bound_after : (l : ℕ) (os : List Offer) → Bound (after (idle l) os)
bound_after l =
    every l (λ _ w. Bound w) (λ os o B. let w = after (idle l) os in stays_bound o.leaps w o.block o.valid o.tag B (turn_of w o)) (record { expected = refl; fill = refl })

pub none_holds : (leaps : List ℕ) (w : Watch) (b : ℕ) (s : List ℕ) → bad_limit w ≡ false → Bound w → good_list leaps ≡ true → bad_last leaps w ≡ false → b ≤ 11 → good_tag leaps s ≡ true → refusal_of leaps w b s ≡ 0
unfolding refusal_of
none_holds leaps w b s l B k t known g =
    none_first (grounds leaps w b (good_tag leaps s))
    (none_append (lent leaps w) (offered b (good_tag leaps s)) (l, (B.expected, (B.fill, (ap not k, (t, tt))))) (le-ltb 11 b known, (ap not g, tt)))

-- ---- one list throughout

module _ (leaps : List ℕ) where
  pub one_list_split : (xs : List Offer) (o : Offer) (ys : List Offer) → OneList leaps (xs ++ (o ∷ ys)) → OneList leaps xs × (o.leaps ≡ leaps)
  unfolding OneList
  one_list_split [] o ys h = (tt, h.0)
  one_list_split (x ∷ xs) o ys h = let r = one_list_split xs o ys h.1 in ((h.0, r.0), r.1)

  pub one_list_more : (xs : List Offer) (o : Offer) → OneList leaps xs → o.leaps ≡ leaps → OneList leaps (xs ++ (o ∷ []))
  unfolding OneList
  one_list_more [] o h e = (e, tt)
  one_list_more (x ∷ xs) o h e = (h.0, one_list_more xs o h.1 e)

  -- what one offer does, by that list
  pub turn_by : (w : Watch) (o : Offer) → o.leaps ≡ leaps → Turn leaps w o.block o.valid o.tag (step_of o.leaps w o.block o.valid o.tag)
  turn_by w o e = subst (λ (d : List ℕ). Turn d w o.block o.valid o.tag (step_of o.leaps w o.block o.valid o.tag)) e (turn_of w o)

  pub last_after : (l : ℕ) (os : List Offer) → OneList leaps os → bad_last leaps (after (idle l) os) ≡ false
  last_after l =
      every l (λ os w. OneList leaps os → bad_last leaps w ≡ false)
      (λ os o I h.
      let s = one_list_split os o [] h in
      let w = after (idle l) os in
      stays_last leaps w o.block o.valid o.tag (I s.0) (turn_by w o s.1))
      (λ h. refl)
