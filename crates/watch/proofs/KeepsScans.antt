-- The promises on any offers are kept, those on time with one list. The invariant: the limit stays, and an open watch's last tag is no
-- earlier than its block 0's, and later by at most a limit for each block since.
-- Assumes nothing.
use mathlib.Core.Path.{◌≡◌, refl, sym, ap, ◌∙◌, subst}
use Prim.Native.Nat.{ℕ, zero, suc, ◌+◌, ◌*◌, ◌≤◌, ◌<◌}
use native.Mathlib.Numerals.{add-one}
use native.Mathlib.Omega.{arith}
use mathlib.Core.Bool.{true, false, not}
use mathlib.Core.List.{List, [], ◌∷◌, ◌++◌}
use lib.Dec.{eqb, ltb}
use lib.IntN.{pos}
use lib.Signed.{◌≤ℤ◌}
use borrow.Author.Tests.{eqb-true, le-ltb}
use Rattle.ground.proofs.LawsChoice.{either}
use Rattle.ground.proofs.LawsTests.{second, never}
use Rattle.calendar.specs.Leaps.{good_list}
use Rattle.calendar.proofs.KeepsLists.{list_is}
use Rattle.tag.specs.Tags.{tag_of, good_tag}
use Rattle.time.specs.Times.{Elapsed, time_of, between, elapsed_of}
use Rattle.tag.specs.declared.Tag.{Tag}
use Rattle.time.proofs.LawsTimes.{at_least_zero, at_most, not_back, not_late, answer, counted}
use Rattle.tag.proofs.KeepsTags.{good}
use Rattle.watch_rule.specs.Rules.{last_of_scan, closing_kind}
use Rattle.watch_rule.specs.declared.Closing.{Closing}
use Rattle.watch_bounds.specs.Bounds.{longest_wait, bad_limit, bad_expected, bad_fill, bad_last, refusal_of}
use Rattle.watch_bounds.specs.Promises.{Sound}
use Rattle.watch_bounds.specs.declared.Watch.{Watch}
use Rattle.watch_bounds.proofs.LawsBounds.{accepted_for, from_one}
use Rattle.watch_bounds.proofs.KeepsNumbers.{sound_for}
use Rattle.watch.specs.Verdicts.{number_of, kind_of}
use Rattle.watch.specs.Rules.{Stepped, idle, opening, keeping, step_of}
use Rattle.watch.specs.Offers.{Offer, verdict_of, after, begins, OneList, offer_of, blocks_before}
use Rattle.watch.specs.Promises.{Waits, InTime, BegunBy, Scan, AnyOffers}
use Rattle.watch.proofs.LawsTurn.{Timely, Turn, refuses, strays, opens, closes, keeps, Why, back, late, broken, complete}
use Rattle.watch.proofs.LawsOffers.{after_one, goes_on, starts, is_first, not_first, not_taken, every, Bound, bound_after, none_holds, one_list_split, one_list_more, turn_by, last_after}
use Rattle.watch.proofs.KeepsRules.{by_refusal, one_offer, accepted_offer}

module _ (leaps : List ℕ) where
  -- ---- the invariant

  -- Of an open watch: its block 0, and how far its last tag is from it.
  record Since (l : ℕ) (os : List Offer) (w : Watch) : Type 0 where
    by : BegunBy (idle l) os
    low : time_of leaps (tag_of by.first.tag) ≤ time_of leaps w.last
    high : time_of leaps w.last + l ≤ time_of leaps (tag_of by.first.tag) + w.expected * l

  record Inv (l : ℕ) (os : List Offer) (w : Watch) : Type 0 where
    limit : w.limit ≡ l
    since : w.opened ≡ true → Since l os w

  -- One block more, one limit more; ten limits at block 10.
  one_more : (s p q l m e : ℕ) → q ≤ p + m → m ≡ l → p + l ≤ s + e * l → q + l ≤ s + (e + 1) * l
  one_more s p q l m e h k i = omega arith

  ten_limits : (s p q l m e : ℕ) → q ≤ p + m → m ≡ l → p + l ≤ s + e * l → e ≡ 10 → q ≤ s + 10 * l
  ten_limits s p q l m e h k i n = omega (arith, ap (λ (x : ℕ). x * l) n)

  first_good : (w : Watch) (os : List Offer) (B : BegunBy w os) → OneList leaps os → good_tag leaps B.first.tag ≡ true
  first_good w os B one =
      let v = after w B.earlier in
      let o = B.first in
      let same = (one_list_split leaps B.earlier o B.since (subst (OneList leaps) B.parts one)).1 in
      let e = sym (by_refusal o.leaps v o.block o.valid o.tag) ∙ eqb-true (number_of (verdict_of v o)) 0 (second (eqb o.block 0) _ B.begun) in
      subst (λ (d : List ℕ). good_tag d o.tag ≡ true) same (accepted_for o.leaps v o.block o.tag e).tag

  module _ (l : ℕ) (os : List Offer) (o : Offer) (one : OneList leaps os) (same : o.leaps ≡ leaps) where
    abbrev w : Watch
    w = after (idle l) os

    abbrev b : ℕ
    b = o.block

    abbrev t : Tag
    t = tag_of o.tag

    abbrev longer : List Offer
    longer = os ++ (o ∷ [])

    -- the number by the offer's own list is that by the one list
    own : refusal_of o.leaps w b o.tag ≡ refusal_of leaps w b o.tag
    own = ap (λ (d : List ℕ). refusal_of d w b o.tag) same

    module _ (I : Inv l os w) where
      opened : b ≡ 0 → refusal_of leaps w b o.tag ≡ 0 → Inv l longer (opening o.valid t w.limit)
      unfolding starts
      opened z e = record {
        limit = I.limit;
        since = λ h. record { by = starts (idle l) os o (is_first w o z (own ∙ e)); low = omega arith; high = omega arith };
      }

      rests : Inv l longer (idle w.limit)
      rests = record { limit = I.limit; since = λ h. never h }

      kept : w.opened ≡ true → Timely leaps w t → begins w o ≡ false → Inv l longer (keeping w o.valid t).next
      unfolding goes_on
      kept h m n =
          let S : Since l os w = I.since h in
          record {
            limit = I.limit;
            since = λ h. record {
              by = goes_on (idle l) os o S.by n;
              low = omega (arith, S.low, not_back leaps w.last t m.forward);
              high = one_more (time_of leaps (tag_of S.by.first.tag)) (time_of leaps w.last) (time_of leaps t) l w.limit w.expected (not_late leaps w.last t w.limit m.forward m.soon) I.limit S.high;
            };
          }

      unmoved : begins w o ≡ false → Inv l longer w
      unfolding goes_on
      unmoved n = record {
        limit = I.limit;
        since = λ h. record { by = goes_on (idle l) os o (I.since h).by n; low = (I.since h).low; high = (I.since h).high };
      }

      turned : {r : Stepped} → Turn leaps w b o.valid o.tag r → Inv l longer r.next
      turned (refuses h) = unmoved (not_taken w o (λ e. h (sym own ∙ e)))
      turned (strays e i n) = unmoved (not_first w o n)
      turned (opens e z) = opened z e
      turned (closes e i y) = either (Inv l longer) (eqb b 0) (λ z. opened (eqb-true b 0 z) e) (λ z. rests)
      turned (keeps e i m q n) = kept i m (not_first w o (λ z. omega (arith, from_one w (accepted_for leaps w b o.tag e).expected i)))

      -- What completing says.
      ends : refusal_of leaps w b o.tag ≡ 0 → w.opened ≡ true → Timely leaps w t → b ≡ w.expected → b ≡ last_of_scan → Scan leaps l os o
      ends e i m q n =
          let S : Since l os w = I.since i in
          let x = S.by.first.tag in
          let d : elapsed_of leaps x o.tag ≡ answer 0 (between leaps (tag_of x) t) = counted leaps x o.tag (accepted_for leaps w b o.tag e).list (first_good (idle l) os S.by one) (accepted_for leaps w b o.tag e).tag in
          let low : time_of leaps (tag_of x) ≤ time_of leaps t = omega (arith, S.low, not_back leaps w.last t m.forward) in
          let high : time_of leaps t ≤ time_of leaps (tag_of x) + 10 * l =
          ten_limits (time_of leaps (tag_of x)) (time_of leaps w.last) (time_of leaps t) l w.limit w.expected (not_late leaps w.last t w.limit m.forward m.soon) I.limit S.high (sym q ∙ n) in
          record {
            by = S.by;
            ten = n;
            number = λ i. (d i).number;
            forward = subst (λ (a : Elapsed). pos 0 ≤ℤ a.ms) (sym d) (at_least_zero leaps (tag_of x) t low);
            soon = subst (λ (a : Elapsed). a.ms ≤ℤ pos (10 * l)) (sym d) (at_most leaps (tag_of x) t (10 * l) low high);
          }

      why_complete : refusal_of leaps w b o.tag ≡ 0 → w.opened ≡ true → {why : Closing} → Why leaps w b t why → closing_kind why ≡ 7 → Scan leaps l os o
      why_complete e i (back f) h = absurd (omega arith)
      why_complete e i (late f) h = absurd (omega arith)
      why_complete e i broken h = absurd (omega arith)
      why_complete e i (complete m q n) h = ends e i m q n

      scan : {r : Stepped} → Turn leaps w b o.valid o.tag r → kind_of r.verdict ≡ 7 → Scan leaps l os o
      scan (refuses n) h = absurd (omega arith)
      scan (strays e i n) h = absurd (omega arith)
      scan (opens e z) h = absurd (omega arith)
      scan (closes e i y) h = why_complete e i y h
      scan (keeps e i m q n) h = absurd (omega arith)

  always : (l : ℕ) (os : List Offer) → OneList leaps os → Inv l os (after (idle l) os)
  always l =
      every l (λ os w. OneList leaps os → Inv l os w)
      (λ os o I h.
      let s = one_list_split leaps os o [] h in
      turned l os o s.0 s.1 (I s.0) (turn_by leaps (after (idle l) os) o s.1))
      (λ h. record { limit = refl; since = λ o. never o })

  -- ---- a whole scan

  module _ (l : ℕ) (k : l ≤ longest_wait) (list : good_list leaps ≡ true) where
    taken_number : (os : List Offer) (o : Offer) → OneList leaps os → o.block ≤ 11 → good_tag leaps o.tag ≡ true → refusal_of leaps (after (idle l) os) o.block o.tag ≡ 0
    taken_number os o one b g =
        let w = after (idle l) os in
        none_holds leaps w o.block o.tag (ap (ltb longest_wait) (always l os one).limit ∙ le-ltb longest_wait l k) (bound_after l os) list (last_after leaps l os one) b g

    module _ (valid : ℕ → ℕ) (tag : ℕ → List ℕ) (tagged : (k : ℕ) → k ≤ 10 → good_tag leaps (tag k) ≡ true)
        (wait : (k : ℕ) → k < 10 → (pos 0 ≤ℤ between leaps (tag_of (tag k)) (tag_of (tag (suc k)))) × (between leaps (tag_of (tag k)) (tag_of (tag (suc k))) ≤ℤ pos l)) where
      -- the watch before block n is offered
      abbrev before : ℕ → Watch
      before n = after (idle l) (blocks_before n leaps valid tag)

      one_list : (n : ℕ) → OneList leaps (blocks_before n leaps valid tag)
      unfolding OneList blocks_before
      one_list zero = tt
      one_list (suc n) = one_list_more leaps (blocks_before n leaps valid tag) (offer_of leaps valid tag n) (one_list n) refl

      sound : (n : ℕ) → n ≤ 10 → Sound leaps (before n) n (tag n)
      sound n h = sound_for leaps (before n) n (tag n) (taken_number (blocks_before n leaps valid tag) (offer_of leaps valid tag n) (one_list n) (omega arith) (tagged n h))

      -- the next offer is in time
      timely : (n : ℕ) → n < 10 → Waits (before (suc n)) (suc n) (tag_of (tag n)) l → InTime leaps (before (suc n)) (suc n) (tag (suc n))
      timely n h W = record {
        taken = record { opened = W.opened; sound = sound (suc n) h };
        forward = subst (λ (t : Tag). pos 0 ≤ℤ between leaps t (tag_of (tag (suc n)))) (sym W.last) (wait n h).0;
        soon = subst (λ (t : Tag). between leaps t (tag_of (tag (suc n))) ≤ℤ pos (before (suc n)).limit) (sym W.last) (subst (λ (m : ℕ). between leaps (tag_of (tag n)) (tag_of (tag (suc n))) ≤ℤ pos m) (sym W.limit) (wait n h).1);
      }

      -- one block more
      next_is : (n : ℕ) → before (suc n) ≡ (step_of leaps (before n) n (valid n) (tag n)).next
      unfolding blocks_before
      next_is n = after_one (idle l) (blocks_before n leaps valid tag) (offer_of leaps valid tag n)

      waits_at : {u w : Watch} {b : ℕ} {t : Tag} → u ≡ w → Waits w b t l → Waits u b t l
      waits_at {u} {w} {b} {t} e W = subst (λ (x : Watch). Waits x b t l) (sym e) W

      stands : (n : ℕ) → n < 10 → Waits (before (suc n)) (suc n) (tag_of (tag n)) l
      unfolding after blocks_before
      stands zero h =
          waits_at (next_is 0) ((one_offer leaps).opening (idle l) 0 (valid 0) (tag 0) ((accepted_offer leaps).opens (idle l) 0 (valid 0) (tag 0) (record { idle = refl; sound = sound 0 (omega arith) }) refl))
      stands (suc n) h =
          let W = stands n (omega arith) in
          let w = before (suc n) in
          let K = (one_offer leaps).going_on w (suc n) (valid (suc n)) (tag (suc n)) ((accepted_offer leaps).kept w (suc n) (valid (suc n)) (tag (suc n)) (timely n (omega arith) W) (sym W.expected) (λ q. omega arith)) in
          waits_at (next_is (suc n)) (record { opened = K.opened; expected = K.expected ∙ add-one w.expected ∙ ap suc W.expected; last = K.last; limit = K.limit ∙ W.limit })

      ended : kind_of (verdict_of (before 10) (offer_of leaps valid tag 10)) ≡ 7
      ended =
          let W = stands 9 (omega arith) in
          (accepted_offer leaps).complete (before 10) 10 (valid 10) (tag 10) (timely 9 (omega arith) W) (sym W.expected) refl

  -- ---- never refused for itself

  -- Neither 13 nor 20 is among the numbers that are left.
  abbrev Others : ℕ → Type 0
  Others n = (n ≡ 13 → ⊥) × (n ≡ 20 → ⊥)

  others : (w : Watch) (b : ℕ) (s : List ℕ) → Bound w → Others (refusal_of leaps w b s)
  unfolding refusal_of
  others w b s B =
      either Others (bad_limit w) (λ _. (λ e. omega arith, λ e. omega arith)) (λ _.
      either Others (bad_expected w) (λ e. never (sym B.expected ∙ e)) (λ _.
      either Others (bad_fill w) (λ e. never (sym B.fill ∙ e)) (λ _.
      either Others (not (good_list leaps)) (λ _. (λ e. omega arith, λ e. omega arith)) (λ _.
      either Others (bad_last leaps w) (λ _. (λ e. omega arith, λ e. omega arith)) (λ _.
      either Others (ltb 11 b) (λ _. (λ e. omega arith, λ e. omega arith)) (λ _.
      either Others (not (good_tag leaps s)) (λ _. (λ e. omega arith, λ e. omega arith)) (λ _. (λ e. omega arith, λ e. omega arith))))))))

pub any_offers : (leaps : List ℕ) → AnyOffers leaps
any_offers leaps = record {
  completed = λ l os o one same h. scan leaps l os o one same (always leaps l os one) (turn_by leaps (after (idle l) os) o same) h;
  never_refused = λ l os o one same k list b t.
      let w = after (idle l) os in
      by_refusal o.leaps w o.block o.valid o.tag ∙ own leaps l os o one same ∙ taken_number leaps l k (list_is leaps list) os o one b (good leaps o.tag t);
  whole = λ l valid tag k list t w. ended leaps l k (list_is leaps list) valid tag (λ n h. good leaps (tag n) (t n h)) (λ n h.
      let e = counted leaps (tag n) (tag (suc n)) (list_is leaps list) (good leaps (tag n) (t n (omega arith))) (good leaps (tag (suc n)) (t (suc n) (omega arith))) in
      subst (λ (a : Elapsed). (pos 0 ≤ℤ a.ms) × (a.ms ≤ℤ pos l)) e (w n h));
  never_itself = λ l os o.
      let w = after (idle l) os in
      subst (Others leaps) (sym (by_refusal o.leaps w o.block o.valid o.tag)) (others o.leaps w o.block o.tag (bound_after l os));
}
