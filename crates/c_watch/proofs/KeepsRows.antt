-- The row of a watch follows it. What an offer puts into the row fits: a tag that was read is within its bounds, and an expected block is at
-- most 10.
-- Assumes nothing.
use Prim.Native.Nat.{ℕ, ◌+◌, ◌≤◌}
use mathlib.Core.Path.{◌≡◌, refl, sym, ap, ◌∙◌}
use mathlib.Core.List.{List, [], ◌∷◌}
use native.Mathlib.Omega.{arith}
use lib.Dec.{eqb}
use Rattle.ground.proofs.LawsChoice.{either}
use Rattle.tag.specs.Tags.{tag_of}
use Rattle.tag.proofs.LawsBounds.{facts}
use Rattle.tag.proofs.LawsTags.{good_bounds}
use Rattle.watch_bounds.specs.Bounds.{refusal_of}
use Rattle.watch_bounds.specs.declared.Watch.{Watch}
use Rattle.watch_bounds.proofs.LawsBounds.{accepted_for, to_ten}
use Rattle.watch.specs.Fills.{filled}
use Rattle.watch.specs.Offers.{Offer, after}
use Rattle.watch.specs.Rules.{Begun, Stepped, idle, expecting, step_of}
use Rattle.watch.proofs.KeepsRules.{beginning}
use Rattle.watch.proofs.LawsTurn.{Turn, refuses, strays, opens, closes, keeps, turn}
use Rattle.c_watch.specs.Watches.{watch_in, numbers_of_watch, row_after, row_begun}
use Rattle.c_watch.specs.Promises.{rows_after, RowFollows}
use Rattle.c_numbers.proofs.LawsNumbers.{within, marked}
use Rattle.c_tags.proofs.LawsTimes.{Held, tag_again, bounded_held}

watch_again : (w : Watch) → w.expected ≤ 255 → Held w.last → watch_in (numbers_of_watch w) ≡ w
watch_again w e h = λ i. record { opened = marked w.opened i; expected = sym (within _ _ e) i; last = tag_again w.last h i; limit = w.limit; fill = w.fill }

idle_again : (limit : ℕ) → watch_in (numbers_of_watch (idle limit)) ≡ idle limit
idle_again limit = watch_again (idle limit) (omega arith) (record { year = omega arith; day = omega arith; hour = omega arith; minute = omega arith; second = omega arith; ms = omega arith })

module _ (leaps row : List ℕ) (b v : ℕ) (s : List ℕ) where
  abbrev w : Watch
  w = watch_in row

  open_again : refusal_of leaps w b s ≡ 0 → (n set : ℕ) → n ≤ 255 → watch_in (numbers_of_watch (expecting n (tag_of s) w.limit set)) ≡ expecting n (tag_of s) w.limit set
  open_again e n set h = watch_again (expecting n (tag_of s) w.limit set) h (bounded_held leaps (tag_of s) (facts leaps (tag_of s) (good_bounds leaps s (accepted_for leaps w b s e).tag)))

  followed : {r : Stepped} → Turn leaps w b v s r → watch_in (row_after r row) ≡ r.next
  followed (refuses h) = refl
  followed (strays e o z) = refl
  followed (opens e z) = open_again e 1 (filled 0 0 v) (omega arith)
  followed (closes e o y) = either (λ (v : Watch). watch_in (numbers_of_watch v) ≡ v) (eqb b 0) (λ _. open_again e 1 (filled 0 0 v) (omega arith)) (λ _. idle_again w.limit)
  followed (keeps e o m q n) = open_again e (w.expected + 1) (filled w.fill w.expected v) (omega (arith, to_ten w (accepted_for leaps w b s e).expected o))

offers : (row : List ℕ) (os : List Offer) → watch_in (rows_after row os) ≡ after (watch_in row) os
unfolding rows_after after
offers row [] = refl
offers row (o ∷ os) =
    offers (row_after (step_of o.leaps (watch_in row) o.block o.valid o.tag) row) os
    ∙ ap (λ (v : Watch). after v os) (followed o.leaps row o.block o.valid o.tag (turn o.leaps (watch_in row) o.block o.valid o.tag))

pub row_follows : RowFollows
row_follows = record {
  begun = λ limit row h. ap (λ (r : Begun). watch_in (row_begun r row)) (beginning.taken limit h) ∙ idle_again limit;
  offered = offers;
}
