-- The promises on the fill blocks of one offer are kept, case by case of what it did.
-- Assumes nothing.
use mathlib.Core.Path.{◌≡◌, refl, sym, subst}
use Prim.Native.Nat.{ℕ, ◌^◌, ◌≤◌, ◌<◌}
use native.Mathlib.Omega.{arith}
use mathlib.Core.Bool.{true}
use mathlib.Core.List.{List}
use Rattle.tag.specs.Tags.{tag_of}
use Rattle.watch_bounds.specs.Bounds.{refusal_of}
use Rattle.watch_bounds.specs.declared.Watch.{Watch}
use Rattle.watch_bounds.proofs.LawsBounds.{accepted_for, to_ten}
use Rattle.watch_bounds.proofs.KeepsNumbers.{under}
use Rattle.watch_bounds.proofs.LawsSets.{below_later}
use Rattle.watch.specs.Verdicts.{kind_of, fill_of, count_of}
use Rattle.watch.specs.Fills.{filled}
use Rattle.watch.specs.Rules.{Stepped, opening, handed}
use Rattle.watch.specs.Filled.{Gains, HowMany, OneFill}
use Rattle.watch.proofs.LawsTurn as Turns
use Rattle.watch.proofs.LawsTurn.{Turn, refuses, strays, opens, keeps, back, late, broken, complete, turn}
use Rattle.watch.proofs.LawsFills.{filled_gains}
use Rattle.watch.proofs.LawsLists.{how_many}
use Rattle.watch.proofs.KeepsRules.{from_four, opened, anew}

module _ (leaps : List ℕ) (w : Watch) (b v : ℕ) (s : List ℕ) where
  -- the set that block 0 begins
  begun_by_zero : {u : Watch} → u ≡ opening v (tag_of s) w.limit → Gains u.fill 0 0 v
  begun_by_zero e = subst (λ (u : Watch). Gains u.fill 0 0 v) (sym e) (filled_gains 0 0 v (omega arith))

  -- an open watch's set, below the expected block and below block 10
  below : refusal_of leaps w b s ≡ 0 → w.opened ≡ true → w.fill < 2 ^ w.expected
  below e o = under w (accepted_for leaps w b s e).fill o

  below_ten : refusal_of leaps w b s ≡ 0 → w.opened ≡ true → w.fill < 2 ^ 10
  below_ten e o = below_later w.fill w.expected 10 (to_ten w (accepted_for leaps w b s e).expected o) (below e o)

  goes_on : {r : Stepped} → Turn leaps w b v s r → kind_of r.verdict ≡ 3 → Gains r.next.fill w.fill b v
  goes_on (refuses h) x = absurd (omega arith)
  goes_on (strays e o z) x = absurd (omega arith)
  goes_on (opens e z) x = absurd (omega arith)
  goes_on (Turns.closes e o {why} y) x = absurd (omega (arith, from_four why))
  goes_on (keeps e o m q n) x = subst (λ (k : ℕ). Gains (filled w.fill w.expected v) w.fill k v) (sym q) (filled_gains w.fill w.expected v (below e o))

  completes : {r : Stepped} → Turn leaps w b v s r → kind_of r.verdict ≡ 7 → Gains (fill_of r.verdict) w.fill 10 v
  completes (refuses h) x = absurd (omega arith)
  completes (strays e o z) x = absurd (omega arith)
  completes (opens e z) x = absurd (omega arith)
  completes (Turns.closes e o (back h)) x = absurd (omega arith)
  completes (Turns.closes e o (late h)) x = absurd (omega arith)
  completes (Turns.closes e o broken) x = absurd (omega arith)
  completes (Turns.closes e o (complete m q n)) x = filled_gains w.fill 10 v (below_ten e o)
  completes (keeps e o m q n) x = absurd (omega arith)

  as_it_was : {r : Stepped} → Turn leaps w b v s r → 4 ≤ kind_of r.verdict → kind_of r.verdict < 7 → fill_of r.verdict ≡ w.fill
  as_it_was (refuses h) x y = absurd (omega arith)
  as_it_was (strays e o z) x y = absurd (omega arith)
  as_it_was (opens e z) x y = absurd (omega arith)
  as_it_was (Turns.closes e o (back h)) x y = refl
  as_it_was (Turns.closes e o (late h)) x y = refl
  as_it_was (Turns.closes e o broken) x y = refl
  as_it_was (Turns.closes e o (complete m q n)) x y = absurd (omega arith)
  as_it_was (keeps e o m q n) x y = absurd (omega arith)

  nothing : {r : Stepped} → Turn leaps w b v s r → kind_of r.verdict < 4 → (fill_of r.verdict ≡ 0) × (count_of r.verdict ≡ 0)
  nothing (refuses h) x = (refl, refl)
  nothing (strays e o z) x = (refl, refl)
  nothing (opens e z) x = (refl, refl)
  nothing (Turns.closes e o {why} y) x = absurd (omega (arith, from_four why))
  nothing (keeps e o m q n) x = (refl, refl)

  counted : {r : Stepped} → Turn leaps w b v s r → 4 ≤ kind_of r.verdict → HowMany (fill_of r.verdict) (count_of r.verdict)
  counted (refuses h) x = absurd (omega arith)
  counted (strays e o z) x = absurd (omega arith)
  counted (opens e z) x = absurd (omega arith)
  counted (Turns.closes e o {why} y) x = how_many (handed w.fill v why)
  counted (keeps e o m q n) x = absurd (omega arith)

pub one_fill : (leaps : List ℕ) → OneFill leaps
one_fill leaps = record {
  opening = λ w b v s h. begun_by_zero leaps w b v s (opened leaps w b v s (turn leaps w b v s) h);
  anew = λ w b v s h z. begun_by_zero leaps w b v s (anew leaps w b v s h z);
  going_on = λ w b v s. goes_on leaps w b v s (turn leaps w b v s);
  complete = λ w b v s. completes leaps w b v s (turn leaps w b v s);
  closed = λ w b v s. as_it_was leaps w b v s (turn leaps w b v s);
  nothing = λ w b v s. nothing leaps w b v s (turn leaps w b v s);
  count = λ w b v s. counted leaps w b v s (turn leaps w b v s);
}
