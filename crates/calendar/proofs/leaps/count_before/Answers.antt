-- `calendar::leaps::count_before` walks the list: what is counted so far and what the rest adds is the count of the whole.
-- Assumes nothing.
use mathlib.Core.Path.{ap, ◌∙◌}
use mathlib.Core.Bool.{Bool}
use native.Mathlib.Omega.{arith}
use Rattle.ground.specs.Choice.{pick}
use Rattle.calendar.proofs.LawsLeaps.{as_one, count_start, count_next, counted}
use Rattle.calendar.proofs.leaps.count_before.Goals as goal

pub loop-day-init : goal.loop-day-init
loop-day-init c = count_start _ _

pub overflow_add-count : goal.overflow_add-count
overflow_add-count c =
    let next = count_next _ _ c.loop-day.invariant c.loop-day-test.true (c.from-count.ensures ∙ as_one _ ∙ ap (λ (t : Bool). pick t 1 0) c.counts_for.ensures) in
    record { fits = omega (arith, next.most) }

pub loop-day-preserved : goal.loop-day-preserved
loop-day-preserved c = count_next _ _ c.loop-day.invariant c.loop-day-test.true (c.from-count.ensures ∙ as_one _ ∙ ap (λ (t : Bool). pick t 1 0) c.counts_for.ensures)

pub returns : goal.returns
returns c =
    let turn = c.loop-day.invariant in
    (counted _ _ turn c.loop-day-test.false, omega (arith, turn.most, turn.walk.within))
