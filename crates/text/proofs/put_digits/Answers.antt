-- `text::put_digits` meets its contract: at every turn what is put stands behind the digits of the rest.
-- Assumes nothing.
use native.Mathlib.Omega.{arith}
use Rattle.text.proofs.LawsDecimal.{start, placed, turn, finish}
use Rattle.text.proofs.put_digits.Goals as goal

pub loop-rest-init : goal.loop-rest-init
loop-rest-init c = start c.args.n c.args.end c.args.column.now (omega arith) (omega arith)

pub overflow_sub-at : goal.overflow_sub-at
overflow_sub-at c = omega (arith, placed c.loop-rest.invariant)

pub bounds-column-at : goal.bounds-column-at
bounds-column-at c = omega (arith, placed c.loop-rest.invariant)

pub loop-rest-preserved : goal.loop-rest-preserved
loop-rest-preserved c = turn c.loop-rest.invariant (omega arith)

pub overflow_sub-at-2 : goal.overflow_sub-at-2
overflow_sub-at-2 c = omega (arith, placed c.loop-rest.invariant)

pub bounds-column-at-2 : goal.bounds-column-at-2
bounds-column-at-2 c = omega (arith, placed c.loop-rest.invariant)

pub returns : goal.returns
returns c = record { upper_bound = omega arith; column_after = finish c.loop-rest.invariant (omega arith) }
