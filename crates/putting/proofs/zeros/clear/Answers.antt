-- `putting::zeros::clear` meets its contract: each turn keeps the state of ZeroTurns, and one byte is left behind the last.
-- Assumes nothing.
use mathlib.Core.Path.{◌∙◌}
use native.Mathlib.Omega.{arith}
use lib.ListN.{length-set}
use Rattle.putting.proofs.ZeroTurns.{start, turn, finish}
use Rattle.putting.proofs.zeros.clear.Goals as goal

pub loop-field-init : goal.loop-field-init
loop-field-init c = start _ _ c.requires.from_in_bounds c.requires.from_value

pub overflow_sub-field : goal.overflow_sub-field
overflow_sub-field c = omega (arith, c.loop-field.invariant.long, c.loop-field.invariant.here)

pub put_eight-requires : goal.put_eight-requires
put_eight-requires c = omega (arith, c.loop-field-test.true)

pub overflow_add-k : goal.overflow_add-k
overflow_add-k c = omega (arith, c.loop-field.invariant.long, c.loop-field-test.true)

pub put_eight-requires-in-loop-field : goal.put_eight-requires-in-loop-field
put_eight-requires-in-loop-field c = omega (arith, c.put_eight.auto.field, c.loop-field-test.true)

pub overflow_add-k-in-loop-field : goal.overflow_add-k-in-loop-field
overflow_add-k-in-loop-field c = omega (arith, c.loop-field.invariant.long, c.loop-field-test.true)

pub loop-field-smaller : goal.loop-field-smaller
loop-field-smaller c = omega (arith, c.loop-field.invariant.long, c.loop-field-test.true)

pub loop-field-preserved : goal.loop-field-preserved
loop-field-preserved c = turn c.loop-field.invariant c.loop-field-test.true c.put_eight.ensures c.put_eight-in-loop-field.ensures

pub bounds-field-k : goal.bounds-field-k
bounds-field-k c = omega (arith, c.loop-field.invariant.long, c.loop-field.invariant.here)

pub shape_of-field : goal.shape_of-field
shape_of-field c = length-set c.loop-field.field c.loop-field.k 0 ∙ c.loop-field.invariant.long

pub returns : goal.returns
returns c = finish c.loop-field.invariant c.loop-field-test.false
