-- `tag::digits::with_mark` adds the mark's bit where there is a mark.
-- Assumes nothing.
use native.Mathlib.Omega.{arith}
use Rattle.tag.proofs.digits.with_mark.Goals as goal

pub returns-then-flywheel : goal.returns-then-flywheel
returns-then-flywheel c = rw c.if-flywheel.true

pub returns-else-flywheel : goal.returns-else-flywheel
returns-else-flywheel c = rw c.if-flywheel.false (omega arith)
