-- `watch::rules::handed` adds block 10 to the set of a completed scan, and gives any other as it is.
-- Assumes nothing.
use native.Mathlib.Omega.{arith}
use Rattle.watch.proofs.rules.handed.Goals as goal

pub filled-requires : goal.filled-requires
filled-requires c = (c.requires, omega arith)

pub returns-in-Complete : goal.returns-in-Complete
returns-in-Complete c = rw c.in-Complete.is c.filled.ensures
