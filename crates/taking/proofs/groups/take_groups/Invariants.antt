-- `taking::groups::take_groups` meets its contract: each turn keeps the state of EachTurns, and `take_each` takes what is left.
-- Assumes nothing.
use Prim.Native.Nat.{◌-◌}
use Rattle.taking.proofs.EachTurns.{State}
use Rattle.taking.proofs.groups.take_groups.Given as goal

abbrev pub invariant-loop-i : goal.invariant-loop-i
invariant-loop-i g l = State l.field g.row.SIZE l.count l.initial.room l.room 0 0 l.at l.i

abbrev pub decreases-loop-i : goal.decreases-loop-i
decreases-loop-i g l = l.count - l.i
