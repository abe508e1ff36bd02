-- `putting::groups::put_groups` meets its contract: each turn keeps the state of GroupTurns, and `put_plain` puts what is left.
-- Assumes nothing.
use Prim.Native.Nat.{◌-◌}
use lib.ListN.{length}
use Rattle.putting.proofs.GroupTurns.{State}
use Rattle.putting.proofs.groups.put_groups.Given as goal

abbrev pub invariant-loop-i : goal.invariant-loop-i
invariant-loop-i g l = State l.words g.row.SIZE l.initial.field l.field l.i l.at

abbrev pub decreases-loop-i : goal.decreases-loop-i
decreases-loop-i g l = length l.words - l.i
