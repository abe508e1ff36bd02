-- `putting::zeros::clear` meets its contract: each turn keeps the state of ZeroTurns, and one byte is left behind the last.
-- Assumes nothing.
use Prim.Native.Nat.{◌-◌}
use lib.ListN.{length}
use Rattle.putting.proofs.ZeroTurns.{State}
use Rattle.putting.proofs.zeros.clear.Given as goal

abbrev pub invariant-loop-field : goal.invariant-loop-field
invariant-loop-field l = State l.initial.field l.field l.from l.k

abbrev pub decreases-loop-field : goal.decreases-loop-field
decreases-loop-field l = length l.initial.field - l.k
