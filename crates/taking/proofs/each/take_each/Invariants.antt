-- `taking::each::take_each` meets its contract: each turn keeps the state of EachTurns, by a byte read or a word written.
-- Assumes nothing.
use Prim.Native.Nat.{◌+◌, ◌-◌}
use lib.ListN.{length}
use Rattle.taking.proofs.EachTurns.{State}
use Rattle.taking.proofs.each.take_each.Given as goal

abbrev pub invariant-loop-i : goal.invariant-loop-i
invariant-loop-i l = State l.field l.size l.count l.initial.room l.room l.acc l.have l.at l.i

abbrev pub decreases-loop-i : goal.decreases-loop-i
decreases-loop-i l = (l.count - l.i) + (length l.field - l.at)
