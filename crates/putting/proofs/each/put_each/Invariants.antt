-- `putting::each::put_each` meets its contract: each turn keeps the state of EachTurns. The measure falls by 9 for a
-- byte, by 1 for a word.
-- Assumes nothing.
use Prim.Native.Nat.{◌+◌, ◌-◌, ◌*◌}
use lib.ListN.{length}
use Rattle.putting.proofs.EachTurns.{State}
use Rattle.putting.proofs.each.put_each.Given as goal

abbrev pub invariant-loop-at : goal.invariant-loop-at
invariant-loop-at l = State l.words l.size l.initial.field l.field l.acc l.have l.i l.at

abbrev pub decreases-loop-at : goal.decreases-loop-at
decreases-loop-at l = (length l.initial.field - l.at) * 9 + (length l.words - l.i) + (8 - l.have)
