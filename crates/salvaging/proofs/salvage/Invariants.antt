-- `salvage` meets its contract: two refusals, then a turn for each block.
-- Assumes nothing.
use Prim.Native.Nat.{◌-◌}
use lib.ListN.{length}
use Rattle.salvaging.proofs.SalvageTurns.{State}
use Rattle.salvaging.proofs.salvage.Given as goal

abbrev pub invariant-loop-next : goal.invariant-loop-next
invariant-loop-next l =
    State l.input l.initial.recording l.recording l.initial.report l.report l.initial.scratch l.scratch l.next l.from l.end l.entries l.blocks

abbrev pub decreases-loop-next : goal.decreases-loop-next
decreases-loop-next l =
    length l.input - l.from
