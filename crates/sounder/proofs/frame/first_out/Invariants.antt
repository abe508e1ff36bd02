-- `sounder::frame::first_out` meets its contract: what is left of the table decides.
-- Assumes nothing.
use Rattle.sounder.proofs.LawsFrame.{Looking}
use Rattle.sounder.proofs.frame.first_out.Given as goal

abbrev pub invariant-loop-i : goal.invariant-loop-i
invariant-loop-i l = Looking l.frame l.i
