-- `parity::judge` meets its contract: a verdict for each section of the layout, set one after another.
-- Assumes nothing.
use Rattle.parity.proofs.LawsVerdicts.{Judging}
use Rattle.parity.proofs.judge.Given as goal

abbrev pub invariant-loop-i : goal.invariant-loop-i
invariant-loop-i l = Judging l.fn.layout l.words l.sections l.holds l.i
