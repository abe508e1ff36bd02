-- `calendar::leaps::rises` walks the list: where the days so far rise, the rest decides.
-- Assumes nothing.
use Rattle.calendar.proofs.LawsLeaps.{Rising}
use Rattle.calendar.proofs.leaps.rises.Given as goal

abbrev pub invariant-loop-day : goal.invariant-loop-day
invariant-loop-day l = Rising l.leaps l.before l.day-index
