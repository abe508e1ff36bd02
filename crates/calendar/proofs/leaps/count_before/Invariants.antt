-- `calendar::leaps::count_before` walks the list: what is counted so far and what the rest adds is the count of the whole.
-- Assumes nothing.
use Rattle.calendar.proofs.LawsLeaps.{Counting}
use Rattle.calendar.proofs.leaps.count_before.Given as goal

abbrev pub invariant-loop-day : goal.invariant-loop-day
invariant-loop-day l = Counting l.leaps l.number l.count l.day-index
