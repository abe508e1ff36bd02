-- `calendar::leaps::rises` walks the list: where the days so far rise, the rest decides.
-- Assumes nothing.
use Rattle.ground.proofs.LawsWalk.{start}
use Rattle.calendar.proofs.LawsLeaps.{rise_next, falls, risen}
use Rattle.calendar.proofs.leaps.rises.Goals as goal

pub loop-day-init : goal.loop-day-init
loop-day-init c = start _ _ _

pub returns-then-not-follows : goal.returns-then-not-follows
returns-then-not-follows c = falls _ c.loop-day.invariant c.loop-day-test.true c.follows.ensures c.if-not-follows.true

pub loop-day-preserved : goal.loop-day-preserved
loop-day-preserved c = rise_next _ c.loop-day.invariant c.loop-day-test.true c.follows.ensures c.if-not-follows.false

pub returns : goal.returns
returns c = risen _ c.loop-day.invariant c.loop-day-test.false
