-- `watch_bounds::bad_last` asks `tag::in_bounds` of the last tag, and counts it only when the watch is open.
-- Assumes nothing.
use Rattle.watch_bounds.proofs.bad_last.Goals as goal

pub returns : goal.returns
returns c = cc
