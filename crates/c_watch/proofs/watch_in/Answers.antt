-- `c_watch::watch_in` meets its contract: each number in its place.
-- Assumes nothing.
use Rattle.c_watch.proofs.watch_in.Goals as goal

pub returns : goal.returns
returns c = rw (c.is_on.ensures, c.in_byte.ensures, c.tag_of-last.ensures)
