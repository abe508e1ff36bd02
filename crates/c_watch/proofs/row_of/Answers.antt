-- `c_watch::row_of` meets its contract: each number in its place.
-- Assumes nothing.
use Rattle.c_watch.proofs.row_of.Goals as goal

pub returns : goal.returns
returns c = rw (c.marked.ensures, c.numbers_of-time.ensures)
