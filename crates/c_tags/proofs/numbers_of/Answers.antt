-- `c_tags::numbers_of` meets its contract: each number in its place.
-- Assumes nothing.
use Rattle.c_tags.proofs.numbers_of.Goals as goal

pub returns : goal.returns
returns c = rw c.marked.ensures
