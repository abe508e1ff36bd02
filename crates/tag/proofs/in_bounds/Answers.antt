-- `tag::in_bounds` makes the definition's row of tests.
-- Assumes nothing.
use Rattle.tag.specs.Tags.{in_bounds}
use Rattle.tag.proofs.in_bounds.Goals as goal

pub returns : goal.returns
unfolding in_bounds
returns c = cc
