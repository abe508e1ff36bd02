-- `c_tags::tag_of` meets its contract: each number in its place.
-- Assumes nothing.
use Rattle.c_tags.proofs.tag_of.Goals as goal

pub returns : goal.returns
returns c =
    rw (
      c.in_pair.ensures,
      c.in_pair-2.ensures,
      c.in_byte.ensures,
      c.in_byte-2.ensures,
      c.in_byte-3.ensures,
      c.in_pair-3.ensures,
      c.is_on.ensures,
    )
