-- A good tag is kept.
-- Assumes nothing.
use Rattle.c_tags.specs.Promises.{TagKept}
use Rattle.c_tags.proofs.LawsTimes.{tag_again, bounded_held}

pub tag_kept : TagKept
tag_kept leaps t b = tag_again t (bounded_held leaps t b)
