-- `sounder::frame::field_at` meets its contract: each range begins within a block.
-- Assumes nothing.
use mathlib.Core.Path.{◌∙◌}
use Rattle.sounder.proofs.LawsFrame.{begins, field_is}
use Rattle.sounder.proofs.frame.field_at.Goals as goal

pub number_at-requires : goal.number_at-requires
number_at-requires c = begins c.args.i c.requires

pub returns : goal.returns
returns c = c.number_at.ensures ∙ field_is c.args.block.words.now c.args.i c.requires
