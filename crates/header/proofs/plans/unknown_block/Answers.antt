-- `unknown_block` tests the block's number.
-- Assumes nothing.
use mathlib.Core.Path.{ap}
use lib.Dec.{ltb}
use Rattle.row.specs.Rows.{last_block}
use Rattle.header.proofs.plans.unknown_block.Goals as goal

pub returns : goal.returns
returns c = ap (ltb last_block) c.block_in.ensures
