-- `sounder::words::Block::status` meets its contract: the ten words are there, and are bytes.
-- Assumes nothing.
use native.Mathlib.Omega.{arith}
use Rattle.parity.proofs.LawsWords.{right_length, small_words}
use Rattle.sounder.proofs.LawsWords.{part_long, part_small}
use Rattle.sounder.proofs.words.Block.status.Goals as goal

pub slice_bounds-lowered-end : goal.slice_bounds-lowered-end
slice_bounds-lowered-end c = omega (arith, right_length c.args.self.words.now c.args.self.plain)

pub lowered-requires : goal.lowered-requires
lowered-requires c =
    let words = c.args.self.words.now in
    (omega arith, (part_long words 32 10 (omega (arith, right_length words c.args.self.plain)), part_small words 32 10 (small_words words c.args.self.plain)))
