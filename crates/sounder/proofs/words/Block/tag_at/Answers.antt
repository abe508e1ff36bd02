-- `sounder::words::Block::tag_at` meets its contract: the eight words are there, and are bytes.
-- Assumes nothing.
use mathlib.Core.Path.{◌≡◌, ap, ap₂, ◌∙◌}
use Prim.Native.Nat.{ℕ, ◌+◌, ◌-◌, ◌*◌, ◌≤◌}
use native.Mathlib.Omega.{arith}
use lib.ListN.{take, drop}
use Rattle.parity.proofs.LawsWords.{right_length, small_words}
use Rattle.tag.specs.Tags.{read_by}
use Rattle.sounder.proofs.LawsWords.{part_long, part_small}
use Rattle.sounder.proofs.words.Block.tag_at.Goals as goal

pub slice_bounds-lowered-end : goal.slice_bounds-lowered-end
slice_bounds-lowered-end c = omega (arith, right_length c.args.self.words.now c.args.self.plain)

pub lowered-requires : goal.lowered-requires
lowered-requires c =
    let words = c.args.self.words.now in
    let from = 58 + 8 * c.args.k in
    let long = right_length words c.args.self.plain in
    let fits : from + (from + 8 - from) ≤ 8040 = omega arith in
    (omega arith, (part_long words from (from + 8 - from) (omega arith) ∙ omega arith, part_small words from (from + 8 - from) (small_words words c.args.self.plain)))

pub returns : goal.returns
returns c =
    let k = c.args.k in
    let words = c.args.self.words.now in
    let long : 58 + 8 * k + 8 - (58 + 8 * k) ≡ 66 + 8 * k + 1 - (59 + 8 * k) = omega arith in
    let from : 58 + 8 * k ≡ 59 + 8 * k - 1 = omega arith in
    c.read_by.ensures
    ∙ ap (read_by c.args.leaps.now) (c.lowered.ensures ∙ ap₂ (λ (n m : ℕ). take n (drop m words)) long from)
