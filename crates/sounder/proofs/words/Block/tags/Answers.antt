-- `sounder::words::Block::tags` meets its contract: each tag is read by itself.
-- Assumes nothing.
use Rattle.std.proofs.Common.{rules}
use Rattle.tag.specs.Tags.{told_tag, read_by}
use Rattle.sounder.specs.Words.{tag_words}
use Rattle.sounder.proofs.LawsMade.{made_all}
use Rattle.sounder.proofs.words.Block.tags.Goals as goal

pub returns : goal.returns
returns c =
    let a = c.args in
    made_all _ told_tag (λ k. read_by a.leaps.now (tag_words k a.self.words.now)) _ 15 (λ i y q b called. search rules) c.from_fn.result c.from_fn.ensures.items
