-- `parity::ground_of` meets its contract: the two tests are the two grounds, in their order.
-- Assumes nothing.
use mathlib.Core.Path.{sym}
use borrow.Author.Tests.{eq-eqb, ne_eqb}
use Rattle.parity.specs.Words.{block_words, ground_of}
use Rattle.parity.proofs.ground_of.Goals as goal

pub returns-then-words-ne-BLOCK_WORDS : goal.returns-then-words-ne-BLOCK_WORDS
unfolding ground_of
returns-then-words-ne-BLOCK_WORDS c = rw (ne_eqb _ block_words c.if-words-ne-BLOCK_WORDS.true)

pub returns-then-any_large : goal.returns-then-any_large
unfolding ground_of
returns-then-any_large c = rw (eq-eqb _ block_words c.if-words-ne-BLOCK_WORDS.false, sym c.any_large.ensures, c.if-any_large.true)

pub returns : goal.returns
unfolding ground_of
returns c = rw (eq-eqb _ block_words c.if-words-ne-BLOCK_WORDS.false, sym c.any_large.ensures, c.if-any_large.false)
