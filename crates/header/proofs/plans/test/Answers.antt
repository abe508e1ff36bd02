-- `test` gives the first ground that holds: each return knows that the tests before it did not.
-- Assumes nothing.
use mathlib.Core.Path.{refl}
use Rattle.ground.proofs.LawsChoice.{yes, no}
use Rattle.header.proofs.plans.test.Goals as goal

pub returns-then-unknown_block : goal.returns-then-unknown_block
returns-then-unknown_block c = yes _ c.unknown_block.ensures c.if-unknown_block.true refl

pub returns-then-unknown_version : goal.returns-then-unknown_version
returns-then-unknown_version c =
    no _ c.unknown_block.ensures c.if-unknown_block.false
    (yes _ c.unknown_version.ensures c.if-unknown_version.true refl)

pub returns-then-wrong_size : goal.returns-then-wrong_size
returns-then-wrong_size c =
    no _ c.unknown_block.ensures c.if-unknown_block.false
    (no _ c.unknown_version.ensures c.if-unknown_version.false
    (yes _ c.wrong_size.ensures c.if-wrong_size.true refl))

pub returns-then-wrong_count : goal.returns-then-wrong_count
returns-then-wrong_count c =
    no _ c.unknown_block.ensures c.if-unknown_block.false
    (no _ c.unknown_version.ensures c.if-unknown_version.false
    (no _ c.wrong_size.ensures c.if-wrong_size.false
    (yes _ c.wrong_count.ensures c.if-wrong_count.true refl)))

pub returns : goal.returns
returns c =
    no _ c.unknown_block.ensures c.if-unknown_block.false
    (no _ c.unknown_version.ensures c.if-unknown_version.false
    (no _ c.wrong_size.ensures c.if-wrong_size.false
    (no _ c.wrong_count.ensures c.if-wrong_count.false refl)))
