-- `watch_bounds::offered` tests the block, then the tag: each return is the first ground that holds.
-- Assumes nothing.
use mathlib.Core.Path.{refl, ap}
use mathlib.Core.Bool.{not}
use Rattle.ground.proofs.LawsChoice.{yes, no}
use Rattle.watch_bounds.proofs.offered.Goals as goal

pub returns-then-unknown_block : goal.returns-then-unknown_block
returns-then-unknown_block c = yes _ c.unknown_block.ensures c.if-unknown_block.true refl

pub returns-then-not-good : goal.returns-then-not-good
returns-then-not-good c = no _ c.unknown_block.ensures c.if-unknown_block.false (yes _ refl (ap not c.if-not-good.true) refl)

pub returns : goal.returns
returns c = no _ c.unknown_block.ensures c.if-unknown_block.false (no _ refl (ap not c.if-not-good.false) refl)
