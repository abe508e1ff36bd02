-- `header_of` takes the copy that its tests choose.
-- Assumes nothing.
use mathlib.Core.Path.{refl, ap, ◌∙◌}
use lib.ListN.{take}
use Rattle.ground.proofs.LawsChoice.{yes, no}
use Rattle.copies.specs.Copies.{header_length}
use Rattle.copies.proofs.compare.header_of.Goals as goal

pub returns-then-first : goal.returns-then-first
returns-then-first c = c.front.ensures ∙ ap (take header_length) (yes _ refl c.if-first.true refl)

pub returns-then-second : goal.returns-then-second
returns-then-second c = c.front-then-second.ensures ∙ ap (take header_length) (no _ refl c.if-first.false (yes _ refl c.if-second.true refl))

pub returns : goal.returns
returns c = c.front-2.ensures ∙ ap (take header_length) (no _ refl c.if-first.false (no _ refl c.if-second.false refl))
