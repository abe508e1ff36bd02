-- `placement::named` meets its contract: the two branches are the two sides of `named_by`.
-- Assumes nothing.
use mathlib.Core.Path.{refl}
use borrow.Author.Tests.{eq-eqb, ne_eqb}
use Rattle.ground.proofs.LawsChoice.{yes, no}
use Rattle.placement.specs.Table.{named_by}
use Rattle.placement.proofs.named.Goals as goal

pub returns-then-held-eq0 : goal.returns-then-held-eq0
unfolding named_by
returns-then-held-eq0 c = yes _ refl (eq-eqb _ 0 c.if-held-eq0.true) refl

pub returns : goal.returns
unfolding named_by
returns c = no _ refl (ne_eqb _ 0 c.if-held-eq0.false) refl
