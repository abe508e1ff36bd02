-- `watch::rules::after_closing` opens anew at block 0, and is idle after any other.
-- Assumes nothing.
use mathlib.Core.Path.{refl}
use borrow.Author.Tests.{eq-eqb, ne_eqb}
use Rattle.ground.proofs.LawsChoice.{yes, no}
use Rattle.watch.proofs.rules.after_closing.Goals as goal

pub returns-then-block-eq0 : goal.returns-then-block-eq0
returns-then-block-eq0 c = yes _ refl (eq-eqb _ 0 c.if-block-eq0.true) c.opening.ensures

pub returns-else-block-eq0 : goal.returns-else-block-eq0
returns-else-block-eq0 c = no _ refl (ne_eqb _ 0 c.if-block-eq0.false) c.idle.ensures
