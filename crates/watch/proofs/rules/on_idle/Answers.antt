-- `watch::rules::on_idle` opens at block 0, and leaves the record as it is at any other.
-- Assumes nothing.
use mathlib.Core.Path.{refl, ap}
use borrow.Author.Tests.{eq-eqb, ne_eqb}
use Rattle.ground.proofs.LawsChoice.{yes, no}
use Rattle.watch_bounds.specs.declared.Watch.{Watch}
use Rattle.watch.specs.Rules.{on_idle}
use Rattle.watch.proofs.LawsSteps.{stepped}
use Rattle.watch.proofs.rules.on_idle.Goals as goal
use Rattle.watch.specs.Verdicts.{Opened}

pub returns-then-block-ne0 : goal.returns-then-block-ne0
unfolding on_idle
returns-then-block-ne0 c = no _ refl (ne_eqb _ 0 c.if-block-ne0.true) refl

pub returns : goal.returns
unfolding on_idle
returns c = yes _ refl (eq-eqb _ 0 c.if-block-ne0.false) (ap (λ (w : Watch). stepped w Opened) c.opening-next.ensures)
