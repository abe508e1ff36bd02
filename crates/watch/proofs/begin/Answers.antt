-- `watch::begin` picks by the limit, as the definition does.
-- Assumes nothing.
use mathlib.Core.Path.{refl, ap}
use Rattle.ground.proofs.LawsChoice.{yes, no}
use Rattle.watch.specs.Rules.{begin_of}
use Rattle.watch_bounds.specs.declared.Watch.{Watch}
use Rattle.watch.proofs.LawsSteps.{begun}
use Rattle.watch.proofs.begin.Goals as goal

pub returns-then-too_long : goal.returns-then-too_long
unfolding begin_of
returns-then-too_long c = yes _ c.too_long.ensures c.if-too_long.true refl

pub returns : goal.returns
unfolding begin_of
returns c = no _ c.too_long.ensures c.if-too_long.false (ap (λ (w : Watch). begun 0 w) c.idle.ensures)
