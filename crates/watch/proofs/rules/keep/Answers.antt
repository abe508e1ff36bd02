-- `watch::rules::keep` expects the next block, with the set that has the one offered where it is fill.
-- Assumes nothing.
use mathlib.Core.Path.{ap, ◌∙◌}
use Prim.Native.Nat.{ℕ, ◌+◌}
use Rattle.watch_bounds.specs.declared.Watch.{Watch}
use Rattle.watch.specs.Rules.{expecting}
use Rattle.watch.proofs.LawsSteps.{stepped}
use Rattle.watch.proofs.rules.keep.Goals as goal
use Rattle.watch.specs.Verdicts.{Kept}

pub filled-set-requires : goal.filled-set-requires
filled-set-requires c = (c.requires.1, c.requires.0)

pub returns : goal.returns
returns c =
    let a = c.args in
    ap (λ (w : Watch). stepped w Kept) (c.expecting-next.ensures ∙ ap (λ (set : ℕ). expecting (a.w.expected + 1) a.t a.w.limit set) c.filled-set.ensures)
