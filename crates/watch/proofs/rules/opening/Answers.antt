-- `watch::rules::opening` begins the set with block 0, where that is fill.
-- Assumes nothing.
use mathlib.Core.Path.{ap, ◌∙◌}
use Prim.Native.Nat.{ℕ}
use native.Mathlib.Omega.{arith}
use Rattle.watch.specs.Rules.{expecting}
use Rattle.watch.proofs.rules.opening.Goals as goal

pub filled-set-requires : goal.filled-set-requires
filled-set-requires c = (omega arith, omega arith)

pub returns : goal.returns
returns c =
    let a = c.args in
    c.expecting.ensures ∙ ap (λ (set : ℕ). expecting 1 a.t a.limit set) c.filled-set.ensures
