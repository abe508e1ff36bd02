-- `parity::any_large` meets its contract: it is a fold by `or`.
-- Assumes nothing.
use Rattle.std.proofs.lemmas.Grind.{common_steps}
use native.Mathlib.Omega.{arith}
use Rattle.parity.specs.Words.{any_large}
use Rattle.parity.proofs.any_large.Goals as goal

pub returns : goal.returns
unfolding any_large
returns c = grind (arith, common_steps)
