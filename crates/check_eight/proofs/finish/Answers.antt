-- `check_eight::finish` is `finished`, operation for operation.
-- Assumes nothing.
use mathlib.Core.Path.{refl}
use Rattle.check_eight.specs.Eight.{finished}
use Rattle.check_eight.proofs.finish.Goals as goal

pub returns : goal.returns
unfolding finished
returns c = refl
