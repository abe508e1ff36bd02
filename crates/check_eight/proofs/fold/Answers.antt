-- `check_eight::fold` is `folded`, operation for operation.
-- Assumes nothing.
use mathlib.Core.Path.{refl}
use Rattle.check_eight.specs.Eight.{folded}
use Rattle.check_eight.proofs.fold.Goals as goal

pub returns : goal.returns
unfolding folded
returns c = refl
