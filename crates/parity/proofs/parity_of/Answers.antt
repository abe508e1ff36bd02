-- `parity::parity_of` meets its contract: it is a fold by exclusive or.
-- Assumes nothing.
use Rattle.std.proofs.lemmas.Grind.{common_steps}
use native.Mathlib.Omega.{arith}
use Rattle.parity.specs.Sections.{xor_of}
use Rattle.parity.proofs.parity_of.Goals as goal

pub returns : goal.returns
unfolding xor_of
returns c = grind (arith, common_steps)
