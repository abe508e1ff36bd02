-- `floating::unsigned` meets its contract: the pattern is a number's, and the product is exact.
-- Assumes nothing.
use native.Mathlib.Omega.{arith}
use Rattle.floating.proofs.LawsExact.{product}
use Rattle.floating.proofs.LawsPower.{power_is_a_number}
use Rattle.floating.proofs.unsigned.Goals as goal

pub float_from_bits-result : goal.float_from_bits-result
float_from_bits-result c = power_is_a_number _ (omega arith, omega arith)

pub returns : goal.returns
returns c = product c.args.fraction c.args.exponent c.requires.0 c.requires.1.0 c.requires.1.1
