-- `detectors::spare_is_zero` meets its contract: the last 4 bits are the low ones of the last byte.
-- Assumes nothing.
use mathlib.Core.Path.{sym}
use native.Mathlib.Omega.{arith}
use Rattle.detectors.proofs.LawsHeld.{spare_bits}
use Rattle.detectors.proofs.spare_is_zero.Goals as goal

pub returns : goal.returns
returns c = sym (spare_bits c.args.status (omega arith))
