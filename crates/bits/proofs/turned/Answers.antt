-- `bits::turned` meets its contract: its number is what the bytes spell, the lowest first.
-- Assumes nothing.
use native.Mathlib.Omega.{arith}
use Rattle.bits.proofs.LawsDigits.{turned_value}
use Rattle.bits.proofs.turned.Goals as goal

pub returns : goal.returns
returns c = omega (arith, turned_value c.args.x)
