-- `floating::value_of` meets its contract: 0.0 is the pattern of zeros.
-- Assumes nothing.
use mathlib.Core.Path.{sym, ap}
use lib.Ieee.{of_bits}
use Rattle.floating.specs.Cases.{value_of}
use Rattle.floating.proofs.value_of.Goals as goal

pub returns-in-Zero : goal.returns-in-Zero
unfolding of_bits
returns-in-Zero c = sym (ap value_of c.in-Zero.is)

pub returns-in-NotNormal : goal.returns-in-NotNormal
unfolding of_bits
returns-in-NotNormal c = sym (ap value_of c.in-NotNormal.is)
