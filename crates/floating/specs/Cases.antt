-- The number of a reading's case, and the value that goes with it: 0 for zero and for what is not normal.
-- Assumes nothing.
use Rattle.std.specs.Prelude.{ℕ, false, pos, Float}
use Rattle.std.specs.Float.{fin}
use Rattle.floating.specs.declared.Reading.{Reading}
use Rattle.floating.specs.declared.Reading.TheVariants.{Number, Zero, NotNormal}

abbrev pub case_of : Reading → ℕ
case_of Zero = 0
case_of (Number x) = 1
case_of NotNormal = 2

abbrev pub no_number : Float
no_number = fin false 0 (pos 0)

abbrev pub value_of : Reading → Float
value_of Zero = no_number
value_of (Number x) = x
value_of NotNormal = no_number
