-- How a definition decides: by a test, one of two.
-- Assumes nothing.
use Rattle.std.specs.Prelude.{Bool, true, false}

abbrev pub pick : {X : Type 0} → Bool → X → X → X
pick true a b = a
pick false a b = b
