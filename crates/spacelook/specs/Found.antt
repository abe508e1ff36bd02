-- What stands at a field and an index of a spacelook block: the reading of a number, or the number of a refusal.
-- Assumes nothing.
use Rattle.std.specs.Prelude.{ℕ, Result, Ok, Err}
use Rattle.ground.specs.declared.Refusal.{Refusal}
use Rattle.ground.specs.Refusals.{number_of}
use Rattle.floating.specs.declared.Reading.{Reading}

pub data Found : Type 0 where
  Read : Reading → Found
  Refused : ℕ → Found

-- what is told of an answer
abbrev pub told : Result Reading Refusal → Found
told (Ok reading) = Read reading
told (Err r) = Refused (number_of r)
