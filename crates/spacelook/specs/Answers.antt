-- What stands at a field and an index as numbers: the number of the answer, the reading's case, and its value. On a refusal the last two are zero.
-- Assumes nothing.
use Rattle.std.specs.Prelude.{ℕ, Float}
use Rattle.floating.specs.Cases.{case_of, no_number, value_of}
use Rattle.spacelook.specs.Found.{Found, Read, Refused}

abbrev pub answer_in : Found → ℕ
answer_in (Read reading) = 0
answer_in (Refused number) = number

abbrev pub case_in : Found → ℕ
case_in (Read reading) = case_of reading
case_in (Refused number) = 0

abbrev pub value_in : Found → Float
value_in (Read reading) = value_of reading
value_in (Refused number) = no_number
