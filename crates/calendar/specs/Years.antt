-- The Gregorian calendar, throughout: leap years and the days of a year.
-- Assumes nothing.
use Rattle.std.specs.Prelude.{ℕ, ◌%◌, Bool, not, ◌&&◌, ◌||◌, eqb}
use Rattle.ground.specs.Choice.{pick}

-- The last year that a tag has digits for.
abbrev pub last_year : ℕ
last_year = 9999

-- A leap year: a multiple of 4, but of 100 only where of 400.
abbrev pub leap : ℕ → Bool
leap y = eqb (y % 400) 0 || (not (eqb (y % 100) 0) && eqb (y % 4) 0)

-- A year has 365 days, a leap year 366.
abbrev pub days_in : ℕ → ℕ
days_in y = pick (leap y) 366 365
