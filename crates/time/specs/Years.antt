-- The days of all years before one, from year 0.
-- Assumes nothing.
use Rattle.std.specs.Prelude.{ℕ, zero, suc, ◌+◌}
use Rattle.calendar.specs.Years.{days_in}

-- The days before a year, counted year by year.
unfoldable pub days_before : ℕ → ℕ
days_before zero = 0
days_before (suc y) = days_before y + days_in y
