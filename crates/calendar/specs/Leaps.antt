-- A list of leap days, those whose last minute has a second 60: what a list must be, whether a day is in it, and how many of its days are
-- before a day.
-- Assumes nothing.
use Rattle.std.specs.Prelude.{ℕ, ◌+◌, ◌*◌, ◌/◌, ◌%◌, Bool, true, false, ◌&&◌, ◌||◌, List, [], ◌∷◌, eqb, leb, ltb, length}
use Rattle.ground.specs.Choice.{pick}
use Rattle.calendar.specs.Years.{last_year, days_in}

-- The most days of a list.
abbrev pub most_leaps : ℕ
most_leaps = 64

-- A day as one number, which reads like a date and rises as the days do: 2016 day 366 is 2016366.
abbrev pub day_of : ℕ → ℕ → ℕ
day_of year day = year * 1000 + day

-- A number that is a day of a year from 0 to 9999.
unfoldable pub possible : ℕ → Bool
possible n = leb (n / 1000) last_year && (leb 1 (n % 1000) && leb (n % 1000) (days_in (n / 1000)))

-- A possible day behind n.
abbrev pub follows : ℕ → ℕ → Bool
follows n d = ltb n d && possible d

-- Days that follow one another, the first behind n.
unfoldable pub rises_from : ℕ → List ℕ → Bool
rises_from n [] = true
rises_from n (d ∷ ds) = follows n d && rises_from d ds

-- No list is longer than 64 days, and its days rise; no possible day has the number 0.
unfoldable pub good_list : List ℕ → Bool
good_list leaps = leb (length leaps) most_leaps && rises_from 0 leaps

-- A day is in a list.
unfoldable pub listed : List ℕ → ℕ → Bool
listed [] n = false
listed (d ∷ ds) n = eqb d n || listed ds n

-- A listed day counts for the days behind it, not for itself.
abbrev pub counts_for : ℕ → ℕ → Bool
counts_for d n = ltb d n

-- The listed days before a day, counted.
unfoldable pub listed_before : List ℕ → ℕ → ℕ
listed_before [] n = 0
listed_before (d ∷ ds) n = pick (counts_for d n) 1 0 + listed_before ds n
