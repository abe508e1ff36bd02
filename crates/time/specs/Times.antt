-- What time a tag says, and the elapsed time from a first tag to a second, by one list of leap days.
-- Assumes nothing.
use Rattle.std.specs.Prelude.{ℕ, ◌+◌, ◌*◌, not, ◌&&◌, List, ℤ, pos, ◌-ℤ◌, Result, Ok, Err}
use Rattle.ground.specs.Choice.{pick}
use Rattle.ground.specs.declared.Refusal.{Refusal}
use Rattle.ground.specs.Refusals.{number_of}
use Rattle.calendar.specs.Leaps.{day_of, good_list, listed_before}
use Rattle.tag.specs.Tags.{good_tag, tag_of}
use Rattle.tag.specs.declared.Tag.{Tag}
use Rattle.time.specs.Years.{days_before}

-- Milliseconds from the midnight that begins the day before day 1 of year 0, with no leap seconds. The flywheel mark has no part in it.
unfoldable pub count_of : Tag → ℕ
count_of t = ((((days_before t.year + t.day) * 24 + t.hour) * 60 + t.minute) * 60 + t.second) * 1000 + t.ms

-- A second more for each listed day before the tag's own.
unfoldable pub time_of : List ℕ → Tag → ℕ
time_of leaps t = count_of t + 1000 * listed_before leaps (day_of t.year t.day)

-- Milliseconds with a sign: below zero where the second tag is the earlier one.
abbrev pub between : List ℕ → Tag → Tag → ℤ
between leaps a b = pos (time_of leaps b) -ℤ pos (time_of leaps a)

-- What the time between two lent tags answers, as numbers: 0 and the milliseconds, or 19 or 12 and zero.
pub record Elapsed : Type 0 where
  pub number : ℕ
  pub ms : ℤ

-- The same of two tags as bytes: 0 and the count; 19 for the list, then 12 where either is bad, and zero.
unfoldable pub elapsed_of : List ℕ → List ℕ → List ℕ → Elapsed
elapsed_of leaps a b =
    pick (not (good_list leaps)) (record { number = 19; ms = pos 0 })
    (pick (good_tag leaps a && good_tag leaps b) (record { number = 0; ms = between leaps (tag_of a) (tag_of b) })
    (record { number = 12; ms = pos 0 }))

-- What is told of an answer.
abbrev pub told : Result ℤ Refusal → Elapsed
told (Ok d) = record { number = 0; ms = d }
told (Err r) = record { number = number_of r; ms = pos 0 }
