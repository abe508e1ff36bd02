-- A time as C has it, seven numbers in a row: year, day, hour, minute, second, millisecond, and the flywheel mark, on where it is not 0.
-- Assumes nothing.
use Rattle.std.specs.Prelude.{ℕ, ◌+◌, not, List, [], ◌∷◌, eqb, get_or}
use Rattle.tag.specs.declared.Tag.{Tag}
use Rattle.c_numbers.specs.Numbers.{up_to}
use Rattle.c_numbers.specs.Marks.{mark}

-- The tag of seven numbers, any there are.
abbrev pub tag_of_numbers : (year day hour minute second ms flywheel : ℕ) → Tag
tag_of_numbers year day hour minute second ms flywheel =
    record {
      year = up_to 65535 year;
      day = up_to 65535 day;
      hour = up_to 255 hour;
      minute = up_to 255 minute;
      second = up_to 255 second;
      ms = up_to 65535 ms;
      flywheel = not (eqb flywheel 0);
    }

-- The tag in a row of numbers, from a place on.
abbrev pub tag_from : ℕ → List ℕ → Tag
tag_from at row =
    tag_of_numbers (get_or row at 0) (get_or row (at + 1) 0) (get_or row (at + 2) 0) (get_or row (at + 3) 0) (get_or row (at + 4) 0) (get_or row (at + 5) 0) (get_or row (at + 6) 0)

-- The numbers of a tag.
abbrev pub numbers_of : Tag → List ℕ
numbers_of t = t.year ∷ t.day ∷ t.hour ∷ t.minute ∷ t.second ∷ t.ms ∷ mark t.flywheel ∷ []
