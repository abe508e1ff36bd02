-- A CDA time tag: where its numbers and its mark stand in eight bytes, the bounds of the numbers, and what reading and
-- writing one answer. A list of leap days is lent with it.
-- Assumes nothing.
use Rattle.std.specs.Prelude.{ℕ, ◌+◌, ◌%◌, Bool, false, not, ◌&&◌, ◌||◌, List, ◌++◌, eqb, leb, length, get_or, set, take, drop, replicate, Result, Ok, Err}
use Rattle.ground.specs.Choice.{pick}
use Rattle.ground.specs.declared.Refusal.{Refusal}
use Rattle.ground.specs.Refusals.{number_of}
use Rattle.calendar.specs.Years.{last_year, days_in}
use Rattle.calendar.specs.Leaps.{day_of, good_list, listed}
use Rattle.tag.specs.Digits.{digits_of, paired, decimal, value_of, spelt}
use Rattle.tag.specs.declared.Tag.{Tag}

-- Bytes of a tag, and the first bit of one.
abbrev bytes_long : ℕ
bytes_long = 8

abbrev first_bit : ℕ
first_bit = 128

-- The first bit of byte 3 is not part of the day: it is the flywheel mark;
abbrev pub marked : List ℕ → Bool
marked s = leb first_bit (get_or s 2 0)

-- and the bytes without it.
abbrev pub unmarked : List ℕ → List ℕ
unmarked s = set s 2 (get_or s 2 0 % first_bit)

-- Bytes with the mark put on, where there is one.
abbrev pub with_mark : Bool → List ℕ → List ℕ
with_mark f s = set s 2 (pick f first_bit 0 + get_or s 2 0)

-- A tag is eight bytes, sixteen BCD digits.
abbrev pub tag_digits : List ℕ → List ℕ
tag_digits s = digits_of (unmarked s)

-- The number spelt by k digits, those after the first i.
abbrev pub part : ℕ → ℕ → List ℕ → ℕ
part i k ds = value_of (take k (drop i ds))

-- Four digits for the year, three for the day of the year, two each for hour, minute and second, three for
-- the millisecond: as bytes have them,
unfoldable pub tag_of : List ℕ → Tag
tag_of s =
    record {
      year = part 0 4 (tag_digits s);
      day = part 4 3 (tag_digits s);
      hour = part 7 2 (tag_digits s);
      minute = part 9 2 (tag_digits s);
      second = part 11 2 (tag_digits s);
      ms = part 13 3 (tag_digits s);
      flywheel = marked s;
    }

-- and the same numbers as digits.
abbrev pub digits_of_tag : Tag → List ℕ
digits_of_tag t = spelt 4 t.year ++ (spelt 3 t.day ++ (spelt 2 t.hour ++ (spelt 2 t.minute ++ (spelt 2 t.second ++ spelt 3 t.ms))))

-- The eight bytes of a tag.
unfoldable pub bytes_of : Tag → List ℕ
bytes_of t = with_mark t.flywheel (paired (digits_of_tag t))

-- The second that a leap day ends with, 23:59:60.
abbrev pub ends_day : Tag → Bool
ends_day t = eqb t.hour 23 && (eqb t.minute 59 && eqb t.second 60)

-- A second goes to 59; second 60 is good at 23:59 on a listed day, and at no other time.
unfoldable pub good_second : List ℕ → Tag → Bool
good_second leaps t = leb t.second 59 || (ends_day t && listed leaps (day_of t.year t.day))

-- The bounds: year to 9999; day from 1, to 366 in a leap year, else to 365; hour to 23, minute to 59, second as above; millisecond to 999.
unfoldable pub in_bounds : List ℕ → Tag → Bool
in_bounds leaps t =
    leb t.year last_year
    && (leb 1 t.day
    && (leb t.day (days_in t.year)
    && (leb t.hour 23 && (leb t.minute 59 && (good_second leaps t && leb t.ms 999)))))

-- Bytes are a good tag where there are eight, no digit is above 9 and the numbers are within bounds.
unfoldable pub good_tag : List ℕ → List ℕ → Bool
good_tag leaps s = eqb (length s) bytes_long && (decimal (tag_digits s) && in_bounds leaps (tag_of s))

-- The tag whose numbers are zero, without the mark. No good one: its day is 0.
abbrev pub zero_tag : Tag
zero_tag = record { year = 0; day = 0; hour = 0; minute = 0; second = 0; ms = 0; flywheel = false }

-- What reading answers, as numbers: 0 and the tag, or 19 or 12 and the zero tag.
pub record TagRead : Type 0 where
  pub number : ℕ
  pub tag : Tag

-- What writing answers: 0 and the bytes, or 19 or 12 and zeros.
pub record TagBytes : Type 0 where
  pub number : ℕ
  pub bytes : List ℕ

-- Reading by a list as it is: 0 and the tag; for a bad one 12 and zeros.
unfoldable pub read_by : List ℕ → List ℕ → TagRead
read_by leaps s = pick (good_tag leaps s) (record { number = 0; tag = tag_of s }) (record { number = 12; tag = zero_tag })

-- The list comes first: where it is none, 19 and zeros.
unfoldable pub read_tag : List ℕ → List ℕ → TagRead
read_tag leaps s = pick (good_list leaps) (read_by leaps s) (record { number = 19; tag = zero_tag })

-- Writing, within the same bounds: 0 and eight bytes; 19 for the list, then 12, and zeros.
unfoldable pub write_tag : List ℕ → Tag → TagBytes
write_tag leaps t =
    pick (not (good_list leaps)) (record { number = 19; bytes = replicate bytes_long 0 })
    (pick (not (in_bounds leaps t)) (record { number = 12; bytes = replicate bytes_long 0 })
    (record { number = 0; bytes = bytes_of t }))

-- What is told of either answer.
abbrev pub told_tag : Result Tag Refusal → TagRead
told_tag (Ok t) = record { number = 0; tag = t }
told_tag (Err r) = record { number = number_of r; tag = zero_tag }

abbrev pub told_bytes : Result (List ℕ) Refusal → TagBytes
told_bytes (Ok s) = record { number = 0; bytes = s }
told_bytes (Err r) = record { number = number_of r; bytes = replicate bytes_long 0 }
