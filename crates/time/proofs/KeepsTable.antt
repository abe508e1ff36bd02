-- Rows 9, 10 and 12 of the table and the examples of leap seconds, by computation.
-- Assumes nothing.
use mathlib.Core.Path.{refl}
use Rattle.calendar.specs.Leaps.{possible, rises_from, good_list, listed, listed_before}
use Rattle.tag.specs.Digits.{digits_of, decimal, value_of}
use Rattle.tag.specs.Tags.{tag_of, good_second, in_bounds, good_tag, read_by, read_tag}
use Rattle.time.specs.Times.{count_of, time_of, elapsed_of}
use Rattle.time.specs.Table.{Row9, Row10, Row12, AcrossLeap}
use Rattle.time.proofs.LawsYears.{quick}

pub row9 : Row9
unfolding rises_from good_list listed listed_before digits_of decimal value_of tag_of good_second in_bounds good_tag read_by read_tag count_of time_of elapsed_of
row9 = record { says = refl; forward = rw (← quick 2008); backward = rw (← quick 2008) }

pub row10 : Row10
unfolding rises_from good_list listed listed_before digits_of decimal value_of tag_of good_second in_bounds good_tag read_by read_tag count_of time_of elapsed_of
row10 = record { says = refl; same = rw (← quick 2008) }

pub row12 : Row12
unfolding rises_from good_list listed listed_before digits_of decimal value_of tag_of good_second in_bounds good_tag count_of time_of elapsed_of
row12 = record { a_day = rw (← quick 2007, ← quick 2008) }

pub across_leap : AcrossLeap
unfolding possible rises_from good_list listed listed_before digits_of decimal value_of tag_of good_second in_bounds good_tag read_by read_tag count_of time_of elapsed_of
across_leap = record {
  good = refl;
  next = rw (← quick 2016, ← quick 2017);
  no_days = refl;
  day_before = refl;
  with = rw (← quick 2016, ← quick 2017);
  without = rw (← quick 2016, ← quick 2017);
  after = rw (← quick 2016);
  before = rw (← quick 2016, ← quick 2017);
}
