-- Row 11 of the table, and a tag whose numbers all differ, by computation.
-- Assumes nothing.
use mathlib.Core.Path.{refl}
use Rattle.calendar.specs.Leaps.{rises_from, good_list, listed}
use Rattle.tag.specs.Digits.{digits_of, decimal, value_of}
use Rattle.tag.specs.Tags.{tag_of, good_second, in_bounds, good_tag, read_by, read_tag}
use Rattle.tag.specs.Table.{Row11, AllDiffer}

pub row11 : Row11
unfolding rises_from good_list listed digits_of decimal value_of tag_of good_second in_bounds good_tag read_by read_tag
row11 = record { good = refl; bad = refl }

pub all_differ : AllDiffer
unfolding rises_from good_list listed digits_of decimal value_of tag_of good_second in_bounds good_tag read_by read_tag
all_differ = refl
