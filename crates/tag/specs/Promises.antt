-- What is promised of time tags, with any list of leap days. The first part says anew, in plain facts, what a tag is; each record after it is
-- a row of promises over the definitions, kept in proofs/KeepsTags.antt.
-- Assumes nothing.
use Rattle.std.specs.Prelude.{◌≡◌, ◌⊎◌, ℕ, ◌+◌, ◌*◌, ◌≤◌, ◌<◌, List, length, get_or, replicate}
use Rattle.calendar.specs.Years.{days_in}
use Rattle.calendar.specs.Promises.{IsList, InList}
use Rattle.tag.specs.Tags.{tag_digits, tag_of, bytes_of, read_tag, write_tag, zero_tag}
use Rattle.tag.specs.declared.Tag.{Tag}

-- 23:59:60 on a day of the list.
pub record LeapSecond (leaps : List ℕ) (t : Tag) : Type 0 where
  pub hour : t.hour ≡ 23
  pub minute : t.minute ≡ 59
  pub second : t.second ≡ 60
  pub listed : InList leaps (t.year * 1000 + t.day)

-- Eight bytes; no digit over 9; no day 0, nor one over 365 (over 366 in a leap year), no hour over 23, no minute over 59, no second over 59
-- but a leap second.
pub record IsTag (leaps : List ℕ) (s : List ℕ) : Type 0 where
  pub eight : length s ≡ 8
  pub digits : (i : ℕ) → i < 16 → get_or (tag_digits s) i 0 ≤ 9
  pub day : 1 ≤ (tag_of s).day
  pub to_last : (tag_of s).day ≤ days_in (tag_of s).year
  pub hour : (tag_of s).hour ≤ 23
  pub minute : (tag_of s).minute ≤ 59
  pub second : ((tag_of s).second ≤ 59) ⊎ LeapSecond leaps (tag_of s)

-- The same bounds on numbers; so the year is at most 9999 and the millisecond at most 999.
pub record Bounded (leaps : List ℕ) (t : Tag) : Type 0 where
  pub year : t.year ≤ 9999
  pub day : 1 ≤ t.day
  pub to_last : t.day ≤ days_in t.year
  pub hour : t.hour ≤ 23
  pub minute : t.minute ≤ 59
  pub second : (t.second ≤ 59) ⊎ LeapSecond leaps t
  pub ms : t.ms ≤ 999

-- Refusal 19 is given exactly where the list is none; refusal 12, by a list, exactly where bytes are no tag. Both come with zeros.
pub record Reading (leaps : List ℕ) : Type 0 where
  pub no_list : (s : List ℕ) → (IsList leaps → ⊥) → read_tag leaps s ≡ record { number = 19; tag = zero_tag }
  pub taken : (s : List ℕ) → IsList leaps → IsTag leaps s → read_tag leaps s ≡ record { number = 0; tag = tag_of s }
  pub refused : (s : List ℕ) → IsList leaps → (IsTag leaps s → ⊥) → read_tag leaps s ≡ record { number = 12; tag = zero_tag }
  pub only : (s : List ℕ) → (read_tag leaps s).number ≡ 0 → IsList leaps × IsTag leaps s

-- The writer applies the same bounds.
pub record Writing (leaps : List ℕ) : Type 0 where
  pub no_list : (t : Tag) → (IsList leaps → ⊥) → write_tag leaps t ≡ record { number = 19; bytes = replicate 8 0 }
  pub taken : (t : Tag) → IsList leaps → Bounded leaps t → write_tag leaps t ≡ record { number = 0; bytes = bytes_of t }
  pub refused : (t : Tag) → IsList leaps → (Bounded leaps t → ⊥) → write_tag leaps t ≡ record { number = 12; bytes = replicate 8 0 }
  pub only : (t : Tag) → (write_tag leaps t).number ≡ 0 → IsList leaps × Bounded leaps t

-- Reading a written tag gives the numbers and the mark; writing what was read gives the bytes. The list is one and the same.
pub record ThereAndBack (leaps : List ℕ) : Type 0 where
  pub read_written : (t : Tag) → (write_tag leaps t).number ≡ 0 → read_tag leaps (write_tag leaps t).bytes ≡ record { number = 0; tag = t }
  pub write_read : (s : List ℕ) → ((i : ℕ) → get_or s i 0 < 256) → (read_tag leaps s).number ≡ 0
      → write_tag leaps (read_tag leaps s).tag ≡ record { number = 0; bytes = s }
