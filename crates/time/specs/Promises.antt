-- What is promised of elapsed time, kept in proofs/KeepsTimes.antt.
-- Assumes nothing.
use Rattle.std.specs.Prelude.{◌≡◌, ℕ, ◌+◌, ◌*◌, ◌-◌, ◌/◌, ◌<◌, List, pos, neg_ℤ, ◌+ℤ◌, ◌<ℤ◌}
use Rattle.calendar.specs.Promises.{IsList}
use Rattle.tag.specs.Tags.{unmarked, tag_of}
use Rattle.tag.specs.Promises.{IsTag, Bounded}
use Rattle.tag.specs.declared.Tag.{Tag}
use Rattle.time.specs.Years.{days_before}
use Rattle.time.specs.Times.{between, elapsed_of}

-- One tag is earlier than another where its first number that differs is smaller. The mark is none of them.
pub data Earlier (a b : Tag) : Type 0 where
  by_year : a.year < b.year → Earlier a b
  by_day : a.year ≡ b.year → a.day < b.day → Earlier a b
  by_hour : a.year ≡ b.year → a.day ≡ b.day → a.hour < b.hour → Earlier a b
  by_minute : a.year ≡ b.year → a.day ≡ b.day → a.hour ≡ b.hour → a.minute < b.minute → Earlier a b
  by_second : a.year ≡ b.year → a.day ≡ b.day → a.hour ≡ b.hour → a.minute ≡ b.minute → a.second < b.second → Earlier a b
  by_ms : a.year ≡ b.year → a.day ≡ b.day → a.hour ≡ b.hour → a.minute ≡ b.minute → a.second ≡ b.second → a.ms < b.ms → Earlier a b

pub record SameTime (a b : Tag) : Type 0 where
  pub year : a.year ≡ b.year
  pub day : a.day ≡ b.day
  pub hour : a.hour ≡ b.hour
  pub minute : a.minute ≡ b.minute
  pub second : a.second ≡ b.second
  pub ms : a.ms ≡ b.ms

-- Elapsed time by one list of leap days, refused with 19 for a bad list, then with 12 for a bad tag; the flywheel mark has no part in it. It
-- is positive, negative or zero as the second tag is later, earlier or the same, leap seconds among them, and zero for no others; it changes
-- its sign with the direction, and adds up.
pub record Elapsing (leaps : List ℕ) : Type 0 where
  pub no_list : (a b : List ℕ) → (IsList leaps → ⊥) → elapsed_of leaps a b ≡ record { number = 19; ms = pos 0 }
  pub taken : (a b : List ℕ) → IsList leaps → IsTag leaps a → IsTag leaps b → elapsed_of leaps a b ≡ record { number = 0; ms = between leaps (tag_of a) (tag_of b) }
  pub bad_first : (a b : List ℕ) → IsList leaps → (IsTag leaps a → ⊥) → elapsed_of leaps a b ≡ record { number = 12; ms = pos 0 }
  pub bad_second : (a b : List ℕ) → IsList leaps → (IsTag leaps b → ⊥) → elapsed_of leaps a b ≡ record { number = 12; ms = pos 0 }
  pub no_mark : (a b : List ℕ) → elapsed_of leaps (unmarked a) (unmarked b) ≡ elapsed_of leaps a b
  pub later : (a b : Tag) → Bounded leaps a → Bounded leaps b → Earlier a b → pos 0 <ℤ between leaps a b
  pub earlier : (a b : Tag) → Bounded leaps a → Bounded leaps b → Earlier b a → between leaps a b <ℤ pos 0
  pub same : (a b : Tag) → SameTime a b → between leaps a b ≡ pos 0
  pub apart : (a b : Tag) → Bounded leaps a → Bounded leaps b → between leaps a b ≡ pos 0 → SameTime a b
  pub backward : (a b : Tag) → between leaps b a ≡ neg_ℤ (between leaps a b)
  pub additive : (a b c : Tag) → between leaps a b +ℤ between leaps b c ≡ between leaps a c

-- The days before a year, counted year by year, by the quick formula.
abbrev pub Quick : Type 0
Quick = (y : ℕ) → 365 * y + (y + 3) / 4 + (y + 399) / 400 - (y + 99) / 100 ≡ days_before y
