-- CDA time tags, with no leap days: the list lent is the empty one. Assumes nothing.
use Rattle.std.specs.Prelude.{ℕ, ◌+◌, ◌*◌, ◌/◌, ◌%◌, ◌≤◌, ◌<◌, ◌≡◌, ◌⊎◌, ◌↔◌, true, false, List, [], ◌∷◌, pos, ◌-ℤ◌, neg_ℤ, ◌+ℤ◌, length, get_or, replicate}
use Rattle.bits.specs.Bits.{Below}
use Rattle.tag.specs.Tags.{in_bounds, read_tag, write_tag}
use Rattle.time.specs.Times.{between, elapsed_of}
use Rattle.tag.specs.declared.Tag.{Tag}
use Rattle.scope.specs.Notions.{◌if◌, FirstOf, word}

-- A tag is eight bytes, sixteen BCD digits. The first bit of byte 3 is not part of the day: it is the flywheel mark.
abbrev pub digits : List ℕ → List ℕ
digits s =
    word 1 s / 16 ∷ word 1 s % 16 ∷ word 2 s / 16 ∷ word 2 s % 16
    ∷ word 3 s % 128 / 16 ∷ word 3 s % 16 ∷ word 4 s / 16 ∷ word 4 s % 16
    ∷ word 5 s / 16 ∷ word 5 s % 16 ∷ word 6 s / 16 ∷ word 6 s % 16
    ∷ word 7 s / 16 ∷ word 7 s % 16 ∷ word 8 s / 16 ∷ word 8 s % 16 ∷ []

abbrev pub digit : ℕ → List ℕ → ℕ
digit i s = get_or (digits s) i 0

-- Four digits for the year, three for the day of the year, two each for hour, minute and second, three for the millisecond; none is over 9.
pub record Says (s : List ℕ) (t : Tag) : Type 0 where
  pub eight : length s ≡ 8
  pub decimal : (i : ℕ) → i < 16 → digit i s ≤ 9
  pub year : t.year ≡ digit 0 s * 1000 + digit 1 s * 100 + digit 2 s * 10 + digit 3 s
  pub day : t.day ≡ digit 4 s * 100 + digit 5 s * 10 + digit 6 s
  pub hour : t.hour ≡ digit 7 s * 10 + digit 8 s
  pub minute : t.minute ≡ digit 9 s * 10 + digit 10 s
  pub second : t.second ≡ digit 11 s * 10 + digit 12 s
  pub ms : t.ms ≡ digit 13 s * 100 + digit 14 s * 10 + digit 15 s
  pub flywheel : (t.flywheel ≡ true) ↔ (128 ≤ word 3 s)

-- the Gregorian rule
pub record LeapYear (y : ℕ) : Type 0 where
  pub fourth : y % 4 ≡ 0
  pub century : (y % 100 ≡ 0 → ⊥) ⊎ (y % 400 ≡ 0)

-- No year is over 9999, no day 0, nor over 365 (over 366 in a leap year), no hour over 23, minute or second over 59, millisecond over 999.
pub record Bounds (t : Tag) : Type 0 where
  pub year : t.year ≤ 9999
  pub from_day : 1 ≤ t.day
  pub to_day : (t.day ≤ 365) ⊎ ((t.day ≡ 366) × LeapYear t.year)
  pub hour : t.hour ≤ 23
  pub minute : t.minute ≤ 59
  pub second : t.second ≤ 59
  pub ms : t.ms ≤ 999

-- bytes that are no tag
abbrev pub Bad : List ℕ → Type 0
Bad s = (t : Tag) → Says s t → Bounds t → ⊥

abbrev pub no_tag : Tag
no_tag = record { year = 0; day = 0; hour = 0; minute = 0; second = 0; ms = 0; flywheel = false }

pub record Reading : Type 0 where
  pub number : (s : List ℕ) → FirstOf (12 if Bad s ∷ []) (read_tag [] s).number
  pub taken : (s : List ℕ) → (read_tag [] s).number ≡ 0 → Says s (read_tag [] s).tag
  pub refused : (s : List ℕ) → ((read_tag [] s).number ≡ 0 → ⊥) → read_tag [] s ≡ record { number = 12; tag = no_tag }

-- The writer of tags is given the numbers and the mark and makes eight bytes. The bounds are those of reading.
pub record Writing : Type 0 where
  pub number : (t : Tag) → FirstOf (12 if (Bounds t → ⊥) ∷ []) (write_tag [] t).number
  pub taken : (t : Tag) → (write_tag [] t).number ≡ 0 → Says (write_tag [] t).bytes t × Below 256 (write_tag [] t).bytes
  pub refused : (t : Tag) → ((write_tag [] t).number ≡ 0 → ⊥) → write_tag [] t ≡ record { number = 12; bytes = replicate 8 0 }
  pub bounds : (t : Tag) → (in_bounds [] t ≡ true) ↔ Bounds t
  -- both ways
  pub read_written : (t : Tag) → (write_tag [] t).number ≡ 0 → read_tag [] (write_tag [] t).bytes ≡ record { number = 0; tag = t }
  pub write_read : (s : List ℕ) → Below 256 s → (read_tag [] s).number ≡ 0 → write_tag [] (read_tag [] s).tag ≡ record { number = 0; bytes = s }

-- milliseconds since midnight
abbrev pub of_day : Tag → ℕ
of_day t = t.hour * 3600000 + t.minute * 60000 + t.second * 1000 + t.ms

-- The elapsed time from a first tag to a second is milliseconds with a sign: said day by day. The flywheel mark has no part in it.
pub record Elapsing : Type 0 where
  pub number : (a b : List ℕ) → FirstOf (12 if (Bad a ⊎ Bad b) ∷ []) (elapsed_of [] a b).number
  pub refused : (a b : List ℕ) → ((elapsed_of [] a b).number ≡ 0 → ⊥) → elapsed_of [] a b ≡ record { number = 12; ms = pos 0 }
  pub taken : (a b : List ℕ) (from to : Tag) → Says a from → Bounds from → Says b to → Bounds to → elapsed_of [] a b ≡ record { number = 0; ms = between [] from to }
  pub in_a_day : (a b : Tag) → a.year ≡ b.year → a.day ≡ b.day → between [] a b ≡ pos (of_day b) -ℤ pos (of_day a)
  pub next_day : (a b : Tag) → a.year ≡ b.year → a.day + 1 ≡ b.day → of_day a ≡ of_day b → between [] a b ≡ pos 86400000
  pub next_year : (a b : Tag) → a.year + 1 ≡ b.year → b.day ≡ 1 → of_day a ≡ of_day b
      → ((a.day ≡ 366) × LeapYear a.year) ⊎ ((a.day ≡ 365) × (LeapYear a.year → ⊥)) → between [] a b ≡ pos 86400000
  pub additive : (a b c : Tag) → between [] a b +ℤ between [] b c ≡ between [] a c
  pub backward : (a b : Tag) → between [] b a ≡ neg_ℤ (between [] a b)
