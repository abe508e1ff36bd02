-- Rows 9, 10 and 12 of the table to prove, on time tags and the time between them, with no leap days; then the examples of leap seconds. The
-- bytes are written in hexadecimal.
-- Assumes nothing.
use Rattle.std.specs.Prelude.{◌≡◌, ℕ, Bool, true, false, List, [], ◌∷◌, pos, negsuc}
use Rattle.tag.specs.Tags.{read_tag}
use Rattle.tag.specs.declared.Tag.{Tag}
use Rattle.time.specs.Times.{elapsed_of}

abbrev last_of_day60 : List ℕ
last_of_day60 = 0x20 ∷ 0x08 ∷ 0x06 ∷ 0x02 ∷ 0x35 ∷ 0x95 ∷ 0x99 ∷ 0x99 ∷ []

abbrev first_of_day61 : List ℕ
first_of_day61 = 0x20 ∷ 0x08 ∷ 0x06 ∷ 0x10 ∷ 0x00 ∷ 0x00 ∷ 0x00 ∷ 0x00 ∷ []

abbrev on_flywheel : List ℕ
on_flywheel = 0x20 ∷ 0x08 ∷ 0x86 ∷ 0x02 ∷ 0x35 ∷ 0x95 ∷ 0x99 ∷ 0x99 ∷ []

-- 2008 day 60, 23:59:59.999, with or without the mark.
abbrev day60 : Bool → Tag
day60 f = record { year = 2008; day = 60; hour = 23; minute = 59; second = 59; ms = 999; flywheel = f }

-- Tag 20 08 06 02 35 95 99 99: 2008 day 60, 23:59:59.999. From it to 20 08 06 10 00 00 00 00: 1 ms; the other way -1.
pub record Row9 : Type 0 where
  pub says : read_tag [] last_of_day60 ≡ record { number = 0; tag = day60 false }
  pub forward : elapsed_of [] last_of_day60 first_of_day61 ≡ record { number = 0; ms = pos 1 }
  pub backward : elapsed_of [] first_of_day61 last_of_day60 ≡ record { number = 0; ms = negsuc 0 }

-- The first tag of row 9 with 86 as its third byte: the same time, with the flywheel mark on.
pub record Row10 : Type 0 where
  pub says : read_tag [] on_flywheel ≡ record { number = 0; tag = day60 true }
  pub same : elapsed_of [] last_of_day60 on_flywheel ≡ record { number = 0; ms = pos 0 }

-- Midnight of 2007 day 365 to midnight of 2008 day 1: 86,400,000 ms.
pub record Row12 : Type 0 where
  pub a_day : elapsed_of [] (0x20 ∷ 0x07 ∷ 0x36 ∷ 0x50 ∷ 0x00 ∷ 0x00 ∷ 0x00 ∷ 0x00 ∷ []) (0x20 ∷ 0x08 ∷ 0x00 ∷ 0x10 ∷ 0x00 ∷ 0x00 ∷ 0x00 ∷ 0x00 ∷ [])
      ≡ record { number = 0; ms = pos 86400000 }

-- 2016 day 366: 23:59:59.000, 23:59:60.000 and 23:59:60.999; and the midnight behind it.
abbrev before_leap : List ℕ
before_leap = 0x20 ∷ 0x16 ∷ 0x36 ∷ 0x62 ∷ 0x35 ∷ 0x95 ∷ 0x90 ∷ 0x00 ∷ []

abbrev first_of_leap : List ℕ
first_of_leap = 0x20 ∷ 0x16 ∷ 0x36 ∷ 0x62 ∷ 0x35 ∷ 0x96 ∷ 0x00 ∷ 0x00 ∷ []

abbrev last_of_leap : List ℕ
last_of_leap = 0x20 ∷ 0x16 ∷ 0x36 ∷ 0x62 ∷ 0x35 ∷ 0x96 ∷ 0x09 ∷ 0x99 ∷ []

abbrev first_of2017 : List ℕ
first_of2017 = 0x20 ∷ 0x17 ∷ 0x00 ∷ 0x10 ∷ 0x00 ∷ 0x00 ∷ 0x00 ∷ 0x00 ∷ []

-- With 2016 day 366 listed its second 60 is good, to its last millisecond, and the next year begins one later. With no day listed, and with
-- the day before, the same tag is refused. The last two seconds of that day are two with the list, and without it one.
pub record AcrossLeap : Type 0 where
  pub good : read_tag (2016366 ∷ []) last_of_leap
      ≡ record { number = 0; tag = record { year = 2016; day = 366; hour = 23; minute = 59; second = 60; ms = 999; flywheel = false } }
  pub next : elapsed_of (2016366 ∷ []) last_of_leap first_of2017 ≡ record { number = 0; ms = pos 1 }
  pub no_days : (read_tag [] last_of_leap).number ≡ 12
  pub day_before : (read_tag (2016365 ∷ []) last_of_leap).number ≡ 12
  pub with : elapsed_of (2016366 ∷ []) before_leap first_of2017 ≡ record { number = 0; ms = pos 2000 }
  pub without : elapsed_of [] before_leap first_of2017 ≡ record { number = 0; ms = pos 1000 }
  pub after : elapsed_of (2016366 ∷ []) before_leap first_of_leap ≡ record { number = 0; ms = pos 1000 }
  pub before : elapsed_of (2016366 ∷ []) first_of2017 first_of_leap ≡ record { number = 0; ms = negsuc 999 }
