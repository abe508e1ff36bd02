-- Leap seconds: what tags, elapsed time and the watch answer with any list of leap days, empty or not, good or bad. The statements on tags
-- and on the watch are these with the empty list. Assumes nothing.
use Rattle.std.specs.Prelude.{ℕ, suc, ◌+◌, ◌*◌, ◌≤◌, ◌<◌, ◌≡◌, ◌⊎◌, ◌↔◌, true, List, [], ◌∷◌, pos, ◌-ℤ◌, ◌+ℤ◌, length, get_or, replicate}
use Rattle.bits.specs.Bits.{Below}
use Rattle.tag.specs.Tags.{in_bounds, read_tag, write_tag}
use Rattle.time.specs.Times.{between, elapsed_of}
use Rattle.time.specs.Promises as Time
use Rattle.time.specs.Table.{AcrossLeap}
use Rattle.tag.specs.declared.Tag.{Tag}
use Rattle.watch_bounds.specs.declared.Watch.{Watch}
use Rattle.watch.specs.Verdicts.{number_of, kind_of}
use Rattle.watch.specs.Promises.{resting, OneOffer, AnyOffers}
use Rattle.watch.specs.Offers.{verdict_of, after, offer_of, blocks_before}
use Rattle.watch.specs.Rules.{step_of}
use Rattle.scope.specs.Notions.{Reason, ◌if◌, FirstOf}
use Rattle.scope.specs.Tags.{Says, LeapYear, no_tag}
use Rattle.scope.specs.Watch.{Outside, rules}

-- A leap day is one number, year times 1,000 and day of the year: 2016366 is 2016 day 366. It is a day of a year from 0 to 9999.
pub record LeapDay (n : ℕ) : Type 0 where
  pub year : ℕ
  pub day : ℕ
  pub number : n ≡ year * 1000 + day
  pub to_9999 : year ≤ 9999
  pub from_day : 1 ≤ day
  pub to_day : (day ≤ 365) ⊎ ((day ≡ 366) × LeapYear year)

-- A list has at most 64 of them, and each is before the next one.
pub record LeapDays (leaps : List ℕ) : Type 0 where
  pub most : length leaps ≤ 64
  pub days : (i : ℕ) → i < length leaps → LeapDay (get_or leaps i 0)
  pub rising : (i : ℕ) → suc i < length leaps → get_or leaps i 0 < get_or leaps (suc i) 0

-- the day of a tag as such a number, and that it is listed
abbrev pub day_of : Tag → ℕ
day_of t = t.year * 1000 + t.day

abbrev pub Listed : List ℕ → Tag → Type 0
Listed leaps t = (i : ℕ) × ((i < length leaps) × (get_or leaps i 0 ≡ day_of t))

-- The bounds of a tag are as before, but for its second: 60 is good at 23:59 on a listed day, and at no other time.
pub record Bounds (leaps : List ℕ) (t : Tag) : Type 0 where
  pub year : t.year ≤ 9999
  pub from_day : 1 ≤ t.day
  pub to_day : (t.day ≤ 365) ⊎ ((t.day ≡ 366) × LeapYear t.year)
  pub hour : t.hour ≤ 23
  pub minute : t.minute ≤ 59
  pub second : (t.second ≤ 59) ⊎ ((t.second ≡ 60) × (t.minute ≡ 59) × (t.hour ≡ 23) × Listed leaps t)
  pub ms : t.ms ≤ 999

abbrev pub Bad : List ℕ → List ℕ → Type 0
Bad leaps s = (t : Tag) → Says s t → Bounds leaps t → ⊥

-- Refusal 19 is for a list, and comes before the first 12: in reading and in elapsed time before the bytes are looked at, in writing before
-- the numbers are.
pub record Reading (leaps : List ℕ) : Type 0 where
  pub number : (s : List ℕ) → FirstOf (19 if (LeapDays leaps → ⊥) ∷ 12 if Bad leaps s ∷ []) (read_tag leaps s).number
  pub taken : (s : List ℕ) → (read_tag leaps s).number ≡ 0 → Says s (read_tag leaps s).tag
  pub refused : (s : List ℕ) → ((read_tag leaps s).number ≡ 0 → ⊥) → (read_tag leaps s).tag ≡ no_tag

pub record Writing (leaps : List ℕ) : Type 0 where
  pub number : (t : Tag) → FirstOf (19 if (LeapDays leaps → ⊥) ∷ 12 if (Bounds leaps t → ⊥) ∷ []) (write_tag leaps t).number
  pub taken : (t : Tag) → (write_tag leaps t).number ≡ 0 → Says (write_tag leaps t).bytes t × Below 256 (write_tag leaps t).bytes
  pub refused : (t : Tag) → ((write_tag leaps t).number ≡ 0 → ⊥) → (write_tag leaps t).bytes ≡ replicate 8 0
  pub bounds : (t : Tag) → (in_bounds leaps t ≡ true) ↔ Bounds leaps t
  -- there and back
  pub read_written : (t : Tag) → (write_tag leaps t).number ≡ 0 → read_tag leaps (write_tag leaps t).bytes ≡ record { number = 0; tag = t }
  pub write_read : (s : List ℕ) → Below 256 s → (read_tag leaps s).number ≡ 0 → write_tag leaps (read_tag leaps s).tag ≡ record { number = 0; bytes = s }

-- So many of a list's days, its first k, are before a tag's own day; the day itself is not.
pub record Passed (leaps : List ℕ) (t : Tag) (k : ℕ) : Type 0 where
  pub most : k ≤ length leaps
  pub before : (i : ℕ) → i < length leaps → (get_or leaps i 0 < day_of t) ↔ (i < k)

-- A time is counted as before, and 1,000 ms more for each listed day before its own day. What follows of order, sign and sum is promised
-- beside the count, and cited.
pub record Elapsing (leaps : List ℕ) : Type 0 where
  pub number : (a b : List ℕ) → FirstOf (19 if (LeapDays leaps → ⊥) ∷ 12 if (Bad leaps a ⊎ Bad leaps b) ∷ []) (elapsed_of leaps a b).number
  pub refused : (a b : List ℕ) → ((elapsed_of leaps a b).number ≡ 0 → ⊥) → (elapsed_of leaps a b).ms ≡ pos 0
  pub taken : (a b : List ℕ) (from to : Tag) → LeapDays leaps → Says a from → Bounds leaps from → Says b to → Bounds leaps to
      → elapsed_of leaps a b ≡ record { number = 0; ms = between leaps from to }
  pub counted : (a b : Tag) (m n : ℕ) → LeapDays leaps → Passed leaps a m → Passed leaps b n
      → between leaps a b ≡ between [] a b +ℤ (pos (1000 * n) -ℤ pos (1000 * m))
  pub ordered : Time.Elapsing leaps

-- The watch tests the list after 16, 13 and 20, open or idle, and its last tag by the list that is lent now.
abbrev pub refusals : List ℕ → Watch → ℕ → List ℕ → List Reason
refusals leaps w b s =
    16 if (3600000 < w.limit)
    ∷ 13 if ((w.opened ≡ true) × ((w.expected < 1) ⊎ (10 < w.expected)))
    ∷ 20 if Outside w
    ∷ 19 if (LeapDays leaps → ⊥)
    ∷ 12 if ((w.opened ≡ true) × (Bounds leaps w.last → ⊥))
    ∷ 4 if (11 < b)
    ∷ 12 if Bad leaps s
    ∷ []

pub record Watching (leaps : List ℕ) : Type 0 where
  pub number : (w : Watch) (b v : ℕ) (s : List ℕ) → FirstOf (refusals leaps w b s) (number_of (step_of leaps w b v s).verdict)
  pub rule : (w : Watch) (b v : ℕ) (s : List ℕ) (t : Tag) → Says s t → number_of (step_of leaps w b v s).verdict ≡ 0
      → FirstOf (rules leaps w b t) (kind_of (step_of leaps w b v s).verdict)
  pub left : OneOffer leaps
  -- under one limit and one list; that it is never refused for itself holds with any
  pub scans : AnyOffers leaps

-- Eleven tags, a second apart, over the leap second of 2016 day 366: 23:59:55 to 23:59:60, then midnight to 00:00:04.
abbrev pub crossing : ℕ → List ℕ
crossing k =
    get_or
    ((0x20 ∷ 0x16 ∷ 0x36 ∷ 0x62 ∷ 0x35 ∷ 0x95 ∷ 0x50 ∷ 0x00 ∷ [])
    ∷ (0x20 ∷ 0x16 ∷ 0x36 ∷ 0x62 ∷ 0x35 ∷ 0x95 ∷ 0x60 ∷ 0x00 ∷ [])
    ∷ (0x20 ∷ 0x16 ∷ 0x36 ∷ 0x62 ∷ 0x35 ∷ 0x95 ∷ 0x70 ∷ 0x00 ∷ [])
    ∷ (0x20 ∷ 0x16 ∷ 0x36 ∷ 0x62 ∷ 0x35 ∷ 0x95 ∷ 0x80 ∷ 0x00 ∷ [])
    ∷ (0x20 ∷ 0x16 ∷ 0x36 ∷ 0x62 ∷ 0x35 ∷ 0x95 ∷ 0x90 ∷ 0x00 ∷ [])
    ∷ (0x20 ∷ 0x16 ∷ 0x36 ∷ 0x62 ∷ 0x35 ∷ 0x96 ∷ 0x00 ∷ 0x00 ∷ [])
    ∷ (0x20 ∷ 0x17 ∷ 0x00 ∷ 0x10 ∷ 0x00 ∷ 0x00 ∷ 0x00 ∷ 0x00 ∷ [])
    ∷ (0x20 ∷ 0x17 ∷ 0x00 ∷ 0x10 ∷ 0x00 ∷ 0x00 ∷ 0x10 ∷ 0x00 ∷ [])
    ∷ (0x20 ∷ 0x17 ∷ 0x00 ∷ 0x10 ∷ 0x00 ∷ 0x00 ∷ 0x20 ∷ 0x00 ∷ [])
    ∷ (0x20 ∷ 0x17 ∷ 0x00 ∷ 0x10 ∷ 0x00 ∷ 0x00 ∷ 0x30 ∷ 0x00 ∷ [])
    ∷ (0x20 ∷ 0x17 ∷ 0x00 ∷ 0x10 ∷ 0x00 ∷ 0x00 ∷ 0x40 ∷ 0x00 ∷ [])
    ∷ [])
    k []

-- With that day listed and a limit of 1,000 ms a watch completes such a scan, in 10,000 ms, whatever the data valid words are.
pub record Crossing : Type 0 where
  pub completed : (valid : ℕ → ℕ)
      → kind_of (verdict_of (after (resting 1000) (blocks_before 10 (2016366 ∷ []) valid crossing)) (offer_of (2016366 ∷ []) valid crossing 10)) ≡ 7
  pub true_time : elapsed_of (2016366 ∷ []) (crossing 0) (crossing 10) ≡ record { number = 0; ms = pos 10000 }

pub record LeapSeconds : Type 0 where
  pub reading : (leaps : List ℕ) → Reading leaps
  pub writing : (leaps : List ℕ) → Writing leaps
  pub elapsing : (leaps : List ℕ) → Elapsing leaps
  pub watching : (leaps : List ℕ) → Watching leaps
  -- 2016 day 366 listed, not listed, and the day before listed
  pub examples : AcrossLeap
  pub scan : Crossing
