-- What the cases of a verdict mean: the number given, what the offer did, as a number too, and which blocks were fill.
-- Assumes nothing.
use Rattle.std.specs.Prelude.{ℕ, Result, Ok, Err}
use Rattle.ground.specs.declared.Refusal.{Refusal}
use Rattle.ground.specs.Refusals as refusals
use Rattle.watch_rule.specs.declared.Closing.{Closing}
use Rattle.watch_rule.specs.Rules.{closing_kind}
use Rattle.watch.specs.declared.Verdict as code
use Rattle.watch.specs.declared.Verdict.TheVariants as variant

-- What an offer did: a refusal has its number, a closing how the scan closed, the set of its fill blocks and how many they are.
pub data Verdict : Type 0 where
  Refused : ℕ → Verdict
  Stray : Verdict
  Opened : Verdict
  Kept : Verdict
  Closed : Closing → ℕ → ℕ → Verdict

-- What is told of an answer.
abbrev pub verdict_in : code.Verdict → Verdict
verdict_in variant.Stray = Stray
verdict_in variant.Opened = Opened
verdict_in variant.Kept = Kept
verdict_in (variant.Closed why fill count) = Closed why fill count

abbrev pub told : Result code.Verdict Refusal → Verdict
told (Ok v) = verdict_in v
told (Err r) = Refused (refusals.number_of r)

-- The number given: that of the refusal, or 0 for accepted.
abbrev pub number_of : Verdict → ℕ
number_of (Refused n) = n
number_of Stray = 0
number_of Opened = 0
number_of Kept = 0
number_of (Closed why fill count) = 0

-- What the offer did: 0 nothing, for it was refused; 1 nothing, for it was a stray; 2 it opened a scan; 3 it was kept; from 4 on it closed a
-- scan.
abbrev pub kind_of : Verdict → ℕ
kind_of (Refused n) = 0
kind_of Stray = 1
kind_of Opened = 2
kind_of Kept = 3
kind_of (Closed why fill count) = closing_kind why

-- The set of the scan's fill blocks and how many they are, which a closing hands over; 0 where nothing was closed.
abbrev pub fill_of : Verdict → ℕ
fill_of (Refused n) = 0
fill_of Stray = 0
fill_of Opened = 0
fill_of Kept = 0
fill_of (Closed why fill count) = fill

abbrev pub count_of : Verdict → ℕ
count_of (Refused n) = 0
count_of Stray = 0
count_of Opened = 0
count_of Kept = 0
count_of (Closed why fill count) = count
