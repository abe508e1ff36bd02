-- The Sounder's detector status: which bit is whose, how many are set, which one is the first, and what is answered for one that is asked for.
-- Assumes nothing.
use Rattle.std.specs.Prelude.{ℕ, zero, suc, ◌+◌, ◌-◌, ◌*◌, ◌/◌, ◌%◌, Bool, false, ◌&&◌, List, [], ◌∷◌, eqb, leb, ltb, get_or, take, drop, Option, Some, None, Result, Ok, Err}
use Rattle.ground.specs.Choice.{pick}
use Rattle.ground.specs.declared.Refusal.{Refusal}
use Rattle.ground.specs.Refusals.{number_of}
use Rattle.bits.specs.Bits.{sent}
use Rattle.bits.specs.Fields.{all_zero}
use Rattle.detectors.specs.declared.Detector.{Detector}
use Rattle.detectors.specs.declared.Suspects.{Suspects}

-- There are 19 channels with 4 detectors each, 76 in all.
abbrev pub channels : ℕ
channels = 19

abbrev pub in_channel : ℕ
in_channel = 4

-- Ten bytes: a bit for each detector in the order sent, and four behind them that stand for none and are zero.
unfoldable pub detectors : List ℕ → List ℕ
detectors status = take (channels * in_channel) (sent status)

unfoldable pub spare_zero : List ℕ → Bool
spare_zero status = all_zero (drop (channels * in_channel) (sent status))

-- how many bits are 1
unfoldable pub set_in : List ℕ → ℕ
set_in [] = 0
set_in (b ∷ bs) = b + set_in bs

-- how many stand before the first that is 1: all, where none is
unfoldable pub before_set : List ℕ → ℕ
before_set [] = 0
before_set (zero ∷ bs) = suc (before_set bs)
before_set (suc b ∷ bs) = 0

-- In the order of the channels, and in each of its detectors, both from 1: which detector's bit has so many before it,
unfoldable pub place_at : ℕ → Option Detector
place_at before =
    pick (ltb before (channels * in_channel)) (Some (record { channel = before / in_channel + 1; number = before % in_channel + 1 })) None

-- and how many stand before a detector's.
abbrev pub before : ℕ → ℕ → ℕ
before channel detector = (channel - 1) * in_channel + (detector - 1)

-- A first detector in numbers: its channel and its number in that, or zeros where there is none.
abbrev pub channel_of : Option Detector → ℕ
channel_of (Some d) = d.channel
channel_of None = 0

abbrev pub detector_of : Option Detector → ℕ
detector_of (Some d) = d.number
detector_of None = 0

-- A detector is suspect where its bit is 1: how many are, and the first.
unfoldable pub suspects_of : List ℕ → Suspects
suspects_of status = record { count = set_in (detectors status); first = place_at (before_set (detectors status)) }

abbrev pub inside : ℕ → ℕ → Bool
inside channel detector = leb 1 channel && (leb channel channels && (leb 1 detector && leb detector in_channel))

-- the answer as numbers: 0 and whether it is suspect, or a refusal's number and false
pub record Asked : Type 0 where
  pub number : ℕ
  pub suspect : Bool

-- One that is asked for; a channel or a detector that there is not is refusal 13.
unfoldable pub asked_of : List ℕ → ℕ → ℕ → Asked
asked_of status channel detector =
    pick (inside channel detector)
    (record { number = 0; suspect = eqb (get_or (detectors status) (before channel detector) 0) 1 })
    (record { number = 13; suspect = false })

-- what is told of an answer
abbrev pub told : Result Bool Refusal → Asked
told (Ok suspect) = record { number = 0; suspect = suspect }
told (Err r) = record { number = number_of r; suspect = false }
