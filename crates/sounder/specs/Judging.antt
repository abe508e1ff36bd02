-- What a Sounder documentation block is refused for, and what is answered.
-- Assumes nothing.
use Rattle.std.specs.Prelude.{ℕ, Bool, false, not, List, map, eqb, replicate, Option, None, Result, Ok, Err}
use Rattle.ground.specs.Choice.{pick}
use Rattle.ground.specs.Refusals.{number_of}
use Rattle.parity.specs.Words.{ground_of}
use Rattle.calendar.specs.Leaps.{good_list}
use Rattle.tag.specs.Tags.{TagRead, told_tag, zero_tag}
use Rattle.detectors.specs.Status as Detectors
use Rattle.detectors.specs.declared.Detector.{Detector}
use Rattle.sounder.specs.Words.{number_at, status_in, tags_of}
use Rattle.sounder.specs.Frame.{frame_of, first_out}
use Rattle.sounder.specs.declared.Fault.{Fault}
use Rattle.sounder.specs.declared.Status.{Status}

-- a refusal as numbers, with the word that 22 names; 0 where there is none
pub record Refusal : Type 0 where
  pub number : ℕ
  pub word : ℕ

-- what a block says as numbers, with the number and the word of its refusal
pub record StatusAnswer : Type 0 where
  pub number : ℕ
  pub word : ℕ
  pub suspects : ℕ
  pub first : Option Detector
  pub raw : ℕ
  pub blocks : ℕ
  pub frame : List ℕ
  pub tags : List TagRead

-- whether a detector is suspect, or the number and the word of a refusal, and false
pub record Asked : Type 0 where
  pub number : ℕ
  pub word : ℕ
  pub suspect : Bool

-- a refusal that names no word
abbrev pub bare : ℕ → Refusal
bare n = record { number = n; word = 0 }

-- 8 and 14 as for parity; 21 for a bit among the last four of the status; 22 for the first frame field out of range, with its first word; 19 for
-- the list; 0 where none of them holds.
unfoldable pub refusal_of : List ℕ → List ℕ → Refusal
refusal_of leaps words =
    pick (not (eqb (ground_of words) 0)) (bare (ground_of words))
    (pick (not (Detectors.spare_zero (status_in words))) (bare 21)
    (pick (not (eqb (first_out (frame_of words)) 0)) (record { number = 22; word = first_out (frame_of words) })
    (pick (not (good_list leaps)) (bare 19)
    (bare 0))))

-- The counts are given as they stand.
abbrev pub accepted_as : List ℕ → List ℕ → StatusAnswer
accepted_as leaps words =
    record {
      number = 0;
      word = 0;
      suspects = (Detectors.suspects_of (status_in words)).count;
      first = (Detectors.suspects_of (status_in words)).first;
      raw = number_at 43 words;
      blocks = number_at 45 words;
      frame = frame_of words;
      tags = tags_of leaps words;
    }

-- A refusal has zeros beside its number and its word.
abbrev pub no_tags : List TagRead
no_tags = replicate 15 (record { number = 0; tag = zero_tag })

abbrev pub refused_as : Refusal → StatusAnswer
refused_as why =
    record {
      number = why.number;
      word = why.word;
      suspects = 0;
      first = None;
      raw = 0;
      blocks = 0;
      frame = replicate 7 0;
      tags = no_tags;
    }

unfoldable pub status_of : List ℕ → List ℕ → StatusAnswer
status_of leaps words = pick (eqb (refusal_of leaps words).number 0) (accepted_as leaps words) (refused_as (refusal_of leaps words))

-- One detector: what the status says of it; 13 comes last.
unfoldable pub asked_of : List ℕ → List ℕ → ℕ → ℕ → Asked
asked_of leaps words channel detector =
    let asked = Detectors.asked_of (status_in words) channel detector in
    let why = refusal_of leaps words in
    pick (eqb why.number 0)
    (record { number = asked.number; word = 0; suspect = asked.suspect })
    (record { number = why.number; word = why.word; suspect = false })

-- ---- what is told of an answer

abbrev pub refusal_in : Fault → Refusal
refusal_in f = record { number = number_of f.why; word = f.word }

abbrev pub fault_in : {T : Type 0} → Result T Fault → Refusal
fault_in (Ok x) = bare 0
fault_in (Err f) = refusal_in f

abbrev pub told_status : Result Status Fault → StatusAnswer
told_status (Ok s) =
    record {
      number = 0;
      word = 0;
      suspects = s.suspects;
      first = s.first;
      raw = s.raw;
      blocks = s.blocks;
      frame = s.frame;
      tags = map told_tag s.tags;
    }
told_status (Err f) = refused_as (refusal_in f)

abbrev pub told_asked : Result Bool Fault → Asked
told_asked (Ok suspect) = record { number = 0; word = 0; suspect = suspect }
told_asked (Err f) = record { number = number_of f.why; word = f.word; suspect = false }
