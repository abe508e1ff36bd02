-- What reading a block answers, and what it leaves in the room lent.
-- Assumes nothing.
use Rattle.std.specs.Prelude.{ℕ, Bool, false, List, ◌++◌, eqb, length, drop, replicate, Result, Ok, Err}
use Rattle.ground.specs.Choice.{pick}
use Rattle.ground.specs.declared.Refusal.{Refusal}
use Rattle.ground.specs.Refusals.{number_of}
use Rattle.bits.specs.Fields.{words_of}
use Rattle.copies.specs.Copies.{CommonAnswer, header_length, copy_at, header_in, found_common}
use Rattle.header.specs.Says.{size_in, words_in, bytes_in}
use Rattle.block.specs.declared.Contents.{Contents}
use Rattle.block.specs.Layout.{information_field}
use Rattle.block.specs.Grounds.{refusal_by, refusal_of}

-- ---- by a given header

-- the answer as numbers: 0 and the count of words, or a refusal's number and 0
pub record Judged : Type 0 where
  pub number : ℕ
  pub words : ℕ

-- the count in a refusal is zero
abbrev pub refused_judged : ℕ → Judged
refused_judged n = record { number = n; words = 0 }

abbrev pub accepted_judged : List ℕ → Judged
accepted_judged h = record { number = 0; words = words_in h }

unfoldable pub judged_by : (h block : List ℕ) → ℕ → Judged
judged_by h block room = pick (eqb (refusal_by h block room) 0) (accepted_judged h) (refused_judged (refusal_by h block room))

-- what is told of an answer
abbrev pub told_by : Result ℕ Refusal → Judged
told_by (Ok words) = record { number = 0; words = words }
told_by (Err r) = refused_judged (number_of r)

-- the words of the field that the header h asks for
abbrev pub words_by : (h block : List ℕ) → List ℕ
words_by h block = words_of (size_in h) (words_in h) (information_field (bytes_in h) block)

-- acceptance writes the C words at the front of the room, and changes nothing behind them; a refusal leaves the room as it was
abbrev pub words_laid : (h block room : List ℕ) → List ℕ
words_laid h block room = words_by h block ++ drop (words_in h) room

unfoldable pub room_by : (h block room : List ℕ) → List ℕ
room_by h block room = pick (eqb (refusal_by h block (length room)) 0) (words_laid h block room) room

-- ---- by the common header

-- the answer as numbers: 0, the header, which copies passed and the count of words, or a refusal's number and zeros
pub record Answer : Type 0 where
  pub number : ℕ
  pub header : List ℕ
  pub first : Bool
  pub second : Bool
  pub third : Bool
  pub words : ℕ

-- every count, mark and header byte in a refusal is zero
abbrev pub refused_answer : ℕ → Answer
refused_answer n = record { number = n; header = replicate header_length 0; first = false; second = false; third = false; words = 0 }

-- the common header, which copies passed, and the count of words
abbrev pub answer_with : CommonAnswer → ℕ → Answer
answer_with common words =
    record { number = 0; header = common.header; first = common.first; second = common.second; third = common.third; words = words }

abbrev pub accepted_answer : List ℕ → Answer
accepted_answer block = answer_with (found_common (copy_at 0 block) (copy_at 1 block) (copy_at 2 block)) (words_in (header_in block))

unfoldable pub answer_of : List ℕ → ℕ → Answer
answer_of block room = pick (eqb (refusal_of block room) 0) (accepted_answer block) (refused_answer (refusal_of block room))

-- what is told of an answer
abbrev pub told : Result Contents Refusal → Answer
told (Ok c) = record { number = 0; header = c.common.header; first = c.common.first; second = c.common.second; third = c.common.third; words = c.words }
told (Err r) = refused_answer (number_of r)

unfoldable pub room_after : (block room : List ℕ) → List ℕ
room_after block room = pick (eqb (refusal_of block (length room)) 0) (words_laid (header_in block) block room) room
