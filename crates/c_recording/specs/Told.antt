-- What C is told of a recording: what was found, as a number; the line that its numbers make; whether a text fits.
-- Assumes nothing.
use Rattle.std.specs.Prelude.{ℕ, List, eqb}
use Rattle.ground.specs.Choice.{pick}
use Rattle.room.specs.Laid.{inside}
use Rattle.recording.specs.declared.Found.{Found}
use Rattle.recording.specs.declared.Found.TheVariants.{Whole, Cut, End}
use Rattle.recording.specs.declared.Line.{Line}
use Rattle.c_numbers.specs.Numbers.{up_to}

-- Nothing more is 0, a whole field is 1, a cut one is 2. None of them is a refusal.
abbrev pub code_of : Found → ℕ
code_of End = 0
code_of (Whole tag start n) = 1
code_of Cut = 2

-- The line of the numbers that C gives; a block, a version or an answer above 255 counts as 255.
abbrev pub line_from : (seq block version words answer : ℕ) → Line
line_from seq block version words answer = record { seq = seq; answer = up_to 255 answer; block = up_to 255 block; version = up_to 255 version; words = words }

-- A text that does not fit into the room is 9.
abbrev pub put_number : (room text : List ℕ) → ℕ
put_number room text = pick (inside room 0 text) 0 9

-- By the bytes that were put it is the same: no text is empty.
abbrev pub number_by : ℕ → ℕ
number_by bytes = pick (eqb bytes 0) 9 0
