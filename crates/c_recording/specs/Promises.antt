-- What is promised of what C is told: the number of what was found behind whole fields, the numbers of a line, and of a text that it is put
-- where it fits.
-- Assumes nothing.
use Rattle.std.specs.Prelude.{ℕ, ◌<◌, ◌≤◌, min, ◌≡◌, List, ◌++◌, length, take, drop}
use Rattle.room.specs.Laid.{laid_inside}
use Rattle.recording.specs.Found.{found_at}
use Rattle.recording.specs.Fields.{Field, written, joined}
use Rattle.text.specs.Texts.{put_length}
use Rattle.c_recording.specs.Told.{code_of, line_from, put_number}

-- Nothing more is 0, a whole field is 1, and a recording that stops inside a field, behind its first byte at least, is 2.
pub record TellsFound (before : List Field) : Type 0 where
  pub end : code_of (found_at (joined before) (length (joined before))) ≡ 0
  pub whole : (f : Field) (rest : List ℕ) → code_of (found_at (joined before ++ (written f ++ rest)) (length (joined before))) ≡ 1
  pub cut : (f : Field) (k : ℕ) → 0 < k → k < length (written f) → code_of (found_at (joined before ++ take k (written f)) (length (joined before))) ≡ 2

-- Each number of a line in its place, those of a byte 255 at most.
abbrev pub KeepsNumbers : Type 0
KeepsNumbers =
    (seq block version words answer : ℕ)
    → line_from seq block version words answer ≡ record { seq = seq; answer = min answer 255; block = min block 255; version = min version 255; words = words }

-- A text that fits stands at the front of the room, and its length is told; where it does not, the number is 9 and the room is as it was.
pub record PutsText (room text : List ℕ) : Type 0 where
  pub fits : length text ≤ length room
      → (put_number room text ≡ 0) × (put_length room text ≡ length text) × (laid_inside room 0 text ≡ text ++ drop (length text) room)
  pub small : length room < length text → (put_number room text ≡ 9) × (put_length room text ≡ 0) × (laid_inside room 0 text ≡ room)
