-- The text of the listing, byte for byte: a first line, a line for each field, a last line. Columns are parted by a space, and each line is
-- ended by LF.
-- Assumes nothing.
use Rattle.std.specs.Prelude.{ℕ, ◌+◌, Bool, List, [], ◌∷◌, ◌++◌, eqb, length}
use Rattle.ground.specs.Choice.{pick}
use Rattle.text.specs.Texts.{bytes_of, decimal, ended, columns}
use Rattle.recording.specs.Fields.{Field, Recording, recording_of}
use Rattle.recording.specs.Lines.{line_of}
use Rattle.recording.specs.declared.Line.{Line}

abbrev pub first_text : List ℕ
first_text = bytes_of "seq block version words answer\n"

unfoldable pub block_text : Line → List ℕ
block_text line = columns (decimal line.seq ∷ decimal line.block ∷ decimal line.version ∷ decimal line.words ∷ decimal line.answer ∷ [])

-- refusals always have three dashes
unfoldable pub refusal_text : Line → List ℕ
refusal_text line = columns (decimal line.seq ∷ bytes_of "-" ∷ bytes_of "-" ∷ bytes_of "-" ∷ decimal line.answer ∷ [])

unfoldable pub line_text : Line → List ℕ
line_text line = pick (eqb line.answer 0) (block_text line) (refusal_text line)

abbrev pub last_word : Bool → List ℕ
last_word cut = pick cut (bytes_of "cut ") (bytes_of "end ")

unfoldable pub last_text : (cut : Bool) (count : ℕ) → List ℕ
last_text cut count = last_word cut ++ ended (decimal count) 0x0A

-- the lines of fields behind so many
unfoldable pub lines_text : (before : ℕ) → List Field → ℕ → List ℕ
lines_text before [] room = []
lines_text before (f ∷ fs) room = line_text (line_of before f.tag f.body room) ++ lines_text (before + 1) fs room

abbrev pub listing_of : Recording → ℕ → List ℕ
listing_of r room = first_text ++ (lines_text 0 r.fields room ++ last_text r.cut (length r.fields))

-- the listing of a recording, each block read into room for so many words
abbrev pub listing : List ℕ → ℕ → List ℕ
listing bytes room = listing_of (recording_of bytes) room
