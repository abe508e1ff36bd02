-- A line of the listing: the number of a field of a recording, and what it is answered.
-- Assumes nothing.
use Rattle.std.specs.Prelude.{ℕ, ◌+◌, Bool, List, [], ◌∷◌, eqb, ltb, Result, Ok, Err}
use Rattle.ground.specs.Choice.{pick}
use Rattle.ground.specs.declared.Refusal.{Refusal}
use Rattle.ground.specs.Refusals.{number_of}
use Rattle.header.specs.Plans.{plan_of}
use Rattle.block.specs.Answers.{Answer, answer_of, room_after}
use Rattle.recording.specs.Fields.{Field}
use Rattle.recording.specs.declared.Line.{Line}
use Rattle.recording.specs.declared.Listed.{Listed}

-- tag 1 holds a block
abbrev pub holds_block : ℕ → Bool
holds_block tag = eqb tag 1

-- more fields than any recording has
abbrev pub most_fields : ℕ
most_fields = 18446744073709551615

-- the number of the field behind so many
abbrev pub seq_after : ℕ → ℕ
seq_after before = pick (ltb before most_fields) (before + 1) before

abbrev pub refused_line : (seq number : ℕ) → Line
refused_line seq n = record { seq = seq; answer = n; block = 0; version = 0; words = 0 }

-- the block number and the version are those of the header that was read
abbrev pub listed : ℕ → Answer → Line
listed seq a =
    pick (eqb a.number 0)
    (record { seq = seq; answer = 0; block = (plan_of a.header).block; version = (plan_of a.header).version; words = a.words })
    (refused_line seq a.number)

-- the line of what is answered
abbrev pub told_line : ℕ → Result Listed Refusal → Line
told_line seq (Ok l) = record { seq = seq; answer = 0; block = l.block; version = l.version; words = l.words }
told_line seq (Err r) = refused_line seq (number_of r)

-- a tag other than 1 is 15
abbrev pub line_by : (seq tag : ℕ) (body : List ℕ) → ℕ → Line
line_by seq tag body room = pick (holds_block tag) (listed seq (answer_of body room)) (refused_line seq 15)

unfoldable pub line_of : (before tag : ℕ) (body : List ℕ) → ℕ → Line
line_of before tag body room = line_by (seq_after before) tag body room

-- and leaves the room as it was
unfoldable pub room_listed : (tag : ℕ) (body room : List ℕ) → List ℕ
room_listed tag body room = pick (holds_block tag) (room_after body room) room

-- the number of the last of these fields' lines, which the listing's last line gives; `before` where there is none
unfoldable pub count_after : (before : ℕ) → List Field → ℕ → ℕ
count_after before [] room = before
count_after before (f ∷ fs) room = count_after (line_of before f.tag f.body room).seq fs room
