-- What is found in a recording: behind the fields before it, the next field, or a cut one, or the end; so that its bytes give its fields. What
-- the listing counts: the complete fields.
-- Assumes nothing.
use Rattle.std.specs.Prelude.{ℕ, ◌+◌, ◌<◌, ◌≤◌, ◌≡◌, true, false, List, ◌∷◌, ◌++◌, length, take, drop, replicate}
use Rattle.bits.specs.Bits.{Below}
use Rattle.row.specs.Promises.{most_words}
use Rattle.recording.specs.Found.{front_length, found_at, answered, a_field, the_last}
use Rattle.recording.specs.Fields.{Field, written, joined, recording_of}
use Rattle.recording.specs.Lines.{most_fields, line_of, count_after}

pub record Reads (before : List Field) : Type 0 where
  -- a whole field is found, its body is where it is said to be, and the next one begins behind it
  pub whole : (f : Field) (rest : List ℕ)
      → answered (found_at (joined before ++ (written f ++ rest)) (length (joined before))) ≡ a_field f.tag (length (joined before) + front_length) (length f.body)
  pub body : (f : Field) (rest : List ℕ)
      → take (length f.body) (drop (length (joined before) + front_length) (joined before ++ (written f ++ rest))) ≡ f.body
  -- a recording that stops inside a field, behind its first byte at least, is cut
  pub cut : (f : Field) (k : ℕ) → 0 < k → k < length (written f)
      → answered (found_at (joined before ++ take k (written f)) (length (joined before))) ≡ the_last true
  pub end : answered (found_at (joined before) (length (joined before))) ≡ the_last false

-- The high byte of a length comes first: 01 02 is 258.
abbrev pub HighFirst : Type 0
HighFirst = answered (found_at (1 ∷ 0x01 ∷ 0x02 ∷ replicate 258 0) 0) ≡ a_field 1 3 258

-- The bytes of whole fields give these fields, and where they stop inside a field behind them, these fields and that they are cut.
pub record GivesFields (fields : List Field) : Type 0 where
  pub whole : recording_of (joined fields) ≡ record { fields = fields; cut = false }
  pub stopped : (f : Field) (k : ℕ) → 0 < k → k < length (written f) → recording_of (joined fields ++ take k (written f)) ≡ record { fields = fields; cut = true }

-- Any bytes are the fields that they give, with nothing behind them, or where they are cut a field that is not whole.
abbrev pub MadeOfFields : Type 0
MadeOfFields =
    (bytes : List ℕ) → Below 256 bytes
    → (rest : List ℕ) × ((bytes ≡ joined (recording_of bytes).fields ++ rest) × (answered (found_at rest 0) ≡ the_last (recording_of bytes).cut))

-- With room for the words of the largest block no field is refused for want of room.
abbrev pub NineNever : Type 0
NineNever = (before tag : ℕ) (body : List ℕ) (room : ℕ) → most_words ≤ room → (line_of before tag body room).answer ≡ 9 → ⊥

-- The number of the last line is the count of the fields.
abbrev pub Counts : List Field → Type 0
Counts fields = (room : ℕ) → length fields ≤ most_fields → count_after 0 fields room ≡ length fields
