-- What the listing prints: the scope's example, an empty recording, a cut one, a refusal; and what a program prints that asks for one field
-- after the other.
-- Assumes nothing.
use Rattle.std.specs.Prelude.{ℕ, ◌+◌, ◌<◌, ◌≤◌, ◌≡◌, true, false, List, [], ◌++◌, length, take, drop}
use Rattle.bits.specs.Bits.{Below}
use Rattle.block.specs.Answers.{answer_of}
use Rattle.block.specs.Meets.{Meets}
use Rattle.recording.specs.Found.{found_at}
use Rattle.recording.specs.Fields.{Field, written, joined}
use Rattle.recording.specs.Lines.{most_fields, seq_after, line_of}
use Rattle.recording.specs.declared.Found.TheVariants.{Whole, Cut, End}
use Rattle.text.specs.Texts.{bytes_of, decimal}
use Rattle.listing.specs.Texts.{first_text, line_text, last_text, listing}

-- The scope's example, two fields with tag 1: the first an acceptable block 3 of version 2 with C = 20, the second of 89 bytes.
abbrev pub PrintsExample : Type 0
PrintsExample =
    (block short : List ℕ) (room : ℕ) → Below 256 block → (m : Meets block) → m.number ≡ 3 → m.version ≡ 2 → m.words ≡ 20 → 20 ≤ room → length short ≡ 89
    → listing (written (record { tag = 1; body = block }) ++ written (record { tag = 1; body = short })) room
    ≡ bytes_of "seq block version words answer\n1 3 2 20 0\n2 - - - 1\nend 2\n"

-- The listing of an empty recording is the first line, then `end 0`.
abbrev pub PrintsEmpty : Type 0
PrintsEmpty = (room : ℕ) → listing [] room ≡ bytes_of "seq block version words answer\nend 0\n"

-- Where a recording stops in the middle of a field, the last line is `cut k` and not `end k`, with k complete fields in front.
abbrev pub PrintsCut : Type 0
PrintsCut =
    (fields : List Field) (f : Field) (k room : ℕ) → 0 < k → k < length (written f)
    → (lines : List ℕ)
    × ((listing (joined fields) room ≡ lines ++ (bytes_of "end " ++ (decimal (length fields) ++ bytes_of "\n")))
    × (listing (joined fields ++ take k (written f)) room ≡ lines ++ (bytes_of "cut " ++ (decimal (length fields) ++ bytes_of "\n"))))

-- A refusal has three dashes and its number, and the line's other numbers are zero; a tag other than 1 is 15.
pub record PrintsDashes : Type 0 where
  pub zeros : (before : ℕ) (body : List ℕ) (room : ℕ) → ((answer_of body room).number ≡ 0 → ⊥)
      → line_of before 1 body room ≡ record { seq = seq_after before; answer = (answer_of body room).number; block = 0; version = 0; words = 0 }
  pub refused : (before : ℕ) (body : List ℕ) (room : ℕ) → ((answer_of body room).number ≡ 0 → ⊥)
      → line_text (line_of before 1 body room) ≡ decimal (seq_after before) ++ (bytes_of " - - - " ++ (decimal (answer_of body room).number ++ bytes_of "\n"))
  pub other : (before tag : ℕ) (body : List ℕ) (room : ℕ) → (tag ≡ 1 → ⊥) → line_text (line_of before tag body room) ≡ decimal (seq_after before) ++ bytes_of " - - - 15\n"

-- What a program prints behind the first line that asks for one field after the other: as the functions say, from `seen` fields on.
pub data Prints (room : ℕ) : (seen : ℕ) (bytes text : List ℕ) → Type 0 where
  line : {seen : ℕ} {bytes text : List ℕ} (tag start n : ℕ) → found_at bytes 0 ≡ Whole tag start n
      → Prints room (line_of seen tag (take n (drop start bytes)) room).seq (drop (start + n) bytes) text
      → Prints room seen bytes (line_text (line_of seen tag (take n (drop start bytes)) room) ++ text)
  cut : {seen : ℕ} {bytes : List ℕ} → found_at bytes 0 ≡ Cut → Prints room seen bytes (last_text true seen)
  end : {seen : ℕ} {bytes : List ℕ} → found_at bytes 0 ≡ End → Prints room seen bytes (last_text false seen)

-- It is the listing.
abbrev pub PrintsListing : Type 0
PrintsListing = (bytes text : List ℕ) (room : ℕ) → length bytes ≤ most_fields → Prints room 0 bytes text → first_text ++ text ≡ listing bytes room
