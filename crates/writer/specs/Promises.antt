-- What the writer promises, and that reading and writing undo each other.
-- Assumes nothing.
use Rattle.std.specs.Prelude.{ℕ, ◌^◌, ◌≤◌, ◌≡◌, ◌↔◌, true, List, ◌∷◌, ◌++◌, length, take, drop}
use Rattle.ground.specs.Grounds.{Ground, first_of, NoneHolds}
use Rattle.bits.specs.Bits.{Below}
use Rattle.row.specs.Field.{field_bytes}
use Rattle.copies.specs.Copies.{header_length}
use Rattle.copies.specs.Agreed.{ThreeEqual}
use Rattle.header.specs.Asks.{Asks}
use Rattle.block.specs.Layout.{block_length}
use Rattle.block.specs.Answers.{Answer, answer_of, room_after}
use Rattle.block.specs.Meets.{Meets}
use Rattle.block.specs.Promises.{Accepted}
use Rattle.writer.specs.Answers.{written_block, write_grounds, refused_written, written_of, room_written}

-- the writer accepts a header and words, lent room for so many bytes
abbrev pub Writable : (header words : List ℕ) → ℕ → Type 0
Writable header words lent = (written_of header words lent).number ≡ 0

-- ---- refusals

-- The number given is that of the first ground of the list that holds.
abbrev pub RefusesInOrder : Type 0
RefusesInOrder = (header words : List ℕ) (lent : ℕ) → (written_of header words lent).number ≡ first_of (write_grounds header words lent)

-- Each refusal is given exactly on its ground: it holds, and none before it in the list does.
abbrev pub RefusesExactly : Type 0
RefusesExactly =
    (header words : List ℕ) (lent : ℕ) (before : List Ground) (g : Ground) (after : List Ground) → write_grounds header words lent ≡ before ++ (g ∷ after)
    → ((written_of header words lent).number ≡ g.number) ↔ (NoneHolds before × (g.holds ≡ true))

-- The count in a refusal is zero, and it leaves every lent byte unchanged.
pub record RefusalLeaves : Type 0 where
  pub zeros : (header words room : List ℕ) → (Writable header words (length room) → ⊥)
      → written_of header words (length room) ≡ refused_written (written_of header words (length room)).number
  pub unchanged : (header words room : List ℕ) → (Writable header words (length room) → ⊥) → room_written header words room ≡ room

-- ---- acceptance

-- Said without tests: 28 header bytes ask for a block of just so many words, and each of the words has at most the size that they ask for.
pub record AsksFor (header words : List ℕ) : Type 0 where
  pub number : ℕ
  pub version : ℕ
  pub size : ℕ
  pub long : length header ≡ header_length
  pub asks : Asks header number version size (length words)
  pub sized : Below (2 ^ size) words

-- The writer accepts exactly the words that a header asks for, where it is lent as many bytes as the block has.
pub record WritesExactly : Type 0 where
  pub accepts : (header words : List ℕ) (lent : ℕ) (a : AsksFor header words) → block_length (field_bytes a.number (length words)) ≤ lent
      → Writable header words lent
  pub only : (header words : List ℕ) (lent : ℕ) → Writable header words lent
      → (a : AsksFor header words) × (block_length (field_bytes a.number (length words)) ≤ lent)

-- writing a header and words leaves the block at the front of the room, changes nothing behind it, and gives its count of bytes
pub record Puts (header words block room : List ℕ) : Type 0 where
  pub count : written_of header words (length room) ≡ record { number = 0; bytes = length block }
  pub left : room_written header words room ≡ block ++ drop (length block) room

-- Acceptance writes the bytes of the block at the front of the room, changes nothing behind them, and gives how many there are.
abbrev pub WritesFront : Type 0
WritesFront = (header words room : List ℕ) → Writable header words (length room) → Puts header words (written_block header words) room

-- What is written are blocks: they meet the specification, by which the reader goes.
abbrev pub WritesBlocks : Type 0
WritesBlocks = (header words : List ℕ) (lent : ℕ) → Writable header words lent → Meets (written_block header words)

-- ---- demand 2: there and back

-- the answer with this header and so many words, each copy having passed
abbrev pub whole_answer : (header words : List ℕ) → Answer
whole_answer header words = record { number = 0; header = header; first = true; second = true; third = true; words = length words }

-- reading a block gives the header, leaves the words at the front of the room, and changes nothing behind them
pub record Gives (block header words room : List ℕ) : Type 0 where
  pub answer : answer_of block (length room) ≡ whole_answer header words
  pub left : room_after block room ≡ words ++ drop (length words) room

-- What was written reads back as what went in.
abbrev pub ReadsBack : Type 0
ReadsBack =
    (header words room : List ℕ) (lent : ℕ) → Below 256 header → Writable header words lent → length words ≤ length room
    → Gives (written_block header words) header words room

-- what reading a block gave: its header, and its words from the front of the room
abbrev pub header_read : (block room : List ℕ) → List ℕ
header_read block room = (answer_of block (length room)).header

abbrev pub words_read : (block room : List ℕ) → List ℕ
words_read block room = take (answer_of block (length room)).words (room_after block room)

-- An accepted block with three equal copies, written again, gives its own bytes.
abbrev pub WritesBack : Type 0
WritesBack =
    (block c room dest : List ℕ) → Below 256 block → Accepted block (length room) → ThreeEqual block c → length block ≤ length dest
    → Puts (header_read block room) (words_read block room) block dest
