-- The three demands. Assumes nothing.
use Rattle.std.specs.Prelude.{ℕ, ◌+◌, ◌*◌, ◌/◌, ◌≤◌, ◌<◌, ◌≡◌, ◌⊎◌, ◌↔◌, true, List, ◌++◌, length, take, drop}
use Rattle.bits.specs.Bits.{Below, words, sent}
use Rattle.bits.specs.Runs.{Altered}
use Rattle.block.specs.Answers.{judged_by, room_by, answer_of, room_after}
use Rattle.writer.specs.Answers.{written_of, room_written}
use Rattle.scope.specs.Notions.{FirstOf, bit}
use Rattle.scope.specs.Blocks.{Agrees, Header, Asked}
use Rattle.scope.specs.Refusals.{reader_reasons}

abbrev pub Accepted : List ℕ → ℕ → Type 0
Accepted block lent = (answer_of block lent).number ≡ 0

-- ---- 1. Whatever bytes come, of whatever length, there is one answer: a number, on its ground. The other functions' are beside it in
-- `Numbers`, what a refusal holds and leaves in `Refusals`.
abbrev pub Answered : Type 0
Answered = (block : List ℕ) (lent : ℕ) → Below 256 block
    → (n : ℕ) × FirstOf (reader_reasons block lent) n × ((m : ℕ) → FirstOf (reader_reasons block lent) m → m ≡ n) × ((answer_of block lent).number ≡ n)

-- ---- 2. Given room, a block is accepted exactly where it meets section 3, and the words given are exactly the ones sent.
-- It has 90 bytes of header, then the information field, then two bytes of check word, over the whole field. What follows the last word is
-- fill, and every bit of it must be zero.
pub record Meets (block : List ℕ) : Type 0 where
  pub header : List ℕ
  pub found : Header block header
  pub asked : Asked header
  pub long : length block ≡ 90 + asked.bits / 8 + 2
  pub checked : Agrees (drop 90 block)
  pub filled : (i : ℕ) → asked.words * asked.size ≤ i → i < asked.bits → bit i (drop 90 block) ≡ 0

pub record Reads : Type 0 where
  pub accepts : (block : List ℕ) (lent : ℕ) → Below 256 block → (m : Meets block) → m.asked.words ≤ lent → Accepted block lent
  pub only : (block : List ℕ) (lent : ℕ) → Below 256 block → Accepted block lent → (m : Meets block) × (m.asked.words ≤ lent)
  -- It gives how many words there are, the header and which of the copies passed; behind the C words nothing in the room is changed.
  pub count : (block : List ℕ) (lent : ℕ) → Below 256 block → Accepted block lent → (m : Meets block) → (answer_of block lent).words ≡ m.asked.words
  pub header : (block : List ℕ) (lent : ℕ) → Below 256 block → Accepted block lent → (m : Meets block) → (answer_of block lent).header ≡ m.header
  pub first : (block : List ℕ) (lent : ℕ) → Below 256 block → Accepted block lent → ((answer_of block lent).first ≡ true) ↔ Agrees (take 30 block)
  pub second : (block : List ℕ) (lent : ℕ) → Below 256 block → Accepted block lent → ((answer_of block lent).second ≡ true) ↔ Agrees (take 30 (drop 30 block))
  pub third : (block : List ℕ) (lent : ℕ) → Below 256 block → Accepted block lent → ((answer_of block lent).third ≡ true) ↔ Agrees (take 30 (drop 60 block))
  -- A block that is read by a given header gives the words that this asks for.
  pub by : (h block room : List ℕ) (a : Asked h) → (judged_by h block (length room)).number ≡ 0 → ((judged_by h block (length room)).words ≡ a.words)
      × (room_by h block room ≡ words a.size a.words (sent (take (a.bits / 8) (drop 90 block))) ++ drop a.words room)
  pub words : (block room : List ℕ) → Below 256 block → Accepted block (length room) → (m : Meets block)
      → room_after block room ≡ words m.asked.size m.asked.words (sent (take (m.asked.bits / 8) (drop 90 block))) ++ drop m.asked.words room

-- the three copies are equal
pub record Equal (block : List ℕ) : Type 0 where
  pub second : take 30 (drop 30 block) ≡ take 30 block
  pub third : take 30 (drop 60 block) ≡ take 30 block

-- a block is written at the front of the room, nothing is changed behind it, and it is given how many bytes there are
pub record Writes (h ws block dest : List ℕ) : Type 0 where
  pub count : written_of h ws (length dest) ≡ record { number = 0; bytes = length block }
  pub left : room_written h ws dest ≡ block ++ drop (length block) dest

-- what reading it returns
pub record Gives (block h ws room : List ℕ) : Type 0 where
  pub answer : answer_of block (length room) ≡ record { number = 0; header = h; first = true; second = true; third = true; words = length ws }
  pub left : room_after block room ≡ ws ++ drop (length ws) room

-- The writer makes blocks by the same rules. What was written reads back as what went in; an accepted block with three equal header copies,
-- written again, gives its own bytes.
pub record Rewrites : Type 0 where
  pub written : (h ws dest : List ℕ) → Below 256 h → (written_of h ws (length dest)).number ≡ 0
      → (block : List ℕ) × Writes h ws block dest × Meets block × Equal block × ((room : List ℕ) → length ws ≤ length room → Gives block h ws room)
  pub rewritten : (block room dest : List ℕ) → Below 256 block → Accepted block (length room) → Equal block → length block ≤ length dest
      → Writes (answer_of block (length room)).header (take (answer_of block (length room)).words (room_after block room)) block dest

-- ---- 3. Take an accepted block with three equal header copies, and keep the room. Alter at most two copies, and the field with its check
-- word besides, each by a change of some kind.
-- one was sent and other is received: bytes 0-29, 30-59, 60-89 are as they were or changed, and one of them is as it was
pub record Received (Change : List ℕ → List ℕ → Type 0) (one other : List ℕ) : Type 0 where
  pub bytes : Below 256 one
  pub received : Below 256 other
  pub long : length other ≡ length one
  pub equal : Equal one
  pub first : (take 30 other ≡ take 30 one) ⊎ Change (take 30 one) (take 30 other)
  pub second : (take 30 (drop 30 other) ≡ take 30 one) ⊎ Change (take 30 one) (take 30 (drop 30 other))
  pub third : (take 30 (drop 60 other) ≡ take 30 one) ⊎ Change (take 30 one) (take 30 (drop 60 other))
  pub whole : (take 30 other ≡ take 30 one) ⊎ ((take 30 (drop 30 other) ≡ take 30 one) ⊎ (take 30 (drop 60 other) ≡ take 30 one))

-- header and words come out the same
pub record Unchanged (one other room : List ℕ) : Type 0 where
  pub accepted : Accepted other (length room)
  pub header : (answer_of other (length room)).header ≡ (answer_of one (length room)).header
  pub count : (answer_of other (length room)).words ≡ (answer_of one (length room)).words
  pub words : room_after other room ≡ room_after one room

pub record Finds (Change : List ℕ → List ℕ → Type 0) : Type 0 where
  pub copies : (one other room : List ℕ) → Received Change one other → Accepted one (length room) → drop 90 other ≡ drop 90 one → Unchanged one other room
  -- Alter, besides, the field with its check word, by a bit at least: refusal 10.
  pub field : (one other room : List ℕ) → Received Change one other → Accepted one (length room)
      → Change (drop 90 one) (drop 90 other) → (drop 90 one ≡ drop 90 other → ⊥) → (answer_of other (length room)).number ≡ 10

-- a check that agrees does so no longer after the change
abbrev pub IsFound : (List ℕ → List ℕ → Type 0) → Type 0
IsFound Change = (x y : List ℕ) → Below 256 x → Change x y → (x ≡ y → ⊥) → Agrees x → Agrees y → ⊥

-- It holds of all changes that the check finds; such are those inside one run of 16 bits, which count in the order sent.
pub record Altering : Type 1 where
  pub found : (Change : List ℕ → List ℕ → Type 0) → IsFound Change → Finds Change
  pub runs : Finds (Altered 16)
