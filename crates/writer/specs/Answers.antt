-- What writing a block answers, and what it leaves in the room lent.
-- Assumes nothing.
use Rattle.std.specs.Prelude.{ℕ, not, List, [], ◌∷◌, ◌++◌, eqb, ltb, length, drop, Result, Ok, Err}
use Rattle.ground.specs.Choice.{pick}
use Rattle.ground.specs.Grounds.{Ground, ◌when◌, first_of}
use Rattle.ground.specs.declared.Refusal.{Refusal}
use Rattle.ground.specs.Refusals.{number_of}
use Rattle.bits.specs.Fields.{all_fit}
use Rattle.header.specs.Says.{size_in, words_in, bytes_in}
use Rattle.header.specs.Plans.{plan_grounds}
use Rattle.block.specs.Layout.{block_length}
use Rattle.writer.specs.Blocks.{block_of}

-- the bytes of the block that a header asks for
abbrev pub block_bytes : List ℕ → ℕ
block_bytes header = block_length (bytes_in header)

-- the block that a header and words make
abbrev pub written_block : (header words : List ℕ) → List ℕ
written_block header words = block_of header (size_in header) (bytes_in header) words

-- 8: more or fewer words than there must be; 9: less room than is needed; 14: a word that does not fit its size
abbrev pub word_grounds : (header words : List ℕ) → ℕ → List Ground
word_grounds header words room =
    (8 when not (eqb (length words) (words_in header)))
    ∷ (9 when ltb room (block_bytes header))
    ∷ (14 when not (all_fit (size_in header) words))
    ∷ []

-- the writer, which is lent 28 header bytes and words: 1, 4, 5, 6, 7, 8, 9, 14
abbrev pub write_grounds : (header words : List ℕ) → ℕ → List Ground
write_grounds header words room = plan_grounds header ++ word_grounds header words room

unfoldable pub write_refusal : (header words : List ℕ) → ℕ → ℕ
write_refusal header words room = first_of (write_grounds header words room)

-- the answer as numbers: 0 and the bytes written, or a refusal's number and 0
pub record Written : Type 0 where
  pub number : ℕ
  pub bytes : ℕ

abbrev pub refused_written : ℕ → Written
refused_written n = record { number = n; bytes = 0 }

-- acceptance returns the count of the bytes written
unfoldable pub written_of : (header words : List ℕ) → ℕ → Written
written_of header words room =
    pick (eqb (write_refusal header words room) 0) (record { number = 0; bytes = block_bytes header }) (refused_written (write_refusal header words room))

-- the block stands at the front of the room, and behind it nothing is changed; a refusal leaves the room as it was
unfoldable pub room_written : (header words room : List ℕ) → List ℕ
room_written header words room =
    pick (eqb (write_refusal header words (length room)) 0)
    (written_block header words ++ drop (block_bytes header) room) room

-- what is told of an answer
abbrev pub told : Result ℕ Refusal → Written
told (Ok n) = record { number = 0; bytes = n }
told (Err r) = refused_written (number_of r)
