-- The block that a header copy makes of the bytes from a start on, and whether it is acceptable.
-- Assumes nothing.
use Rattle.std.specs.Prelude.{ℕ, Bool, ◌&&◌, List, ◌++◌, eqb, leb, ltb, length, take, drop, Option, Some, None}
use Rattle.ground.specs.Choice.{pick}
use Rattle.check_rule.specs.Check.{passes}
use Rattle.row.specs.Promises.{most_words}
use Rattle.copies.specs.Copies.{header_length, copies_length, copy_at}
use Rattle.header.specs.Says.{bytes_in}
use Rattle.header.specs.Plans.{plan_of}
use Rattle.block.specs.Layout.{block_length}
use Rattle.block.specs.Grounds.{refusal_of}
use Rattle.block.specs.Answers.{room_after}

-- the header of copy k, from 0
abbrev pub header_by : ℕ → List ℕ → List ℕ
header_by k rest = take header_length (copy_at k rest)

-- which says how long the block is
abbrev pub length_by : ℕ → List ℕ → ℕ
length_by k rest = block_length (bytes_in (header_by k rest))

abbrev pub thrice : List ℕ → List ℕ
thrice c = c ++ (c ++ c)

-- three times that copy, then field and check word as they lie behind the three places
unfoldable pub made : ℕ → List ℕ → List ℕ
made k rest = thrice (copy_at k rest) ++ drop copies_length (take (length_by k rest) rest)

-- it is one of three, it passes, the block ends inside the bytes, and with room for the largest the reader accepts it
unfoldable pub makes : ℕ → List ℕ → Bool
makes k rest = ltb k 3 && (passes (copy_at k rest) && (leb (length_by k rest) (length rest) && eqb (refusal_of (made k rest) most_words) 0))

-- what is tested before the field is read: the header asks for a block, which ends inside the bytes, and the copy passes
abbrev pub begins : ℕ → List ℕ → Bool
begins k rest = eqb (plan_of (header_by k rest)).number 0 && (leb (length_by k rest) (length rest) && passes (copy_at k rest))

unfoldable pub begun_by : ℕ → List ℕ → Option ℕ
begun_by k rest = pick (begins k rest) (Some (length_by k rest)) None

-- the bytes of an acceptable block, with so many words lent; and these afterwards, as reading that block leaves them
unfoldable pub bytes_by : ℕ → List ℕ → ℕ → Option ℕ
bytes_by k rest lent = pick (leb most_words lent && makes k rest) (Some (length_by k rest)) None

unfoldable pub scratch_by : ℕ → List ℕ → List ℕ → List ℕ
scratch_by k rest scratch = pick (leb most_words (length scratch) && makes k rest) (room_after (made k rest) scratch) scratch
