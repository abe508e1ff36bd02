-- An input as pieces in order, the blocks that are found in it and the spans that are skipped; and what is made of the pieces.
-- Assumes nothing.
use Rattle.std.specs.Prelude.{ℕ, zero, suc, ◌+◌, ◌-◌, ◌*◌, ◌<◌, ◌≡◌, List, [], ◌∷◌, ◌++◌, ltb, length, drop, Option, Some, None}
use Rattle.ground.specs.Choice.{pick}
use Rattle.copies.specs.Copies.{copy_at, same_as}
use Rattle.block.specs.Answers.{room_after}
use Rattle.recording.specs.Fields.{Field, joined}
use Rattle.made.specs.Made.{length_by, made, makes}
use Rattle.salvaging.specs.declared.search.Hit.{Hit}

-- ---- the search

-- the first copy that makes an acceptable block of these bytes, from 0; 3 where none does
unfoldable pub copy_of : List ℕ → ℕ
copy_of rest = pick (makes 0 rest) 0 (pick (makes 1 rest) 1 (pick (makes 2 rest) 2 3))

-- the lowest of so many starts, from one on, that has a block; the one behind them where none has
unfoldable pub start_in : (count at : ℕ) → List ℕ → ℕ
start_in zero at input = at
start_in (suc count) at input = pick (ltb (copy_of (drop at input)) 3) at (start_in count (at + 1) input)

-- the lowest from one on; the input's length where there is none
unfoldable pub start_from : ℕ → List ℕ → ℕ
start_from from input = start_in (length input - from) from input

-- ---- the pieces

-- a block with its start, its length and the copy that makes it; a span with its start and its length
pub data Piece : Type 0 where
  block : (start bytes copy : ℕ) → Piece
  span : (start bytes : ℕ) → Piece

-- the span from one start to another, if it is not empty
unfoldable pub gap : (from to : ℕ) → List Piece
gap from to = pick (ltb from to) (span from (to - from) ∷ []) []

-- the block at a start
unfoldable pub block_at : ℕ → List ℕ → Piece
block_at at input = block at (length_by (copy_of (drop at input)) (drop at input)) (copy_of (drop at input))

-- where it ends, and the search goes on
unfoldable pub end_at : ℕ → List ℕ → ℕ
end_at at input = at + length_by (copy_of (drop at input)) (drop at input)

-- the pieces from a byte on, at most so many blocks
unfoldable pub pieces_from : (most from : ℕ) → List ℕ → List Piece
pieces_from zero from input = []
pieces_from (suc most) from input =
    gap from (start_from from input)
    ++ pick (ltb (start_from from input) (length input))
    (block_at (start_from from input) input ∷ pieces_from most (end_at (start_from from input) input) input)
    []

-- an input has fewer blocks than bytes
abbrev pub pieces_of : List ℕ → List Piece
pieces_of input = pieces_from (suc (length input)) 0 input

-- ---- what is made of them

-- a field with the block that a copy makes: tag 1
abbrev pub field_by : ℕ → List ℕ → Field
field_by k rest = record { tag = 1; body = made k rest }

unfoldable pub fields_of : List ℕ → List Piece → List Field
fields_of input [] = []
fields_of input (block s n k ∷ ps) = field_by k (drop s input) ∷ fields_of input ps
fields_of input (span s n ∷ ps) = fields_of input ps

abbrev pub recording_of : List ℕ → List Piece → List ℕ
recording_of input ps = joined (fields_of input ps)

-- 1 where a copy's bytes differ from those of the copy used, whether it passed or not
unfoldable pub differs : (one k : ℕ) → List ℕ → ℕ
differs one k rest = pick (same_as (copy_at one rest) (copy_at k rest)) 0 1

-- 1, 2 and 4 for the first, second and third copy that changes
unfoldable pub changed_by : ℕ → List ℕ → ℕ
changed_by k rest = differs 0 k rest + differs 1 k rest * 2 + differs 2 k rest * 4

-- the report: three numbers for each piece, its start, its length, and 8 for a span or the copies changed in a block
unfoldable pub report_of : List ℕ → List Piece → List ℕ
report_of input [] = []
report_of input (block s n k ∷ ps) = s ∷ n ∷ changed_by k (drop s input) ∷ report_of input ps
report_of input (span s n ∷ ps) = s ∷ n ∷ 8 ∷ report_of input ps

unfoldable pub span_entry : (from to : ℕ) → List ℕ
span_entry from to = pick (ltb from to) (from ∷ (to - from) ∷ 8 ∷ []) []

-- the scratch words, as reading each block in turn leaves them
unfoldable pub words_over : List ℕ → List Piece → List ℕ → List ℕ
words_over input [] scratch = scratch
words_over input (block s n k ∷ ps) scratch = words_over input ps (room_after (made k (drop s input)) scratch)
words_over input (span s n ∷ ps) scratch = words_over input ps scratch

-- ---- what one search finds

pub record Found (input : List ℕ) (from start copy bytes : ℕ) : Type 0 where
  pub at : start ≡ start_from from input
  pub inside : start < length input
  pub which : copy ≡ copy_of (drop start input)
  pub long : bytes ≡ length_by copy (drop start input)

abbrev pub Finds : List ℕ → ℕ → Option Hit → Type 0
Finds input from (Some h) = Found input from h.start h.copy h.bytes
Finds input from None = start_from from input ≡ length input

-- and leaves in the scratch words
abbrev pub scratch_at : ℕ → List ℕ → List ℕ → List ℕ
scratch_at at input scratch = room_after (made (copy_of (drop at input)) (drop at input)) scratch

unfoldable pub scratch_found : List ℕ → ℕ → List ℕ → List ℕ
scratch_found input from scratch = pick (ltb (start_from from input) (length input)) (scratch_at (start_from from input) input scratch) scratch
