-- What a salvage promises, said without its loops: the pieces that a search gives, what is made of them, and which refusal is given when.
-- Assumes nothing.
use Rattle.std.specs.Prelude.{ℕ, ◌+◌, ◌*◌, ◌/◌, ◌%◌, ◌^◌, ◌<◌, ◌≤◌, ◌≡◌, ◌↔◌, ◌⊎◌, Bool, true, false, List, [], ◌∷◌, ◌++◌, length, take, drop}
use Rattle.bits.specs.Bits.{Below, words, sent}
use Rattle.bits.specs.Runs.{Altered}
use Rattle.row.specs.Field.{field_bytes}
use Rattle.copies.specs.Copies.{copy_at}
use Rattle.copies.specs.Agreed.{ThreeEqual}
use Rattle.block.specs.Layout.{information_field}
use Rattle.block.specs.Answers.{refused_answer, answer_of, room_after}
use Rattle.block.specs.Meets.{Meets}
use Rattle.block.specs.Promises.{Accepted, Received, Alike}
use Rattle.recording.specs.Fields.{Field}
use Rattle.recording.specs.Fields as recording
use Rattle.recording.specs.Lines.{line_of}
use Rattle.made.specs.Promises.{MakesBlock}
use Rattle.salvaging.specs.Pieces.{Piece, block, span, pieces_of, fields_of, recording_of, changed_by, report_of}
use Rattle.salvaging.specs.Answers.{refused_salvaged, salvaged_of, recording_after, report_after, scratch_after}

-- ---- the search

-- a copy makes a block at a start, and no copy before it makes one there
pub record FirstCopy (input : List ℕ) (s n k : ℕ) : Type 0 where
  pub block : List ℕ
  pub makes : MakesBlock k (drop s input) block
  pub long : n ≡ length block
  pub first : (j : ℕ) (b : List ℕ) → j < k → MakesBlock j (drop s input) b → ⊥

-- no start in a span has a block
abbrev pub NoStart : List ℕ → (s n : ℕ) → Type 0
NoStart input s n = (i k : ℕ) (b : List ℕ) → s ≤ i → i < s + n → MakesBlock k (drop i input) b → ⊥

-- one piece behind the other from a to e, none of them empty
unfoldable pub Cover : (a : ℕ) → List Piece → (e : ℕ) → Type 0
Cover a [] e = a ≡ e
Cover a (block s n k ∷ ps) e = (s ≡ a) × ((0 < n) × Cover (a + n) ps e)
Cover a (span s n ∷ ps) e = (s ≡ a) × ((0 < n) × Cover (a + n) ps e)

-- each block is the first copy's, and no start in a span has one
unfoldable pub Right : List ℕ → List Piece → Type 0
Right input [] = Unit {0}
Right input (block s n k ∷ ps) = FirstCopy input s n k × Right input ps
Right input (span s n ∷ ps) = NoStart input s n × Right input ps

-- no span follows a span; t says whether one stands before
unfoldable pub Longest : (t : Bool) → List Piece → Type 0
Longest t [] = Unit {0}
Longest t (block s n k ∷ ps) = Longest false ps
Longest false (span s n ∷ ps) = Longest true ps
Longest true (span s n ∷ ps) = ⊥

-- The pieces that a search from byte 0 gives: a block at the lowest start that has one, by its first copy, and on behind its end; the spans
-- between are as long as can be.
pub record Searched (input : List ℕ) (ps : List Piece) : Type 0 where
  pub covers : Cover 0 ps (length input)
  pub right : Right input ps
  pub longest : Longest false ps

-- They are the ones that a salvage goes by, and there are no others.
pub record SearchesOnce : Type 0 where
  pub searched : (input : List ℕ) → Below 256 input → Searched input (pieces_of input)
  pub only : (input : List ℕ) (ps : List Piece) → Below 256 input → Searched input ps → ps ≡ pieces_of input

-- the bytes of the pieces, joined in order
unfoldable pub bytes_of : List ℕ → List Piece → List ℕ
bytes_of input [] = []
bytes_of input (block s n k ∷ ps) = take n (drop s input) ++ bytes_of input ps
bytes_of input (span s n ∷ ps) = take n (drop s input) ++ bytes_of input ps

-- Blocks and spans cover the input once.
abbrev pub CoversOnce : Type 0
CoversOnce = (input : List ℕ) → Below 256 input → bytes_of input (pieces_of input) ≡ input

-- ---- what is made of the pieces

-- Demands 2 and 3 of a block: it has three equal copies and meets the specification, is accepted and gives the words of its field; and
-- altered as demand 3 says it is found.
pub record Stands (b : List ℕ) : Type 0 where
  pub copy : List ℕ
  pub equal : ThreeEqual b copy
  pub meets : Meets b
  pub accepted : (lent : ℕ) → 21008 ≤ lent → Accepted b lent
  pub words : (room : List ℕ) → 21008 ≤ length room
      → room_after b room ≡ words meets.size meets.words (sent (information_field (field_bytes meets.number meets.words) b)) ++ drop meets.words room
  pub copies : (other room : List ℕ) → 21008 ≤ length room → Received (Altered 16) b other copy → drop 90 other ≡ drop 90 b → Alike other b room
  pub field : (other room : List ℕ) → 21008 ≤ length room → Received (Altered 16) b other copy → Altered 16 (drop 90 b) (drop 90 other) → (drop 90 b ≡ drop 90 other → ⊥)
      → (answer_of other (length room) ≡ refused_answer 10) × (room_after other room ≡ room)

-- a field of a block: tag 1, a block that stands, and the listing answers 0 for it
pub record Kept (f : Field) : Type 0 where
  pub tag : f.tag ≡ 1
  pub stands : Stands f.body
  pub listed : (before : ℕ) → (line_of before 1 f.body 21008).answer ≡ 0

unfoldable pub Each : (Field → Type 0) → List Field → Type 0
Each P [] = Unit {0}
Each P (f ∷ fs) = P f × Each P fs

-- The recording has a field for each block found, in order, and nothing else: the block that its copy makes, which stands.
pub record Records : Type 0 where
  pub fields : (input : List ℕ) → recording.recording_of (recording_of input (pieces_of input)) ≡ record { fields = fields_of input (pieces_of input); cut = false }
  pub each : (input : List ℕ) → Below 256 input → Each Kept (fields_of input (pieces_of input))

-- A number says which of the three copies changed, 1, 2 and 4 for the first, second and third: those whose bytes differ from the one used.
abbrev pub Changes : Type 0
Changes = (k : ℕ) (rest : List ℕ) → (changed_by k rest < 8) × ((j : ℕ) → j < 3 → (changed_by k rest / 2 ^ j % 2 ≡ 1) ↔ (copy_at j rest ≡ copy_at k rest → ⊥))

-- The room named suffices for any input.
pub record RoomSuffices : Type 0 where
  pub bytes : (input : List ℕ) → Below 256 input → length (recording_of input (pieces_of input)) ≤ length input + length input / 2772 * 3
  pub entries : (input : List ℕ) → Below 256 input → length (pieces_of input) ≤ length input / 2772 * 2 + 1
  pub numbers : (input : List ℕ) → length (report_of input (pieces_of input)) ≡ length (pieces_of input) * 3

-- ---- refusals

-- less room than an input of n bytes could need
abbrev pub TooSmall : (n recording report scratch : ℕ) → Type 0
TooSmall n recording report scratch = (recording < n + n / 2772 * 3) ⊎ ((report < (n / 2772 * 2 + 1) * 3) ⊎ (scratch < 21008))

abbrev pub NoBlock : List ℕ → Type 0
NoBlock input = (s k : ℕ) (b : List ℕ) → MakesBlock k (drop s input) b → ⊥

-- 9 exactly where less is lent than could be needed, whatever the input holds; then 18 exactly where no start has a block; else 0. A refusal
-- is its number and zeros, and leaves all that is lent as it was.
pub record RefusesExactly : Type 0 where
  pub nine : (input : List ℕ) (m r w : ℕ) → ((salvaged_of input m r w).number ≡ 9) ↔ TooSmall (length input) m r w
  pub eighteen : (input : List ℕ) (m r w : ℕ) → Below 256 input → ((salvaged_of input m r w).number ≡ 18) ↔ ((TooSmall (length input) m r w → ⊥) × NoBlock input)
  pub others : (input : List ℕ) (m r w : ℕ) → ((salvaged_of input m r w).number ≡ 9 → ⊥) → ((salvaged_of input m r w).number ≡ 18 → ⊥) → (salvaged_of input m r w).number ≡ 0
  pub zeros : (input : List ℕ) (m r w : ℕ) → ((salvaged_of input m r w).number ≡ 0 → ⊥) → salvaged_of input m r w ≡ refused_salvaged (salvaged_of input m r w).number
  pub recorded : (input room : List ℕ) (r w : ℕ) → ((salvaged_of input (length room) r w).number ≡ 0 → ⊥) → recording_after input room r w ≡ room
  pub reported : (input room : List ℕ) (m w : ℕ) → ((salvaged_of input m (length room) w).number ≡ 0 → ⊥) → report_after input m room w ≡ room
  pub worded : (input room : List ℕ) (m r : ℕ) → ((salvaged_of input m r (length room)).number ≡ 0 → ⊥) → scratch_after input m r room ≡ room

-- ---- copies in ruins

-- a piece of these
unfoldable pub Among : Piece → List Piece → Type 0
Among p [] = ⊥
Among p (q ∷ ps) = (p ≡ q) ⊎ Among p ps

-- no block at a lower start reaches over a start
abbrev pub NoneOver : List Piece → ℕ → Type 0
NoneOver ps s = (i n k : ℕ) → Among (block i n k) ps → i < s → i + n ≤ s

-- An accepted block with three equal copies lies in the input, at most two of its copies altered, each inside one run of 16 bits: where no
-- block at a lower start reaches over its own, it is found there, and what a copy makes of it is that block.
abbrev pub Restores : Type 0
Restores =
    (before one other behind c : List ℕ) → Below 256 (before ++ (other ++ behind)) → Received (Altered 16) one other c → Accepted one 21008
    → drop 90 other ≡ drop 90 one → NoneOver (pieces_of (before ++ (other ++ behind))) (length before)
    → (k : ℕ) × (Among (block (length before) (length one) k) (pieces_of (before ++ (other ++ behind))) × MakesBlock k (drop (length before) (before ++ (other ++ behind))) one)

-- ---- twice

-- the bodies of fields, joined without their fronts
unfoldable pub bodies : List Field → List ℕ
bodies [] = []
bodies (f ∷ fs) = f.body ++ bodies fs

-- Salvaging the blocks of a salvaged recording gives the same recording.
abbrev pub AgainSame : Type 0
AgainSame =
    (input : List ℕ) → Below 256 input
    → recording_of (bodies (fields_of input (pieces_of input))) (pieces_of (bodies (fields_of input (pieces_of input)))) ≡ recording_of input (pieces_of input)
