-- Numbers given on refusal: each on its ground, in the order of the tests, and what a refusal holds and leaves. Assumes nothing.
use Rattle.std.specs.Prelude.{ℕ, ◌+◌, ◌*◌, ◌/◌, ◌%◌, ◌^◌, ◌≤◌, ◌<◌, ◌≡◌, ◌⊎◌, false, List, [], ◌∷◌, ◌++◌, length, drop, get_or, replicate}
use Rattle.bits.specs.Bits.{Below}
use Rattle.row.specs.Suits.{Suits}
use Rattle.header.specs.Asks.{IsBlock}
use Rattle.copies.specs.Copies.{common_of}
use Rattle.header.specs.Plans.{plan_of}
use Rattle.block.specs.Answers.{judged_by, room_by, answer_of, room_after}
use Rattle.writer.specs.Answers.{written_of, room_written}
use Rattle.records.specs.Records.{part_of, record_of}
use Rattle.placement.specs.Placement.{place_of}
use Rattle.scope.specs.Notions.{Reason, ◌if◌, FirstOf, word, bit}
use Rattle.scope.specs.Blocks.{Agrees, Passing, Header, Asked}
use Rattle.scope.specs.Records.{RecordsIn}

-- A reason that a header gives is said of one that is lent, or of the one that a block's copies have in common.
-- 4: an id of no block. 5: a version over 3. 6: a word size that the block's row has not, with any count. 7: a count that it has not.
abbrev pub header_reasons : ((List ℕ → Type 0) → Type 0) → List Reason
header_reasons says =
    4 if says (λ h. (b : ℕ) → IsBlock (word 1 h) b → ⊥)
    ∷ 5 if says (λ h. 3 < word 8 h)
    ∷ 6 if says (λ h. (b C : ℕ) → IsBlock (word 1 h) b → Suits b (word 8 h) (word 2 h) C → ⊥)
    ∷ 7 if says (λ h. (b C : ℕ) → IsBlock (word 1 h) b → word 3 h * 256 + word 4 h ≡ C + 2 → Suits b (word 8 h) (word 2 h) C → ⊥)
    ∷ []

-- of a lent header, which is 1 where it is not of 28 bytes
abbrev pub plan_reasons : List ℕ → List Reason
plan_reasons h = 1 if (length h ≡ 28 → ⊥) ∷ header_reasons (λ P. P h)

-- what the block's header says
abbrev pub Said : List ℕ → (List ℕ → Type 0) → Type 0
Said block P = (h : List ℕ) × Header block h × P h

-- 1: a block shorter than 90 bytes. 2: of the three copies none passes. 3: two copies pass and are not equal.
abbrev pub copies_reasons : List ℕ → List Reason
copies_reasons block =
    1 if (length block < 90)
    ∷ 2 if ((c : List ℕ) → Passing block c → ⊥)
    ∷ 3 if ((c : List ℕ) × (d : List ℕ) × Passing block c × Passing block d × (c ≡ d → ⊥))
    ∷ []

-- 8: more or fewer bytes than the block must have. 17: the check word begins off a 16-bit boundary of the block.
-- 9: less room than is needed. 10: the block's check does not agree. 11: a bit of the fill is 1.
abbrev pub field_reasons : ((List ℕ → Type 0) → Type 0) → List ℕ → ℕ → List Reason
field_reasons says block lent =
    8 if says (λ h. (a : Asked h) × (length block ≡ 90 + a.bits / 8 + 2 → ⊥))
    ∷ 17 if says (λ h. (a : Asked h) × ((720 + a.bits) % 16 ≡ 0 → ⊥))
    ∷ 9 if says (λ h. (a : Asked h) × (lent < a.words))
    ∷ 10 if (Agrees (drop 90 block) → ⊥)
    ∷ 11 if says (λ h. (a : Asked h) × (i : ℕ) × (a.words * a.size ≤ i) × (i < a.bits) × (bit i (drop 90 block) ≡ 1))
    ∷ []

-- ---- the order of the tests
-- The reader: 1, 2, 3, 4, 5, 6, 7, 8, then 17, 9, 10, 11.
abbrev pub reader_reasons : List ℕ → ℕ → List Reason
reader_reasons block lent = copies_reasons block ++ (header_reasons (Said block) ++ field_reasons (Said block) block lent)

-- The writer, which is lent 28 header bytes and words: 1, 4, 5, 6, 7, 8, 9, 14.
abbrev pub word_reasons : (h ws : List ℕ) → ℕ → List Reason
word_reasons h ws lent =
    8 if ((a : Asked h) × (length ws ≡ a.words → ⊥))
    ∷ 9 if ((a : Asked h) × (lent < 90 + a.bits / 8 + 2))
    ∷ 14 if ((a : Asked h) × (i : ℕ) × (i < length ws) × (2 ^ a.size ≤ get_or ws i 0))
    ∷ []

-- Record access, for the header it is given: 1, 4, 5, 6, 7, then 13, then 9.
abbrev pub record_reasons : List ℕ → (k lent : ℕ) → List Reason
record_reasons h k lent =
    13 if ((a : Asked h) × (r : ℕ) × RecordsIn a.block a.version r × ((k ≡ 0) ⊎ (r < k)))
    ∷ 9 if ((a : Asked h) × (lent < a.words))
    ∷ []

-- Placement, for a block, a version and a record: 4, 5, 13.
abbrev pub place_reasons : (b v k : ℕ) → List Reason
place_reasons b v k = 4 if (11 < b) ∷ 5 if (3 < v) ∷ 13 if ((r : ℕ) × RecordsIn b v r × ((k ≡ 0) ⊎ (r < k))) ∷ []

pub record Numbers : Type 0 where
  pub reader : (block : List ℕ) (lent : ℕ) → Below 256 block → FirstOf (reader_reasons block lent) (answer_of block lent).number
  pub writer : (h ws : List ℕ) (lent : ℕ) → FirstOf (plan_reasons h ++ word_reasons h ws lent) (written_of h ws lent).number
  pub records : (h : List ℕ) (k lent : ℕ) → FirstOf (plan_reasons h ++ record_reasons h k lent) (part_of h k lent).number
  pub placement : (b v k : ℕ) → FirstOf (place_reasons b v k) (place_of b v k).number
  -- the copies by themselves, a header by itself, and a block read by a header that is given, whatever its copies say
  pub copies : (block : List ℕ) → Below 256 block → FirstOf (copies_reasons block) (common_of block).number
  pub plan : (h : List ℕ) → FirstOf (plan_reasons h) (plan_of h).number
  pub by : (h block : List ℕ) (lent : ℕ) → Below 256 block → FirstOf (plan_reasons h ++ field_reasons (λ P. P h) block lent) (judged_by h block lent).number

-- ---- a refusal gives its number, and zeros beside it; all lent bytes and words stay as they were
pub record Refusals : Type 0 where
  pub reader : (block : List ℕ) (lent : ℕ) → ((answer_of block lent).number ≡ 0 → ⊥)
      → answer_of block lent ≡ record { number = (answer_of block lent).number; header = replicate 28 0; first = false; second = false; third = false; words = 0 }
  pub words_left : (block room : List ℕ) → ((answer_of block (length room)).number ≡ 0 → ⊥) → room_after block room ≡ room
  pub by : (h block : List ℕ) (lent : ℕ) → ((judged_by h block lent).number ≡ 0 → ⊥) → judged_by h block lent ≡ record { number = (judged_by h block lent).number; words = 0 }
  pub by_left : (h block room : List ℕ) → ((judged_by h block (length room)).number ≡ 0 → ⊥) → room_by h block room ≡ room
  pub writer : (h ws : List ℕ) (lent : ℕ) → ((written_of h ws lent).number ≡ 0 → ⊥) → written_of h ws lent ≡ record { number = (written_of h ws lent).number; bytes = 0 }
  pub bytes_left : (h ws room : List ℕ) → ((written_of h ws (length room)).number ≡ 0 → ⊥) → room_written h ws room ≡ room
  pub records : (h : List ℕ) (k lent : ℕ) → ((part_of h k lent).number ≡ 0 → ⊥) → part_of h k lent ≡ record { number = (part_of h k lent).number; start = 0; length = 0 }
  pub part : (h : List ℕ) (k : ℕ) (ws : List ℕ) → ((part_of h k (length ws)).number ≡ 0 → ⊥) → record_of h k ws ≡ []
  pub placement : (b v k : ℕ) → ((place_of b v k).number ≡ 0 → ⊥) → place_of b v k ≡ record { number = (place_of b v k).number; channel = 0; detector = 0 }
  pub copies : (block : List ℕ) → ((common_of block).number ≡ 0 → ⊥)
      → common_of block ≡ record { number = (common_of block).number; header = replicate 28 0; first = false; second = false; third = false }
  pub plan : (h : List ℕ) → ((plan_of h).number ≡ 0 → ⊥)
      → plan_of h ≡ record { number = (plan_of h).number; block = 0; version = 0; size = 0; records = 0; words = 0; bytes = 0 }
