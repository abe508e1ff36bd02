-- Detector records: how many, where they lie, what they hold. Assumes nothing.
use Rattle.std.specs.Prelude.{ℕ, ◌+◌, ◌-◌, ◌*◌, ◌/◌, ◌<◌, ◌≤◌, ◌≡◌, List, [], ◌∷◌, length, take, drop, get_or}
use Rattle.header.specs.Plans.{plan_of}
use Rattle.records.specs.Records.{part_of, record_of, joined_to}
use Rattle.placement.specs.Placement.{place_of}
use Rattle.scope.specs.Blocks.{Asked}

-- Block 1 consists of 4 records, block 2 of 3 up to version 2 and of 4 in version 3, each of blocks 3 to 10 of a single one; blocks 0 and
-- 11 have none.
pub data RecordsIn : (block version records : ℕ) → Type 0 where
  zeroth : {v : ℕ} → RecordsIn 0 v 0
  first : {v : ℕ} → RecordsIn 1 v 4
  second : {v : ℕ} → v ≤ 2 → RecordsIn 2 v 3
  second3 : RecordsIn 2 3 4
  others : {b v : ℕ} → 3 ≤ b → b ≤ 10 → RecordsIn b v 1
  last : {v : ℕ} → RecordsIn 11 v 0

-- What a header of 28 bytes asks for is its plan.
abbrev pub Planned : Type 0
Planned = (h : List ℕ) (r : ℕ) (a : Asked h) → length h ≡ 28 → RecordsIn a.block a.version r
    → plan_of h ≡ record { number = 0; block = a.block; version = a.version; size = a.size; records = r; words = a.words; bytes = a.bits / 8 }

-- A record begins with 16 words of line documentation. Its detector words follow, n of them, or 4n in blocks 3 to 10.
pub data RecordLong : (block n long : ℕ) → Type 0 where
  infrared : {b n : ℕ} → 1 ≤ b → b ≤ 2 → RecordLong b n (16 + n)
  visible : {b n : ℕ} → 3 ≤ b → b ≤ 10 → RecordLong b n (16 + 4 * n)

-- With words counted from 0, record k starts at k - 1 times the length of a record, and the records one after another are the C words, all
-- of them and no more.
pub record Located : Type 0 where
  pub place : (h : List ℕ) (k lent n r long : ℕ) (a : Asked h) → (part_of h k lent).number ≡ 0
      → RecordsIn a.block a.version r → RecordLong a.block n long → a.words ≡ r * long
      → part_of h k lent ≡ record { number = 0; start = (k - 1) * long; length = long }
  pub part : (h : List ℕ) (k : ℕ) (ws : List ℕ) → record_of h k ws ≡ take (part_of h k (length ws)).length (drop (part_of h k (length ws)).start ws)
  pub joined : (h ws : List ℕ) (r : ℕ) (a : Asked h) → length h ≡ 28 → a.words ≤ length ws → RecordsIn a.block a.version r → 0 < r
      → joined_to h ws r ≡ take a.words ws

-- ---- placement
-- the records of a block, in order; the scope's 4/1, channel 4 and detector 1, is `4 det 1`
infix 70 ◌det◌
abbrev pub ◌det◌ : ℕ → ℕ → ℕ × ℕ
c det d = (c, d)

abbrev pub Holds : (block version : ℕ) → List (ℕ × ℕ) → Type 0
Holds b v places = (k : ℕ) → k < length places → place_of b v (k + 1) ≡ record { number = 0; channel = (get_or places k (0 det 0)).0; detector = (get_or places k (0 det 0)).1 }

pub record Placed : Type 0 where
  -- Versions 0 and 1: 4/1, 4/2, 5/1, 5/2 in block 1, and 2/1, 2/2, 3/1 in block 2.
  pub early1 : (v : ℕ) → v ≤ 1 → Holds 1 v (4 det 1 ∷ 4 det 2 ∷ 5 det 1 ∷ 5 det 2 ∷ [])
  pub early2 : (v : ℕ) → v ≤ 1 → Holds 2 v (2 det 1 ∷ 2 det 2 ∷ 3 det 1 ∷ [])
  -- Versions 2 and 3: 2/1, 2/2, 3/1, 3/2 in block 1, and 4/1, 4/2, 6/1 in block 2, with 6/2 behind them in version 3.
  pub late1 : (v : ℕ) → 2 ≤ v → v ≤ 3 → Holds 1 v (2 det 1 ∷ 2 det 2 ∷ 3 det 1 ∷ 3 det 2 ∷ [])
  pub late2 : Holds 2 2 (4 det 1 ∷ 4 det 2 ∷ 6 det 1 ∷ [])
  pub latest2 : Holds 2 3 (4 det 1 ∷ 4 det 2 ∷ 6 det 1 ∷ 6 det 2 ∷ [])
  -- All versions: 1/5, 1/6, 1/7, 1/8, 1/1, 1/2, 1/3, 1/4 in blocks 3 to 10, one a block.
  pub visible : (i v : ℕ) → i < 8 → v ≤ 3 → Holds (3 + i) v (1 det get_or (5 ∷ 6 ∷ 7 ∷ 8 ∷ 1 ∷ 2 ∷ 3 ∷ 4 ∷ []) i 0 ∷ [])
