-- What record access promises.
-- Assumes nothing.
use Rattle.std.specs.Prelude.{ℕ, ◌+◌, ◌-◌, ◌*◌, ◌<◌, ◌≤◌, ◌≡◌, ◌↔◌, true, List, ◌∷◌, ◌++◌, length, take}
use Rattle.ground.specs.Grounds.{Ground, first_of, NoneHolds}
use Rattle.header.specs.Says.{words_in}
use Rattle.header.specs.Asks.{Asks}
use Rattle.header.specs.Plans.{plan_of}
use Rattle.records.specs.Records.{records_of, record_length, grounds_of, refused_part, part_of, joined_to}

-- The number given is that of the first ground of the list that holds, and each is given exactly on its ground.
abbrev pub RefusesInOrder : Type 0
RefusesInOrder = (header : List ℕ) (k words : ℕ) → (part_of header k words).number ≡ first_of (grounds_of header k words)

abbrev pub RefusesExactly : Type 0
RefusesExactly =
    (header : List ℕ) (k words : ℕ) (before : List Ground) (g : Ground) (after : List Ground) → grounds_of header k words ≡ before ++ (g ∷ after)
    → ((part_of header k words).number ≡ g.number) ↔ (NoneHolds before × (g.holds ≡ true))

-- A record is found exactly where the header asks for a block that has it, and its C words are lent. It lies where it should and is not
-- empty; a refusal is its number and an empty part.
pub record Finds : Type 0 where
  pub found : (header : List ℕ) (k words : ℕ) → (plan_of header).number ≡ 0 → 1 ≤ k → k ≤ records_of header → words_in header ≤ words
      → part_of header k words ≡ record { number = 0; start = (k - 1) * record_length header; length = record_length header }
  pub only : (header : List ℕ) (k words : ℕ) → (part_of header k words).number ≡ 0
      → ((plan_of header).number ≡ 0) × (1 ≤ k) × (k ≤ records_of header) × (words_in header ≤ words)
  pub some : (header : List ℕ) (k words : ℕ) → (part_of header k words).number ≡ 0 → 16 < (part_of header k words).length
  pub empty : (header : List ℕ) (k words : ℕ) → ((part_of header k words).number ≡ 0 → ⊥) → part_of header k words ≡ refused_part (part_of header k words).number

-- A record begins with 16 words of line documentation. Its detector words follow, n of them, or 4n in blocks 3 to 10. In block 2 the
-- version decides of how many records the count is: of three up to version 2, of four in version 3.
pub record RecordsLong : Type 0 where
  pub first : (header : List ℕ) (v n : ℕ) → Asks header 1 v 10 (4 * (16 + n)) → record_length header ≡ 16 + n
  pub second : (header : List ℕ) (v n : ℕ) → v ≤ 2 → Asks header 2 v 10 (3 * (16 + n)) → record_length header ≡ 16 + n
  pub second3 : (header : List ℕ) (n : ℕ) → Asks header 2 3 10 (4 * (16 + n)) → record_length header ≡ 16 + n
  pub others : (header : List ℕ) (b v n : ℕ) → 3 ≤ b → b ≤ 10 → Asks header b v 10 (16 + 4 * n) → record_length header ≡ 16 + 4 * n

-- The records one after another are the C words, all of them and no more.
abbrev pub JoinsToWords : Type 0
JoinsToWords = (header words : List ℕ) → (plan_of header).number ≡ 0 → 0 < records_of header → words_in header ≤ length words
    → joined_to header words (records_of header) ≡ take (words_in header) words

-- No word is left between them: the records' lengths add up to C.
abbrev pub SharesEvenly : Type 0
SharesEvenly = (header : List ℕ) → (plan_of header).number ≡ 0 → 0 < records_of header → records_of header * record_length header ≡ words_in header
