-- Block 2 in version 3: its four records, and that versions 0 to 2 stay, whose rows are printed in `Earlier` of the crate `row` and whose
-- placements in `Placed` of Records. Assumes nothing.
use Rattle.std.specs.Prelude.{ℕ, ◌+◌, ◌-◌, ◌*◌, ◌/◌, ◌%◌, ◌≤◌, ◌≡◌, List, ◌∷◌, replicate}
use Rattle.row.specs.Suits.{Suits}
use Rattle.row.specs.Earlier.{EarlierRows}
use Rattle.header.specs.Plans.{plan_of}
use Rattle.records.specs.Records.{part_of}
use Rattle.placement.specs.Placement.{place_of}

-- the header of a block 2 with C words: id 2, size 10, C and two more, the version
abbrev pub second : (version C : ℕ) → List ℕ
second v C = 2 ∷ 10 ∷ (C + 2) / 256 ∷ (C + 2) % 256 ∷ 0 ∷ 0 ∷ 0 ∷ v ∷ replicate 20 0

-- its records: r of 16 + n words, one behind the other, and none after them
pub record Shared (version C r n : ℕ) : Type 0 where
  pub there : (k : ℕ) → 1 ≤ k → k ≤ r → part_of (second version C) k C ≡ record { number = 0; start = (k - 1) * (16 + n); length = 16 + n }
  pub no_more : part_of (second version C) (r + 1) C ≡ record { number = 13; start = 0; length = 0 }

pub record FourRecords : Type 0 where
  -- Versions 0 to 2 stay.
  pub earlier : EarlierRows
  -- 84 words suit the rows of both: three records of 28, n being 12, or four of 21, n being 5.
  pub three : (v : ℕ) → v ≤ 2 → Shared v 84 3 12
  pub four : Shared 3 84 4 5
  -- In version 3 block 2 has 68 words at least and 21,008 at most, and 51 are refused.
  pub bounds : (C : ℕ) → Suits 2 3 10 C → (68 ≤ C) × (C ≤ 21008)
  pub least : plan_of (second 3 68) ≡ record { number = 0; block = 2; version = 3; size = 10; records = 4; words = 68; bytes = 2680 }
  pub most : plan_of (second 3 21008) ≡ record { number = 0; block = 2; version = 3; size = 10; records = 4; words = 21008; bytes = 26260 }
  pub too_few : plan_of (second 3 51) ≡ record { number = 7; block = 0; version = 0; size = 0; records = 0; words = 0; bytes = 0 }
  -- Its fourth record is channel 6, detector 2. It has no fifth, and in version 2 no fourth.
  pub fourth : place_of 2 3 4 ≡ record { number = 0; channel = 6; detector = 2 }
  pub no_fifth : place_of 2 3 5 ≡ record { number = 13; channel = 0; detector = 0 }
  pub no_fourth : place_of 2 2 4 ≡ record { number = 13; channel = 0; detector = 0 }
