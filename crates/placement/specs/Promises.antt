-- What the placement promises beside its answers: how many records a block has, where a record is refused, and that none holds what another
-- does. The proofs are in proofs/KeepsPlacement.antt and proofs/KeepsOnce.antt.
-- Assumes nothing.
use Rattle.std.specs.Prelude.{ℕ, ◌≤◌, ◌<◌, ◌≡◌, ◌⊎◌, ◌↔◌}
use Rattle.row.specs.Rows as rows
use Rattle.placement.specs.Placement.{records_held, place_of}

-- A placement is found for as many records as the table of field sizes gives the block: record access and placement agree.
abbrev pub Counts : Type 0
Counts = (block version : ℕ) → block ≤ 11 → version ≤ 3 → records_held block version ≡ rows.records_in block version

-- Refusal 13 is given exactly where the record is 0 or above the number that the block has.
abbrev pub Refuses13 : Type 0
Refuses13 =
    (block version k : ℕ) → block ≤ 11 → version ≤ 3
    → ((place_of block version k).number ≡ 13) ↔ ((k ≡ 0) ⊎ (records_held block version < k))

-- Blocks 3 to 10, every version.
abbrev pub EveryVersion : Type 0
EveryVersion =
    (block version k : ℕ) → 3 ≤ block → block ≤ 11 → version ≤ 3 → place_of block version k ≡ place_of block 0 k

-- Two records of a version that hold the same detector of the same channel are one.
abbrev pub HeldOnce : Type 0
HeldOnce =
    (version b k c l : ℕ) → (place_of b version k).number ≡ 0 → (place_of c version l).number ≡ 0
    → (place_of b version k).channel ≡ (place_of c version l).channel → (place_of b version k).detector ≡ (place_of c version l).detector
    → (b ≡ c) × (k ≡ l)
