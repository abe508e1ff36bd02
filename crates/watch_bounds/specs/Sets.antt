-- A set of blocks is a number. Its bit b, which counts 2 ^ b, stands for block b.
-- Assumes nothing.
use Rattle.std.specs.Prelude.{◌≡◌, ℕ, ◌/◌, ◌%◌, ◌^◌}

-- Block b is in the set.
abbrev pub Has : ℕ → ℕ → Type 0
Has set b = set / 2 ^ b % 2 ≡ 1
