-- Field sizes. The table of word sizes and counts is `Suits` of the crate `row`, printed there as the scope prints it; that the row's
-- decision is this table is its promise `DecidesTable`. Assumes nothing.
use Rattle.std.specs.Prelude.{ℕ, ◌+◌, ◌*◌, ◌/◌, ◌%◌, ◌≤◌, ◌<◌, max, ◌≡◌}
use Rattle.row.specs.Pixels.{visible_of}
use Rattle.row.specs.Field.{field_bits, field_bytes}

-- u is m rounded up to a multiple of 16
pub record RoundedUp (m u : ℕ) : Type 0 where
  pub multiple : u % 16 ≡ 0
  pub enough : m ≤ u
  pub least : u < m + 16

-- The field of blocks 1 to 10 has 10 x C bits, rounded up to a multiple of 16, but never fewer than 21,440. That of blocks 0 and 11 has
-- 64,320.
pub data FieldBits : (block C bits : ℕ) → Type 0 where
  zeroth : {C : ℕ} → FieldBits 0 C 64320
  lines : {b C u : ℕ} → 1 ≤ b → b ≤ 10 → RoundedUp (10 * C) u → FieldBits b C (max 21440 u)
  last : {C : ℕ} → FieldBits 11 C 64320

pub record Sized : Type 0 where
  pub bits : (b C bits : ℕ) → FieldBits b C bits → field_bits b C ≡ bits
  pub bytes : (b C bits : ℕ) → FieldBits b C bits → field_bytes b C ≡ bits / 8
  -- An infrared pixel spans four visible ones.
  pub spans : (n : ℕ) → visible_of n ≡ 4 * n
