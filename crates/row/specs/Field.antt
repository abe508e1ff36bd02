-- The length of the information field.
-- Assumes nothing.
use Rattle.std.specs.Prelude.{ℕ, ◌+◌, ◌-◌, ◌*◌, ◌/◌, max, ◌||◌, eqb}
use Rattle.ground.specs.Choice.{pick}
use Rattle.row.specs.Pixels.{image_size}
use Rattle.row.specs.Rows.{fixed_bits}

-- rounded up to a multiple of 16
abbrev pub up_to16 : ℕ → ℕ
up_to16 bits = (bits + 15) / 16 * 16

-- The field of blocks 1 to 10 has 10 x C bits, rounded up to a multiple of 16, but never fewer than 21,440. That of blocks 0 and 11 has
-- 64,320.
unfoldable pub field_bits : (block count : ℕ) → ℕ
field_bits block count = pick (eqb block 0 || eqb block 11) fixed_bits (max 21440 (up_to16 (count * image_size)))

unfoldable pub field_bytes : (block count : ℕ) → ℕ
field_bytes block count = field_bits block count / 8

-- what follows the last word is fill
abbrev pub fill_bits : (block size count : ℕ) → ℕ
fill_bits block size count = field_bits block count - count * size
