-- A number of 64 bits as two halves, by which a group of words is taken apart. Nothing here says what a word is.
-- Assumes nothing.
use Rattle.std.specs.Prelude.{ℕ, ◌+◌, ◌*◌, ◌/◌, ◌%◌, ◌^◌}

-- the low `size` bits of both halves
abbrev pub low_bits : ℕ → ℕ → ℕ
low_bits size x = x / 2 ^ 32 % 2 ^ size * 2 ^ 32 + x % 2 ^ size
