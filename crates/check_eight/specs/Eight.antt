-- What the quick way of eight bytes a step computes: words of 64 bits that stand for a register, since the generator divides
-- x^64 + x^48 + x^20 + 1. Nothing here is part of the meaning of the check word.
-- Assumes nothing.
use Rattle.std.specs.Prelude.{List, [], ◌∷◌, ◌≡◌, ℕ, ◌+◌, ◌*◌, ◌/◌, ◌%◌, ◌^◌, ◌<◌, length, take}
use Rattle.std.specs.Int.Bits.{bit_xor}
use Rattle.bits.specs.Bits.{bits, sent}
use Rattle.check_rule.specs.Check.{generator, feed}

-- the register after the n digits of w, most significant first
unfoldable pub after : ℕ → ℕ → ℕ → ℕ
after r n w = feed generator r (bits n w)

-- the number that a string of bytes writes, most significant first
abbrev pub big : List ℕ → ℕ
big [] = 0
big (x ∷ xs) = x * 2 ^ (8 * length xs) + big xs

-- sums of a word and the same word moved down, or moved up
abbrev pub down1 : ℕ → ℕ → ℕ
down1 j s = bit_xor s (s / 2 ^ j)

abbrev pub down2 : ℕ → ℕ → ℕ → ℕ
down2 j k s = bit_xor s (bit_xor (s / 2 ^ j) (s / 2 ^ k))

abbrev pub down3 : ℕ → ℕ → ℕ → ℕ → ℕ
down3 j k l s = bit_xor s (bit_xor (s / 2 ^ j) (bit_xor (s / 2 ^ k) (s / 2 ^ l)))

abbrev pub up2 : ℕ → ℕ → ℕ → ℕ
up2 j k s = bit_xor s (bit_xor (s * 2 ^ j % 2 ^ 64) (s * 2 ^ k % 2 ^ 64))

-- s with 64 zeros behind it, as a word
unfoldable pub folded : ℕ → ℕ
folded s = up2 20 48 (bit_xor (down1 32 (down1 16 s)) (s / 2 ^ 44))

-- what s leaves in the empty register
unfoldable pub finished : ℕ → ℕ
finished s = up2 5 12 (down1 32 (down2 16 44 (down3 8 22 32 (down3 4 11 16 s)))) % 2 ^ 16

-- s with a word behind it, as a word
unfoldable pub joined : ℕ → ℕ → ℕ
joined s w = bit_xor (folded s) w

-- t stands for the register after the first i bytes of s, where it began as r
abbrev pub Stands : ℕ → List ℕ → ℕ → ℕ → Type 0
Stands r s i t = (t < 2 ^ 64) × (after 0 64 t ≡ feed generator r (sent (take i s)))

-- the check word of a message of which `rest` is left, where t stands for the register so far
unfoldable pub check_from : ℕ → List ℕ → ℕ
check_from t rest = bit_xor (feed generator (after 0 64 t) (sent rest)) 0xFFFF
