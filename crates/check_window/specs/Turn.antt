-- What the quick way of 128 bytes a turn computes: sixteen words of 64 bits, folded by x^1024 = x^768 + x^320 + 1 modulo the generator.
-- Nothing here is part of the meaning of the check word.
-- Assumes nothing.
use Rattle.std.specs.Prelude.{List, [], ◌∷◌, ℕ, zero, suc, ◌+◌, ◌*◌, ◌/◌, ◌%◌, ◌^◌, take, drop, slice_index}
use Rattle.std.specs.Int.Bits.{bit_xor}
use Rattle.check_eight.specs.Eight.{big, joined}

-- the byte of x at the bit j, at the bit k
abbrev pub byte_at : ℕ → ℕ → ℕ → ℕ
byte_at j k x = x / 2 ^ j % 2 ^ 8 * 2 ^ k % 2 ^ 64

-- the eight bytes of x in the other order
unfoldable pub mirror : ℕ → ℕ
mirror x = bit_xor (x * 2 ^ 56 % 2 ^ 64) (bit_xor (byte_at 8 48 x) (bit_xor (byte_at 16 40 x) (bit_xor (byte_at 24 32 x) (bit_xor (byte_at 32 24 x) (bit_xor (byte_at 40 16 x) (bit_xor (byte_at 48 8 x) (x / 2 ^ 56 % 2 ^ 8)))))))

abbrev pub mirrors : List ℕ → List ℕ
mirrors [] = []
mirrors (x ∷ xs) = mirror x ∷ mirrors xs

-- a word more of a window of sixteen: the first word goes, and is added 4, 11 and 16 words further on
abbrev pub push : List ℕ → ℕ → List ℕ
push w d = slice_index w 1 ∷ slice_index w 2 ∷ slice_index w 3 ∷ bit_xor (slice_index w 4) (slice_index w 0) ∷ slice_index w 5 ∷ slice_index w 6 ∷ slice_index w 7 ∷ slice_index w 8 ∷ slice_index w 9 ∷ slice_index w 10 ∷ bit_xor (slice_index w 11) (slice_index w 0) ∷ slice_index w 12 ∷ slice_index w 13 ∷ slice_index w 14 ∷ slice_index w 15 ∷ bit_xor d (slice_index w 0) ∷ []

abbrev pub pushes : List ℕ → List ℕ → List ℕ
pushes w [] = w
pushes w (d ∷ ds) = pushes (push w d) ds

-- words as one
abbrev pub horner : ℕ → List ℕ → ℕ
horner t [] = t
horner t (w ∷ ws) = horner (joined t w) ws

-- n words of eight bytes of s, from the byte i + 8 k on
abbrev pub chunks : List ℕ → ℕ → ℕ → ℕ → List ℕ
chunks s i k zero = []
chunks s i k (suc n) = big (take 8 (drop (i + 8 * k) s)) ∷ chunks s i (suc k) n
