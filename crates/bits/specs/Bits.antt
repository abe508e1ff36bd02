-- Bits in the order sent: in bytes and in words the most significant bit comes first. A bit is the number 0 or 1. The same list of bits
-- serves the words of a field, the check word and what is said of altered bits.
-- Assumes nothing.
use Rattle.std.specs.Prelude.{ℕ, zero, suc, ◌+◌, ◌*◌, ◌/◌, ◌%◌, ◌^◌, ◌<◌, List, [], ◌∷◌, ◌++◌, length, take, drop}

-- the bits of a word of `size` bits
unfoldable pub bits : ℕ → ℕ → List ℕ
bits zero w = []
bits (suc size) w = w / 2 ^ size % 2 ∷ bits size w

-- the word that bits spell
unfoldable pub value : List ℕ → ℕ
value [] = 0
value (b ∷ bs) = b * 2 ^ length bs + value bs

-- the bits of words of `size` bits, one word after the other
unfoldable pub spell : ℕ → List ℕ → List ℕ
spell size [] = []
spell size (w ∷ ws) = bits size w ++ spell size ws

-- the first `count` words of `size` bits, cut from bits
unfoldable pub words : ℕ → ℕ → List ℕ → List ℕ
words size zero bs = []
words size (suc count) bs = value (take size bs) ∷ words size count (drop size bs)

-- the bits of bytes in the order sent
abbrev pub sent : List ℕ → List ℕ
sent bytes = spell 8 bytes

-- every number of a list is below n: bytes are `Below 256`, bits `Below 2`
abbrev pub Below : ℕ → List ℕ → Type 0
Below n [] = Unit {0}
Below n (x ∷ xs) = (x < n) × Below n xs
