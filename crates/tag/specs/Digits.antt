-- BCD: two decimal digits to a byte, the high one first; the number that a row of digits spells, and the digits of a number.
-- Assumes nothing.
use Rattle.std.specs.Prelude.{ℕ, zero, suc, ◌+◌, ◌*◌, ◌/◌, ◌%◌, ◌^◌, Bool, true, ◌&&◌, List, [], ◌∷◌, leb, length}

-- The digits of bytes.
unfoldable pub digits_of : List ℕ → List ℕ
digits_of [] = []
digits_of (b ∷ bs) = b / 16 ∷ b % 16 ∷ digits_of bs

-- The bytes of digits, pair by pair.
unfoldable pub paired : List ℕ → List ℕ
paired [] = []
paired (h ∷ []) = []
paired (h ∷ l ∷ ds) = (h * 16 + l) ∷ paired ds

-- No digit is above 9.
unfoldable pub decimal : List ℕ → Bool
decimal [] = true
decimal (d ∷ ds) = leb d 9 && decimal ds

-- The number that digits spell, the first one counting most.
unfoldable pub value_of : List ℕ → ℕ
value_of [] = 0
value_of (d ∷ ds) = d * 10 ^ length ds + value_of ds

-- The last k digits of a number.
unfoldable pub spelt : ℕ → ℕ → List ℕ
spelt zero n = []
spelt (suc k) n = n / 10 ^ k % 10 ∷ spelt k n
