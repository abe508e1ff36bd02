-- Text, byte for byte: the bytes of a string, numbers in decimal, and lines of columns, which are parted by a space and ended by LF.
-- Assumes nothing.
use Rattle.std.specs.Prelude.{ℕ, zero, suc, ◌+◌, ◌/◌, ◌%◌, List, [], ◌∷◌, ◌++◌, ltb, length}
use Prim.Native.Char.{code}
use Prim.Native.String.{String, [] as no_text, ◌∷◌ as ◌then◌}
use Rattle.ground.specs.Choice.{pick}
use Rattle.room.specs.Laid.{inside}

-- the bytes of a text in ASCII
abbrev pub bytes_of : String → List ℕ
bytes_of no_text = []
bytes_of (c then s) = code c ∷ bytes_of s

-- the byte of a digit
abbrev pub digit : ℕ → ℕ
digit d = 0x30 + d

-- the last digits of a number, so many where it has them, the first of them first
unfoldable pub digits : (most n : ℕ) → List ℕ
digits zero n = []
digits (suc most) n = pick (ltb n 10) (digit n ∷ []) (digits most (n / 10) ++ (digit (n % 10) ∷ []))

-- a number in decimal, without leading zeros: it has no more digits than it counts, and one
unfoldable pub decimal : ℕ → List ℕ
decimal n = digits (suc n) n

-- a column and the byte that ends it
abbrev pub ended : List ℕ → ℕ → List ℕ
ended column end = column ++ (end ∷ [])

-- columns parted by spaces, and LF
abbrev pub columns : List (List ℕ) → List ℕ
columns [] = 0x0A ∷ []
columns (c ∷ []) = ended c 0x0A
columns (c ∷ d ∷ cs) = ended c 0x20 ++ columns (d ∷ cs)

-- where a part ends that is put into room from a place on: there, where it does not fit
abbrev pub ends_at : (room : List ℕ) (at : ℕ) (part : List ℕ) → ℕ
ends_at room at part = pick (inside room at part) (at + length part) at

-- what putting a text into room answers: its length, or 0 where it does not fit
abbrev pub put_length : (room text : List ℕ) → ℕ
put_length room text = pick (inside room 0 text) (length text) 0
