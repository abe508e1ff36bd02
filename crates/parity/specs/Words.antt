-- A block of eight-bit words as lent, and what it is refused for before any of it is read.
-- Assumes nothing.
use Rattle.std.specs.Prelude.{ℕ, Bool, false, not, ◌||◌, eqb, ltb, length}
use mathlib.Core.List.{List, [], ◌∷◌, foldl}
use Rattle.ground.specs.Grounds.{◌when◌, first_of}

abbrev pub block_words : ℕ
block_words = 8040

-- a word above 255, anywhere
unfoldable pub any_large : List ℕ → Bool
any_large = foldl (λ found w. found || ltb 255 w) false

-- Over 8,040 words of eight bits. Another number of words is refusal 8; after that, a word over 255 is 14.
unfoldable pub ground_of : List ℕ → ℕ
ground_of words = first_of ((8 when not (eqb (length words) block_words)) ∷ (14 when any_large words) ∷ [])
