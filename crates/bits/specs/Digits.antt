-- Numbers that hold others side by side, by which the quick ways say what they pass on. Nothing here says what a word is.
-- Assumes nothing.
use Rattle.std.specs.Prelude.{ℕ, zero, suc, ◌/◌, ◌%◌, List, [], ◌∷◌}

-- the `count` lowest digits of a number to a base, the lowest first
unfoldable pub digits : ℕ → ℕ → ℕ → List ℕ
digits base zero x = []
digits base (suc count) x = x % base ∷ digits base count (x / base)
