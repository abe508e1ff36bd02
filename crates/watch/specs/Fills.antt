-- Which blocks are fill, and the set of them.
-- Assumes nothing.
use Rattle.std.specs.Prelude.{ℕ, ◌+◌, ◌^◌, Bool, not, eqb}
use Rattle.ground.specs.Choice.{pick}

-- The header table calls a data valid word of 1 valid. Every other value is fill.
abbrev pub is_fill : ℕ → Bool
is_fill v = not (eqb v 1)

-- A set with block b in it where that is fill; b is above all blocks of the set, so that its bit, 2 ^ b, is added.
unfoldable pub filled : ℕ → ℕ → ℕ → ℕ
filled set b v = pick (is_fill v) (set + 2 ^ b) set
