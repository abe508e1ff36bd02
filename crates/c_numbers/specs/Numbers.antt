-- Numbers that C gives, as the library holds them.
-- Assumes nothing.
use Rattle.std.specs.Prelude.{ℕ, ltb}
use Rattle.ground.specs.Choice.{pick}

-- A number that the library's type is too small for counts as the largest that it holds, which is out of every bound.
unfoldable pub up_to : ℕ → ℕ → ℕ
up_to most n = pick (ltb most n) most n
