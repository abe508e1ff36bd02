-- Marks as C is given them: 1 where one is on, else 0.
-- Assumes nothing.
use Rattle.std.specs.Prelude.{ℕ, Bool}
use Rattle.ground.specs.Choice.{pick}

abbrev pub mark : Bool → ℕ
mark on = pick on 1 0
