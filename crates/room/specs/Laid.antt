-- Lent room with bytes, or words, laid into it from a place on: in front of that place and behind them it is as it was.
-- Assumes nothing.
use Rattle.std.specs.Prelude.{ℕ, ◌+◌, Bool, List, ◌++◌, leb, length, take, drop}
use Rattle.ground.specs.Choice.{pick}

abbrev pub laid : List ℕ → ℕ → List ℕ → List ℕ
laid room at xs = take at room ++ (xs ++ drop (at + length xs) room)

-- the bytes end inside the room
abbrev pub inside : List ℕ → ℕ → List ℕ → Bool
inside room at xs = leb (at + length xs) (length room)

-- where they do not, nothing is laid
abbrev pub laid_inside : List ℕ → ℕ → List ℕ → List ℕ
laid_inside room at xs = pick (inside room at xs) (laid room at xs) room
