-- Grounds of refusal. A list of them stands in the order of its tests, and reads like the table of numbers: the number given is
-- that of the first ground that holds.
-- Assumes nothing.
use Rattle.std.specs.Prelude.{ℕ, ◌≡◌, Bool, false, List, [], ◌∷◌}
use Rattle.ground.specs.Choice.{pick}

pub record Ground : Type 0 where
  pub number : ℕ
  pub holds : Bool

infix 5 ◌when◌
abbrev pub ◌when◌ : ℕ → Bool → Ground
n when t = record { number = n; holds = t }

-- 0 where none holds: accepted
abbrev pub first_of : List Ground → ℕ
first_of [] = 0
first_of (g ∷ gs) = pick g.holds g.number (first_of gs)

-- none of them holds
abbrev pub NoneHolds : List Ground → Type 0
NoneHolds [] = Unit {0}
NoneHolds (g ∷ gs) = (g.holds ≡ false) × NoneHolds gs
