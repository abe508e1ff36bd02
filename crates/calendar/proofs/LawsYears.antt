-- No year has more than 366 days.
-- Assumes nothing.
use Prim.Native.Nat.{ℕ, ◌≤◌}
use native.Mathlib.Omega.{arith}
use Rattle.ground.proofs.LawsChoice.{either}
use Rattle.calendar.specs.Years.{leap, days_in}

pub at_most_366 : (y : ℕ) → days_in y ≤ 366
at_most_366 y = either (λ (n : ℕ). n ≤ 366) (leap y) (λ _. omega arith) (λ _. omega arith)
