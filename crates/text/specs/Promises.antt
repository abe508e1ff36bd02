-- What a number in decimal says.
-- Assumes nothing.
use Rattle.std.specs.Prelude.{ℕ, ◌+◌, ◌-◌, ◌*◌, ◌<◌, ◌≤◌, ◌≡◌, List, [], ◌∷◌, get_or}
use Rattle.text.specs.Texts.{decimal}

-- the number that digits spell behind so much of it
abbrev pub spelled : ℕ → List ℕ → ℕ
spelled n [] = n
spelled n (d ∷ ds) = spelled (n * 10 + (d - 0x30)) ds

-- A number's digits spell it, and the first one is no zero but of 0.
pub record SpellsNumbers : Type 0 where
  pub says : (n : ℕ) → spelled 0 (decimal n) ≡ n
  pub leading : (n : ℕ) → 0 < n → 0x31 ≤ get_or (decimal n) 0 0
