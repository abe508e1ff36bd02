-- The header of a block, said without tests: the copy that the passing ones are.
-- Assumes nothing.
use Rattle.std.specs.Prelude.{ℕ, ◌<◌, ◌≤◌, ◌≡◌, List, length}
use Rattle.check_rule.specs.Check.{generator}
use Rattle.check_rule.specs.Finds.{Passes}
use Rattle.copies.specs.Copies.{copies_length, copy_at}

-- a block with three equal copies: each of them is c
abbrev pub ThreeEqual : (block c : List ℕ) → Type 0
ThreeEqual block c = (k : ℕ) → k < 3 → copy_at k block ≡ c

-- A copy passes where its check agrees. Copies that pass must all be equal, and the header is what they have in common: c is one of the
-- three, it passes, and each one that passes is c.
pub record Agreed (block c : List ℕ) : Type 0 where
  pub long : copies_length ≤ length block
  pub place : ℕ
  pub within : place < 3
  pub there : copy_at place block ≡ c
  pub passing : Passes generator c
  pub only : (k : ℕ) → k < 3 → Passes generator (copy_at k block) → copy_at k block ≡ c

-- 90 bytes or more, in which none of the three copies passes
pub record NoneAgreed (block : List ℕ) : Type 0 where
  pub long : copies_length ≤ length block
  pub none : (k : ℕ) → k < 3 → Passes generator (copy_at k block) → ⊥
