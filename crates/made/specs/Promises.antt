-- What it is that a copy makes an acceptable block, said without tests.
-- Assumes nothing.
use Rattle.std.specs.Prelude.{ℕ, ◌<◌, ◌≤◌, ◌≡◌, true, List, ◌++◌, length, take, drop}
use Rattle.bits.specs.Bits.{Below}
use Rattle.check_rule.specs.Check.{generator}
use Rattle.check_rule.specs.Finds.{Passes}
use Rattle.copies.specs.Copies.{copy_at}
use Rattle.block.specs.Meets.{Meets}
use Rattle.made.specs.Made.{made, makes}

-- Copy k of the three in front of these bytes passes; put in all three places it makes them begin with a block that meets the specification:
-- three times that copy, then the bytes as they lie from byte 90 on.
pub record MakesBlock (k : ℕ) (rest block : List ℕ) : Type 0 where
  pub one : k < 3
  pub passing : Passes generator (copy_at k rest)
  pub inside : length block ≤ length rest
  pub copies : take 90 block ≡ copy_at k rest ++ (copy_at k rest ++ copy_at k rest)
  pub behind : drop 90 block ≡ drop 90 (take (length block) rest)
  pub meets : Meets block

-- There is such a block exactly where the test says so, it is the one that is made, and there is no other. It has 2,772 bytes at least.
pub record MakesExactly : Type 0 where
  pub there : (k : ℕ) (rest : List ℕ) → Below 256 rest → makes k rest ≡ true → MakesBlock k rest (made k rest)
  pub only : (k : ℕ) (rest block : List ℕ) → Below 256 rest → MakesBlock k rest block → (makes k rest ≡ true) × (block ≡ made k rest)
  pub least : (k : ℕ) (rest block : List ℕ) → MakesBlock k rest block → 2772 ≤ length block
