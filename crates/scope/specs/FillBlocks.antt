-- Which blocks were fill: what the watch keeps of them and hands over, with any list of leap days, good or bad. A block is fill where its
-- data valid word is not 1, be that 0 or anything from 2 on. Refusal 20, and its place between 13 and 19, stand among the reasons of the
-- watch.
-- Assumes nothing.
use Rattle.std.specs.Prelude.{ℕ, ◌^◌, ◌+◌, ◌≡◌, ◌⊎◌, ◌↔◌, List}
use Rattle.watch_bounds.specs.Sets.{Has}
use Rattle.watch.specs.Filled.{HowMany, OneFill, AnyFills}

-- A set of blocks is a number, in which 1 moved up by b places stands for block b: 1060 is the set of blocks 2, 5 and 10. Sets of the same
-- blocks are the same number.
pub record Sets : Type 0 where
  pub one : (b k : ℕ) → Has (2 ^ b) k ↔ (k ≡ b)
  pub same : (x y : ℕ) → ((b : ℕ) → Has x b ↔ Has y b) → x ≡ y
  pub number : 2 ^ 2 + 2 ^ 5 + 2 ^ 10 ≡ 1060
  pub blocks : (b : ℕ) → Has 1060 b ↔ ((b ≡ 2) ⊎ ((b ≡ 5) ⊎ (b ≡ 10)))
  pub many : HowMany 1060 3
  pub none : (b : ℕ) → Has 0 b → ⊥

-- The watch's own promises print what each offer does to the set, and say what is handed over by the offers alone: of any offers to a watch
-- that was begun idle, each with a list of its own, those that were accepted since the scan's block 0 and are fill. They are cited.
pub record FillBlocks : Type 0 where
  pub sets : Sets
  pub one : (leaps : List ℕ) → OneFill leaps
  pub scans : AnyFills
