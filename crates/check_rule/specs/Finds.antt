-- What a check finds, for any generator of degree 16.
-- Assumes nothing.
use Rattle.std.specs.Prelude.{◌≡◌, List, ◌++◌, ℕ, ◌%◌, ◌<◌}
use Rattle.bits.specs.Bits.{Below}
use Rattle.bits.specs.Runs.{Altered}
use Rattle.check_rule.specs.Check.{check_by, bytes_of}

-- a message followed by its check word
pub record Passes (g : ℕ) (s : List ℕ) : Type 0 where
  pub message : List ℕ
  pub followed : s ≡ message ++ bytes_of (check_by g message)

-- Of a string that passes, no change of at least one bit, all inside one run of n bits in the order sent, passes. The run may straddle
-- bytes and reach into the check word.
abbrev pub FindsRuns : ℕ → ℕ → Type 0
FindsRuns g n = (x y : List ℕ) → Below 256 x → Altered n x y → (x ≡ y → ⊥) → Passes g x → Passes g y → ⊥

-- Every generator of degree 16 that has the term 1 finds runs of 16 bits. Written without its first term such a one is below 65536 and odd.
abbrev pub FindsSixteen : Type 0
FindsSixteen = (g : ℕ) → g < 65536 → g % 2 ≡ 1 → FindsRuns g 16
