-- Altered bits: two lists of bits that differ inside one run only.
-- Assumes nothing.
use Rattle.std.specs.Prelude.{◌≡◌, ◌⊎◌, List, ℕ, ◌+◌, ◌<◌, ◌≤◌, length, get_or}
use Rattle.bits.specs.Bits.{sent, Below}

-- u and v agree at every place outside one run of n places
abbrev pub InRun : ℕ → List ℕ → List ℕ → Type 0
InRun n u v = (k : ℕ) × ((i : ℕ) → (i < k) ⊎ (k + n ≤ i) → get_or u i 0 ≡ get_or v i 0)

-- the bytes y are the bytes x, or x with bits altered, all of them inside one run of n bits in the order sent
pub record Altered (n : ℕ) (x y : List ℕ) : Type 0 where
  pub bytes : Below 256 y
  pub long : length y ≡ length x
  pub run : InRun n (sent x) (sent y)
