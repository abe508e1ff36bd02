-- What the statements of this folder are made of: the first of several reasons, bits, words that count from 1. Assumes nothing.
use Rattle.std.specs.Prelude.{ℕ, ◌-◌, ◌≡◌, ◌⊎◌, List, [], ◌∷◌, get_or}
use Rattle.bits.specs.Bits.{sent}

-- a number, and the reason on which it is given
pub record Reason : Type 1 where
  pub number : ℕ
  pub holds : Type 0

infix 70 ◌if◌
abbrev pub ◌if◌ : ℕ → Type 0 → Reason
n if P = record { number = n; holds = P }

-- The number is that of the first of these reasons that holds, none before it holding; it is 0 where none of them does.
abbrev pub FirstOf : List Reason → ℕ → Type 0
FirstOf [] n = n ≡ 0
FirstOf (r ∷ rs) n = (r.holds × (n ≡ r.number)) ⊎ ((r.holds → ⊥) × FirstOf rs n)

-- Whatever the reasons, they give one number.
abbrev pub GivenOnce : Type 1
GivenOnce = (reasons : List Reason) (m n : ℕ) → FirstOf reasons m → FirstOf reasons n → m ≡ n

-- words count from 1, and bits from 0 in the order sent, most significant first
abbrev pub word : ℕ → List ℕ → ℕ
word k ws = get_or ws (k - 1) 0

abbrev pub bit : ℕ → List ℕ → ℕ
bit i bytes = get_or (sent bytes) i 0
