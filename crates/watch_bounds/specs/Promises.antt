-- What is promised of the number that an offer to a watch gets, with any list of leap days, each bound printed.
-- Assumes nothing.
use Rattle.std.specs.Prelude.{◌≡◌, ℕ, ◌≤◌, ◌<◌, true, List}
use Rattle.calendar.specs.Promises.{IsList}
use Rattle.tag.specs.Promises.{IsTag, Bounded}
use Rattle.watch_bounds.specs.Sets.{Has}
use Rattle.watch_bounds.specs.declared.Watch.{Watch}

-- An open record expects a block from 1 to 10.
abbrev pub Expects : Watch → Type 0
Expects w = w.opened ≡ true → (1 ≤ w.expected) × (w.expected ≤ 10)

-- A block in its set is one of an open scan, and below the expected one.
abbrev pub Earlier : Watch → Type 0
Earlier w = (b : ℕ) → Has w.fill b → (w.opened ≡ true) × (b < w.expected)

-- The bounds of a lent record, by a list that is one; of block and tag only where it is open.
pub record Within (leaps : List ℕ) (w : Watch) : Type 0 where
  pub limit : w.limit ≤ 3600000
  pub expected : Expects w
  pub fill : Earlier w
  pub list : IsList leaps
  pub last : w.opened ≡ true → Bounded leaps w.last

-- The offer of a known block with a good tag to a watch within its bounds.
pub record Sound (leaps : List ℕ) (w : Watch) (b : ℕ) (s : List ℕ) : Type 0 where
  pub watch : Within leaps w
  pub block : b ≤ 11
  pub tag : IsTag leaps s

-- The number given to an offer is 16 for its limit, 13 for its expected block, 20 for its set; then 19 for the list, open or idle, and 12
-- for its last tag; then 4 for the block that is offered and 12 for its tag.
pub record Numbers (leaps : List ℕ) (given : Watch → ℕ → List ℕ → ℕ) : Type 0 where
  pub limit : (w : Watch) (b : ℕ) (s : List ℕ) → 3600000 < w.limit → given w b s ≡ 16
  pub expected : (w : Watch) (b : ℕ) (s : List ℕ) → w.limit ≤ 3600000 → (Expects w → ⊥) → given w b s ≡ 13
  pub fill : (w : Watch) (b : ℕ) (s : List ℕ) → w.limit ≤ 3600000 → Expects w → (Earlier w → ⊥) → given w b s ≡ 20
  pub list : (w : Watch) (b : ℕ) (s : List ℕ) → w.limit ≤ 3600000 → Expects w → Earlier w → (IsList leaps → ⊥) → given w b s ≡ 19
  pub last : (w : Watch) (b : ℕ) (s : List ℕ) → w.limit ≤ 3600000 → Expects w → Earlier w → IsList leaps → w.opened ≡ true → (Bounded leaps w.last → ⊥)
      → given w b s ≡ 12
  pub block : (w : Watch) (b : ℕ) (s : List ℕ) → Within leaps w → 11 < b → given w b s ≡ 4
  pub tag : (w : Watch) (b : ℕ) (s : List ℕ) → Within leaps w → b ≤ 11 → (IsTag leaps s → ⊥) → given w b s ≡ 12
  pub accepted : (w : Watch) (b : ℕ) (s : List ℕ) → Sound leaps w b s → given w b s ≡ 0
