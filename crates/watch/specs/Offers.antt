-- Offers to a watch, one after the other, refused ones among them.
-- Assumes nothing.
use Rattle.std.specs.Prelude.{◌≡◌, ℕ, zero, suc, Bool, true, not, ◌&&◌, List, [], ◌∷◌, ◌++◌, eqb}
use Rattle.ground.specs.Choice.{pick}
use Rattle.watch_bounds.specs.declared.Watch.{Watch}
use Rattle.watch.specs.Verdicts.{Verdict, number_of}
use Rattle.watch.specs.Rules.{step_of}

-- A block number, its data valid word, the bytes of its tag, and the list of leap days that is lent with them.
pub record Offer : Type 0 where
  pub block : ℕ
  pub valid : ℕ
  pub tag : List ℕ
  pub leaps : List ℕ

abbrev pub next_of : Watch → Offer → Watch
next_of w o = (step_of o.leaps w o.block o.valid o.tag).next

abbrev pub verdict_of : Watch → Offer → Verdict
verdict_of w o = (step_of o.leaps w o.block o.valid o.tag).verdict

-- The watch after offers.
unfoldable pub after : Watch → List Offer → Watch
after w [] = w
after w (o ∷ os) = after (next_of w o) os

-- Those of the offers that are accepted.
abbrev pub is_accepted : Watch → Offer → Bool
is_accepted w o = eqb (number_of (verdict_of w o)) 0

unfoldable pub accepted : Watch → List Offer → List Offer
accepted w [] = []
accepted w (o ∷ os) = pick (is_accepted w o) (o ∷ accepted (next_of w o) os) (accepted (next_of w o) os)

-- The offer is a block 0 and accepted.
abbrev pub begins : Watch → Offer → Bool
begins w o = eqb o.block 0 && is_accepted w o

-- None of the offers is such a one.
unfoldable pub none_begins : Watch → List Offer → Bool
none_begins w [] = true
none_begins w (o ∷ os) = not (begins w o) && none_begins (next_of w o) os

-- One list is lent with all of them.
unfoldable pub OneList : List ℕ → List Offer → Type 0
OneList leaps [] = Unit {0}
OneList leaps (o ∷ os) = (o.leaps ≡ leaps) × OneList leaps os

-- Blocks in order, each with its data valid word and its tag, and one list: block k, and the blocks before it.
abbrev pub offer_of : List ℕ → (ℕ → ℕ) → (ℕ → List ℕ) → ℕ → Offer
offer_of leaps valid tag k = record { block = k; valid = valid k; tag = tag k; leaps = leaps }

unfoldable pub blocks_before : ℕ → List ℕ → (ℕ → ℕ) → (ℕ → List ℕ) → List Offer
blocks_before zero leaps valid tag = []
blocks_before (suc k) leaps valid tag = blocks_before k leaps valid tag ++ (offer_of leaps valid tag k ∷ [])
