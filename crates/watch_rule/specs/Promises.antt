-- What is promised of the rules, each by itself, with its numbers printed.
-- Assumes nothing.
use Rattle.std.specs.Prelude.{◌≡◌, ℕ, ℤ, pos, ◌≤ℤ◌, ◌<ℤ◌}
use Rattle.watch_rule.specs.Rules.{rule_of}
use Rattle.watch_rule.specs.declared.Closing.TheVariants.{ClockBack, Late, Broken, Complete}
use Rattle.watch_rule.specs.declared.Rule.TheVariants.{Keeps, Closes}

-- An offer d ms after the last tag: the clock goes back, or the wait is longer than the limit, whatever the block; else the block decides.
pub record OpenRules (expected limit : ℕ) : Type 0 where
  pub back : (b : ℕ) (d : ℤ) → d <ℤ pos 0 → rule_of expected limit b d ≡ Closes ClockBack
  pub late : (b : ℕ) (d : ℤ) → pos limit <ℤ d → rule_of expected limit b d ≡ Closes Late
  pub broken : (b : ℕ) (d : ℤ) → pos 0 ≤ℤ d → d ≤ℤ pos limit → (b ≡ expected → ⊥) → rule_of expected limit b d ≡ Closes Broken
  pub complete : (b : ℕ) (d : ℤ) → pos 0 ≤ℤ d → d ≤ℤ pos limit → b ≡ expected → b ≡ 10 → rule_of expected limit b d ≡ Closes Complete
  pub keeps : (b : ℕ) (d : ℤ) → pos 0 ≤ℤ d → d ≤ℤ pos limit → b ≡ expected → (b ≡ 10 → ⊥) → rule_of expected limit b d ≡ Keeps
