-- The rules of an open watch, by the block that it expects, its waiting limit, the block that is offered, and the time since the last tag.
-- Assumes nothing.
use Rattle.std.specs.Prelude.{ℕ, not, eqb, ℤ, pos}
use Rattle.std.specs.Int.Signed.{lt_z}
use Rattle.ground.specs.Choice.{pick}
use Rattle.watch_rule.specs.declared.Closing.{Closing}
use Rattle.watch_rule.specs.declared.Closing.TheVariants.{ClockBack, Late, Broken, Complete}
use Rattle.watch_rule.specs.declared.Rule.{Rule}
use Rattle.watch_rule.specs.declared.Rule.TheVariants.{Keeps, Closes}

-- How a scan was closed: 4 as clock back, 5 as late, 6 as broken, 7 as complete.
abbrev pub closing_kind : Closing → ℕ
closing_kind ClockBack = 4
closing_kind Late = 5
closing_kind Broken = 6
closing_kind Complete = 7

-- The last block of a scan, which is the last that a watch expects.
abbrev pub last_of_scan : ℕ
last_of_scan = 10

-- In time. The block is not the expected one: the scan closes as broken. The block is block 10: it closes as complete. Otherwise the scan
-- goes on.
unfoldable pub in_time : ℕ → ℕ → Rule
in_time expected b = pick (not (eqb b expected)) (Closes Broken) (pick (eqb b last_of_scan) (Closes Complete) Keeps)

-- With d the time from the last tag to the offered one. d is negative: the scan closes as clock back. d is greater than the limit: it
-- closes as late.
unfoldable pub rule_of : ℕ → ℕ → ℕ → ℤ → Rule
rule_of expected limit b d = pick (lt_z d (pos 0)) (Closes ClockBack) (pick (lt_z (pos limit) d) (Closes Late) (in_time expected b))
