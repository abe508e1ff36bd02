-- `calendar::leaps::is_possible` splits a number into year and day, and asks for the bounds of both.
-- Assumes nothing.
use mathlib.Core.Path.{sym, ap}
use Prim.Native.Nat.{ℕ, ◌/◌, ◌%◌}
use mathlib.Core.Bool.{Bool, ◌&&◌}
use lib.Dec.{leb}
use borrow.Author.Tests.{lt-leb, le-leb}
use Rattle.calendar.specs.Years.{days_in}
use Rattle.calendar.specs.Leaps.{possible}
use Rattle.calendar.proofs.leaps.is_possible.Goals as goal

-- what is tested of the day, behind a test of the year
abbrev behind : ℕ → Bool → Bool
behind n year = year && (leb 1 (n % 1000) && leb (n % 1000) (days_in (n / 1000)))

pub returns-then-year : goal.returns-then-year
unfolding possible
returns-then-year c = sym (ap (behind c.args.number) (lt-leb (c.args.number / 1000) 9999 c.if-year.true))

pub returns : goal.returns
unfolding possible
returns c =
    let n = c.args.number in
    λ i. sym (le-leb (n / 1000) 9999 c.if-year.false) i && (leb 1 (n % 1000) && leb (n % 1000) (c.days_in-days.ensures i))
