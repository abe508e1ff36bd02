-- `calendar::leaps::is_good_list` tests the length first, then the days.
-- Assumes nothing.
use mathlib.Core.Path.{sym, ap, ◌∙◌}
use mathlib.Core.Bool.{Bool, ◌&&◌}
use lib.ListN.{length}
use borrow.Author.Tests.{lt-leb, le-leb}
use Rattle.calendar.specs.Leaps.{most_leaps, rises_from, good_list}
use Rattle.calendar.proofs.leaps.is_good_list.Goals as goal

pub returns-then-leaps-le-MOST_LEAP_DAYS : goal.returns-then-leaps-le-MOST_LEAP_DAYS
unfolding good_list
returns-then-leaps-le-MOST_LEAP_DAYS c =
    let leaps = c.args.leaps.now in
    c.rises.ensures ∙ (λ i. sym (le-leb (length leaps) most_leaps c.if-leaps-le-MOST_LEAP_DAYS.true) i && rises_from 0 leaps)

pub returns-else-leaps-le-MOST_LEAP_DAYS : goal.returns-else-leaps-le-MOST_LEAP_DAYS
unfolding good_list
returns-else-leaps-le-MOST_LEAP_DAYS c =
    let leaps = c.args.leaps.now in
    let long = lt-leb (length leaps) most_leaps c.if-leaps-le-MOST_LEAP_DAYS.false in
    long ∙ sym (ap (λ (t : Bool). t && rises_from 0 leaps) long)
