-- `tag::is_second` asks the list only for second 60 at 23:59, where alone the definition's answer hangs on it.
-- Assumes nothing.
use mathlib.Core.Path.{sym, ◌∙◌}
use mathlib.Core.Bool.{◌&&◌, ◌||◌}
use borrow.Author.Tests.{le-leb, lt-leb}
use Rattle.calendar.specs.Leaps.{day_of, listed}
use Rattle.tag.specs.Tags.{ends_day, good_second}
use Rattle.tag.proofs.is_second.Goals as goal

pub returns-then-tag-le-LAST_SECOND : goal.returns-then-tag-le-LAST_SECOND
unfolding good_second
returns-then-tag-le-LAST_SECOND c =
    let a = c.args in
    let t = a.tag in
    λ i. sym (le-leb t.second 59 c.if-tag-le-LAST_SECOND.true) i || (ends_day t && listed a.leaps.now (day_of t.year t.day))

pub returns-then-not-ends_day : goal.returns-then-not-ends_day
unfolding good_second
returns-then-not-ends_day c =
    let a = c.args in
    let t = a.tag in
    λ i. sym (lt-leb t.second 59 c.if-tag-le-LAST_SECOND.false) i || ((sym c.if-not-ends_day.true ∙ c.ends_day.ensures) i && listed a.leaps.now (day_of t.year t.day))

pub returns : goal.returns
unfolding good_second
returns c =
    let a = c.args in
    let t = a.tag in
    λ i. sym (lt-leb t.second 59 c.if-tag-le-LAST_SECOND.false) i || ((sym c.if-not-ends_day.false ∙ c.ends_day.ensures) i && c.is_listed.ensures i)
