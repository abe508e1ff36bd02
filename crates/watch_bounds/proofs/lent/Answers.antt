-- `watch_bounds::lent` tests the record's bounds and the list in their order: each return is the first ground that holds.
-- Assumes nothing.
use mathlib.Core.Path.{refl, sym, ap, ◌∙◌}
use mathlib.Core.Bool.{not}
use Rattle.ground.proofs.LawsChoice.{yes, no}
use Rattle.watch_bounds.proofs.LawsBounds.{to_ten}
use Rattle.watch_bounds.proofs.lent.Goals as goal

pub returns-then-too_long : goal.returns-then-too_long
returns-then-too_long c = yes _ c.too_long.ensures c.if-too_long.true refl

pub returns-then-bad_expected : goal.returns-then-bad_expected
returns-then-bad_expected c = no _ c.too_long.ensures c.if-too_long.false (yes _ c.bad_expected.ensures c.if-bad_expected.true refl)

pub bad_fill-requires : goal.bad_fill-requires
bad_fill-requires c = to_ten c.args.w (sym c.bad_expected.ensures ∙ c.if-bad_expected.false)

pub returns-then-bad_fill : goal.returns-then-bad_fill
returns-then-bad_fill c =
    no _ c.too_long.ensures c.if-too_long.false
    (no _ c.bad_expected.ensures c.if-bad_expected.false (yes _ c.bad_fill.ensures c.if-bad_fill.true refl))

pub returns-then-not-is_good_list : goal.returns-then-not-is_good_list
returns-then-not-is_good_list c =
    no _ c.too_long.ensures c.if-too_long.false
    (no _ c.bad_expected.ensures c.if-bad_expected.false
    (no _ c.bad_fill.ensures c.if-bad_fill.false (yes _ (ap not c.is_good_list.ensures) (ap not c.if-not-is_good_list.true) refl)))

pub returns-then-bad_last : goal.returns-then-bad_last
returns-then-bad_last c =
    no _ c.too_long.ensures c.if-too_long.false
    (no _ c.bad_expected.ensures c.if-bad_expected.false
    (no _ c.bad_fill.ensures c.if-bad_fill.false
    (no _ (ap not c.is_good_list.ensures) (ap not c.if-not-is_good_list.false) (yes _ c.bad_last.ensures c.if-bad_last.true refl))))

pub returns : goal.returns
returns c =
    no _ c.too_long.ensures c.if-too_long.false
    (no _ c.bad_expected.ensures c.if-bad_expected.false
    (no _ c.bad_fill.ensures c.if-bad_fill.false
    (no _ (ap not c.is_good_list.ensures) (ap not c.if-not-is_good_list.false) (no _ c.bad_last.ensures c.if-bad_last.false refl))))
