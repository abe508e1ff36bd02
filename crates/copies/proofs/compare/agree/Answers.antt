-- `agree` tests each copy and each pair, and each return is one of the three ends of its definition.
-- Assumes nothing.
use Rattle.copies.proofs.LawsCopies.{none_refused, differ_refused, common_found}
use mathlib.Core.Path.{ap}
use mathlib.Core.Bool.{not}
use Rattle.copies.proofs.compare.agree.Goals as goal

pub returns-then-not-first-second : goal.returns-then-not-first-second
returns-then-not-first-second c = none_refused (record { first = c.copy_passes-first.ensures; second = c.copy_passes-second.ensures; third = c.copy_passes-third.ensures }) (ap not c.if-not-first-second.true)

pub returns-then-one-two : goal.returns-then-one-two
returns-then-one-two c =
    differ_refused
    (record { first = c.copy_passes-first.ensures; second = c.copy_passes-second.ensures; third = c.copy_passes-third.ensures })
    (ap not c.if-not-first-second.false) c.differ-one.ensures c.differ-two.ensures c.differ-three.ensures c.if-one-two.true

pub returns : goal.returns
returns c =
    common_found
    (record { first = c.copy_passes-first.ensures; second = c.copy_passes-second.ensures; third = c.copy_passes-third.ensures })
    (ap not c.if-not-first-second.false) c.differ-one.ensures c.differ-two.ensures c.differ-three.ensures c.if-one-two.false c.header_of-header.ensures
