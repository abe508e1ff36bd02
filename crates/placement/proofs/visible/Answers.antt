-- `placement::visible` meets its contract: blocks 3 to 10 have one record, and the table's rule gives its place.
-- Assumes nothing.
use mathlib.Core.Path.{◌≡◌, sym, ap, ◌∙◌}
use native.Mathlib.Omega.{arith}
use Rattle.placement.specs.Placement.{records_held, place_of}
use Rattle.placement.proofs.LawsPlacement.{absent}
use Rattle.placement.proofs.LawsRecords.{one_record}
use Rattle.placement.proofs.Rows.{visible_rule}
use Rattle.placement.proofs.visible.Goals as goal

pub returns-then-record-eq1 : goal.returns-then-record-eq1
returns-then-record-eq1 c =
    let a = c.args in
    c.named.ensures ∙ visible_rule a.block (omega arith) (omega arith) ∙ ap (place_of a.block 0) (sym c.if-record-eq1.true)

pub returns-else-record-eq1 : goal.returns-else-record-eq1
returns-else-record-eq1 c =
    let block = c.args.block in
    let one : records_held block 0 ≡ 1 = one_record block (omega arith) (omega arith) in
    sym (absent _ _ _ (omega arith) (omega arith) (λ l m. c.if-record-eq1.false (omega arith)))
