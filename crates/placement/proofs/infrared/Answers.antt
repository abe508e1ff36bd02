-- `placement::infrared` meets its contract: beyond the fourth record there is none, and up to it the rule of the table that the code
-- itself has gives the place.
-- Assumes nothing.
use mathlib.Core.Path.{sym, ◌∙◌}
use Prim.Native.Nat.{◌≤◌}
use native.Mathlib.Omega.{arith}
use Rattle.placement.specs.Placement.{records_held}
use Rattle.placement.proofs.LawsPlacement.{absent}
use Rattle.placement.proofs.LawsRecords.{at_most_four}
use Rattle.placement.proofs.Rows.{infrared_rule}
use Rattle.placement.proofs.infrared.Goals as goal

pub returns-then-record-lt1 : goal.returns-then-record-lt1
returns-then-record-lt1 c = sym (absent _ _ _ (omega arith) (omega arith) (λ l m. omega arith))

pub returns-then-record-gt-MOST_RECORDS : goal.returns-then-record-gt-MOST_RECORDS
returns-then-record-gt-MOST_RECORDS c =
    let a = c.args in
    let most : records_held a.block a.version ≤ 4 = at_most_four a.block a.version (omega arith) (omega arith) in
    sym (absent _ _ _ (omega arith) (omega arith) (λ l m. omega arith))

pub returns : goal.returns
returns c =
    let a = c.args in
    c.named.ensures ∙ infrared_rule a.block a.version a.«record» (omega arith) c.group_of-group.ensures.0
