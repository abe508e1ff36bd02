-- `row_of` goes by the block number, in block 2 by the version too, as its definition does.
-- Assumes nothing.
use mathlib.Core.Path.{sym, ap, ◌∙◌}
use native.Mathlib.Omega.{arith}
use lib.Arith.{lt_of_le-ne}
use Rattle.row.specs.Rows.{records_in, infrared_row, row_of}
use Rattle.row.proofs.LawsRow.{row_others, row_none}
use Rattle.row.proofs.row_of.Goals as goal

pub returns-in-0 : goal.returns-in-0
unfolding row_of
returns-in-0 c = rw c.in-0.is c.fixed_row.ensures

pub returns-in-1 : goal.returns-in-1
unfolding row_of records_in
returns-in-1 c = rw c.in-1.is c.infrared_row.ensures

pub returns-in-2 : goal.returns-in-2
unfolding row_of
returns-in-2 c = rw c.in-2.is (c.infrared_row-in-2.ensures ∙ ap infrared_row c.records_in_2.ensures)

pub returns-in-11 : goal.returns-in-11
unfolding row_of
returns-in-11 c = rw c.in-11.is c.last_row.ensures

pub returns-in-3-to-10 : goal.returns-in-3-to-10
returns-in-3-to-10 c =
    let a = c.args in
    let r = c.in-3-to-10.in_default-own.rest in
    c.visible_row.ensures ∙ row_others a.block a.version a.size (omega (arith, r.0.0.0.1, r.0.0.1, r.0.1)) (omega arith)

pub returns-in_default : goal.returns-in_default
returns-in_default c =
    let a = c.args in
    let r = c.in_default.in_default-own.rest in
    c.no_row.ensures ∙ row_none a.block a.version a.size (lt_of_le-ne c.in_default.if-block-lt11-own.false (λ e. r.1 (sym e)))
