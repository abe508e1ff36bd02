-- `block::read_by` meets its contract: a return for the header, one for the field, and one for the words taken.
-- Assumes nothing.
use mathlib.Core.Path.{refl, ap, ◌∙◌}
use Rattle.ground.proofs.LawsRefusals.{never_zero, passed_on}
use Rattle.header.proofs.LawsThen.{plan_brief}
use Rattle.block.specs.Answers.{told_by}
use Rattle.block.proofs.LawsReader.{header_refused, field_refused, field_held, field_read}
use Rattle.block.proofs.read_by.Goals as goal

pub returns-in_err-plan : goal.returns-in_err-plan
returns-in_err-plan c =
    let a = c.args in
    let both = header_refused a.header.now a.block.now a.room.now c.in_err-plan.ensures (never_zero c.in_err-plan.field-0.0) in
    record { value = ap told_by (passed_on c.from_residual.result c.from_residual.ensures.1) ∙ both.0; room_after = both.1 }

pub test-requires : goal.test-requires
test-requires c = plan_brief _ c.in_ok-plan.ensures

pub returns-in_err-test : goal.returns-in_err-test
returns-in_err-test c =
    let a = c.args in
    let both = field_refused a.header.now a.block.now a.room.now c.in_ok-plan.ensures refl c.in_err-test.ensures (never_zero c.in_err-test.field-0.0) in
    record { value = ap told_by (passed_on c.from_residual-in_err-test.result c.from_residual-in_err-test.ensures.1) ∙ both.0; room_after = both.1 }

pub take-requires : goal.take-requires
take-requires c =
    let a = c.args in
    let both = field_held a.header.now a.block.now a.room.now c.in_ok-plan.ensures refl c.in_ok-test.ensures refl in
    record { held = both.0; block_len = both.1.0; words_in_bounds = both.1.1 }

pub returns : goal.returns
returns c =
    let a = c.args in
    let both = field_read a.header.now a.block.now a.room.now c.in_ok-plan.ensures refl c.in_ok-test.ensures refl c.take.ensures in
    record { value = both.0; room_after = both.1 }
