-- `block::read` meets its contract: a return for the copies, and two for what is behind them, read by the common header.
-- Assumes nothing.
use mathlib.Core.Path.{refl, ap, ◌∙◌}
use Rattle.ground.proofs.LawsRefusals.{never_zero, passed_on}
use Rattle.block.specs.Answers.{told}
use Rattle.block.proofs.LawsReader.{copies_refused, rest_refused, whole_read}
use Rattle.block.proofs.read.Goals as goal

pub returns-in_err-common : goal.returns-in_err-common
returns-in_err-common c =
    let a = c.args in
    let both = copies_refused a.block.now a.room.now c.in_err-common.ensures (never_zero c.in_err-common.field-0.0) in
    record { value = ap told (passed_on c.from_residual.result c.from_residual.ensures.1) ∙ both.0; room_after = both.1 }

pub returns-in_err-words : goal.returns-in_err-words
returns-in_err-words c =
    let a = c.args in
    let both = rest_refused a.block.now a.room.now c.in_ok-common.ensures refl c.in_err-words.ensures.value c.read_by.ensures.room_after (never_zero c.in_err-words.field-0.0) in
    record { value = ap told (passed_on c.from_residual-in_err-words.result c.from_residual-in_err-words.ensures.1) ∙ both.0; room_after = both.1 }

pub returns : goal.returns
returns c =
    let a = c.args in
    let both = whole_read a.block.now a.room.now c.in_ok-common.ensures refl c.in_ok-words.ensures.value c.read_by.ensures.room_after refl in
    record { value = both.0; room_after = both.1 }
