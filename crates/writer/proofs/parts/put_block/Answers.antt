-- `writer::parts::put_block` meets its contract: the field refuses or is put; then the copies and the check word around it.
-- Assumes nothing.
use mathlib.Core.Path.{ap, ◌∙◌}
use native.Mathlib.Omega.{arith}
use Rattle.ground.specs.Refusals.{number_in}
use Rattle.ground.proofs.LawsRefusals.{never_zero, passed_on}
use Rattle.writer.proofs.LawsParts.{refused, accepted}
use Rattle.writer.proofs.parts.put_block.Goals as goal

pub returns-in_err-put_field : goal.returns-in_err-put_field
returns-in_err-put_field c =
    let both = refused c.args.header.now c.args.words.now c.args.room.now c.args.size c.args.bytes c.requires.held c.requires.bytes_in_bounds
    c.in_err-put_field.ensures.value (never_zero c.in_err-put_field.field-0.0) c.in_err-put_field.ensures.room_after in record { value = ap number_in (passed_on c.from_residual.result c.from_residual.ensures.1) ∙ both.0; room_after = both.1 }

pub returns : goal.returns
returns c =
    let both = accepted c.args.header.now c.args.words.now c.args.room.now c.args.size c.args.bytes c.requires.held c.requires.bytes_in_bounds (omega arith)
    c.in_ok-put_field.ensures.value c.in_ok-put_field.ensures.room_after
    c.put_copies.ensures c.put_check.ensures in record { value = both.0; room_after = both.1 }
