-- `recording::line_of` meets its contract: a return for a line, and one for a refusal.
-- Assumes nothing.
use mathlib.Core.Path.{ap, ◌∙◌}
use Rattle.recording.specs.Lines.{refused_line}
use Rattle.recording.proofs.LawsLines.{of_field}
use Rattle.recording.proofs.line_of.Goals as goal

pub returns-in-Ok : goal.returns-in-Ok
returns-in-Ok c =
    let a = c.args in
    let both = of_field a.before a.tag a.body.now a.room.now c.seq_after-seq.ensures (c.in-Ok.ensures.value c.seq_after-seq.result, c.in-Ok.ensures.room_after) in record { value = both.0; room_after = both.1 }

pub returns-in-Err : goal.returns-in-Err
returns-in-Err c =
    let a = c.args in
    let seq = c.seq_after-seq.result in
    let both = of_field a.before a.tag a.body.now a.room.now c.seq_after-seq.ensures (ap (refused_line seq) c.number.ensures ∙ c.in-Err.ensures.value seq, c.in-Err.ensures.room_after) in record { value = both.0; room_after = both.1 }
