-- `c_salvage::rahmisve_salvage` meets its contract: what the salvage answers, number by number, and leaves.
-- Assumes nothing.
use mathlib.Core.Path.{ap, ◌∙◌}
use Rattle.salvaging.specs.Answers.{refused_salvaged}
use Rattle.c_salvage.proofs.rahmisve_salvage.Goals as goal

pub returns-in-Ok : goal.returns-in-Ok
returns-in-Ok c =
    let e = c.in-Ok.ensures in record { blocks_after = e.value; recording_after = e.recording_after; report_after = e.report_after; scratch_after = e.scratch_after }

pub returns-in-Err : goal.returns-in-Err
returns-in-Err c =
    let e = c.in-Err.ensures in record { blocks_after = ap refused_salvaged c.number.ensures ∙ e.value; recording_after = e.recording_after; report_after = e.report_after; scratch_after = e.scratch_after }
