-- The line fits its room, so that it is put whole.
use Rattle.std.proofs.Common.{arith, replicate, ◌∙◌}
use Rattle.report.specs.Texts.{entry_text}
use Rattle.report.proofs.LawsTexts.{entry_fits, whole}
use Rattle.salvage.proofs.write_entry.Goals as goal

pub write_text-requires-clause-end_nonzero : goal.write_text-requires-clause-end_nonzero
write_text-requires-clause-end_nonzero c =
    let a = c.args in
    let fits = entry_fits a.start a.bytes a.found (omega arith) (omega arith) in
    omega (arith, c.put_entry-end.ensures.value ∙ whole (replicate 54 0) (entry_text a.start a.bytes a.found) fits, fits)
