-- The line fits its room, so that it is put whole.
use Rattle.std.proofs.Common.{arith, replicate, ◌∙◌}
use Rattle.report.specs.Texts.{last_text}
use Rattle.report.proofs.LawsTexts.{last_fits, whole}
use Rattle.salvage.proofs.write_last.Goals as goal

pub write_text-requires-clause-end_nonzero : goal.write_text-requires-clause-end_nonzero
write_text-requires-clause-end_nonzero c =
    let fits = last_fits c.args.blocks (omega arith) in
    omega (arith, c.put_last-end.ensures.value ∙ whole (replicate 54 0) (last_text c.args.blocks) fits, fits)
