-- The line fits its room, so that it is put whole.
use Rattle.std.proofs.Common.{arith, replicate, ◌∙◌}
use Rattle.listing.specs.Texts.{line_text}
use Rattle.list.proofs.LawsFit.{whole, line_fits}
use Rattle.list.proofs.write_line.Goals as goal

pub write_text-requires-clause-end_nonzero : goal.write_text-requires-clause-end_nonzero
write_text-requires-clause-end_nonzero c =
    let fits = line_fits c.args.line (omega arith, (omega arith, (omega arith, (omega arith, omega arith)))) in
    omega (arith, c.put_line-end.ensures.value ∙ whole (replicate 105 0) (line_text c.args.line) fits, fits)
