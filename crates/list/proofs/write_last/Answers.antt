-- The line fits its room, so that it is put whole.
use Rattle.std.proofs.Common.{arith, replicate, ◌∙◌}
use Rattle.listing.specs.Texts.{last_text}
use Rattle.list.proofs.LawsFit.{whole, last_fits}
use Rattle.list.proofs.write_last.Goals as goal

pub write_text-requires-clause-end_nonzero : goal.write_text-requires-clause-end_nonzero
write_text-requires-clause-end_nonzero c =
    let fits = last_fits c.args.cut c.args.fields (omega arith) in
    omega (arith, c.put_last-end.ensures.value ∙ whole (replicate 105 0) (last_text c.args.cut c.args.fields) fits, fits)
