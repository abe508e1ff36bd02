-- `c_recording::number_of` meets its contract: each branch knows its test.
-- Assumes nothing.
use borrow.Author.Tests.{eq-eqb, ne_eqb}
use Rattle.c_recording.proofs.number_of.Goals as goal

pub returns-then-bytes-eq0 : goal.returns-then-bytes-eq0
returns-then-bytes-eq0 c = rw (eq-eqb c.args.bytes 0 c.if-bytes-eq0.true) c.number.ensures

pub returns : goal.returns
returns c = rw (ne_eqb c.args.bytes 0 c.if-bytes-eq0.false)
