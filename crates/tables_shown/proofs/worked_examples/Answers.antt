-- What `expect` requires of each segment: what `parity_of` ensures of it, computed.
use Rattle.std.proofs.Common.{eq-eqb}
use Rattle.parity.specs.Sections.{xor_of}
use Rattle.tables_shown.proofs.worked_examples.Goals as goal

pub expect-requires : goal.expect-requires
unfolding xor_of
expect-requires c = eq-eqb c.parity_of.result 0b00111100 c.parity_of.ensures

pub expect-requires-2 : goal.expect-requires-2
unfolding xor_of
expect-requires-2 c = eq-eqb c.parity_of-2.result 0b1010100101 c.parity_of-2.ensures
