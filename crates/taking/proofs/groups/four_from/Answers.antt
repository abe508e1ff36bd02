-- `taking::groups::four_from` meets its contract: four words lie in the front of eight bytes.
-- Assumes nothing.
use mathlib.Core.Path.{ap, ◌∙◌}
use native.Mathlib.Omega.{arith}
use lib.ListN.{drop, length-drop}
use Rattle.bits.specs.Bits.{words}
use Rattle.bits.proofs.LawsGroups.{words_within}
use Rattle.taking.proofs.groups.four_from.Goals as goal

pub returns : goal.returns
returns c =
    let size = c.args.source.size in
    c.four_of.ensures ∙ ap (words size 4) c.eight_from.ensures
    ∙ words_within size 4 8 (drop c.args.at c.args.source.field.now) (omega (arith, c.args.source.le_size))
    (omega (arith, c.requires.at_in_bounds, length-drop c.args.at c.args.source.field.now))
