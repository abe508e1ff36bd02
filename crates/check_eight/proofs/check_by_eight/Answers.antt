-- `check_eight::check_by_eight` meets its contract: before the first byte the register has all its bits set.
-- Assumes nothing.
use mathlib.Core.Path.{◌∙◌}
use Rattle.check_eight.proofs.LawsEight.{starts, checks}
use Rattle.check_eight.proofs.check_by_eight.Goals as goal

pub returns : goal.returns
returns c =
    let s = c.args.message.now in
    c.check_from.ensures ∙ checks s 0 33999 (starts s)
