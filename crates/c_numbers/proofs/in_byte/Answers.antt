-- `c_numbers::in_byte` meets its contract: where the number does not fit, the largest that does.
-- Assumes nothing.
use mathlib.Core.Path.{◌∙◌}
use Rattle.c_numbers.proofs.LawsNumbers.{tried}
use Rattle.c_numbers.proofs.in_byte.Goals as goal

pub returns : goal.returns
returns c = c.unwrap_or.ensures ∙ tried 255 c.args.n c.try_from.result c.try_from.ensures
