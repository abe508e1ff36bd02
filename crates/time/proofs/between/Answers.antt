-- `time::between` subtracts two counts below 2 ^ 62, so the difference is exact.
-- Assumes nothing.
use mathlib.Core.Path.{◌∙◌}
use Rattle.time.proofs.LawsTimes.{fits, exact}
use Rattle.time.proofs.between.Goals as goal

pub overflow_sub-result : goal.overflow_sub-result
overflow_sub-result c = fits c.milliseconds-end.result c.milliseconds-start.result c.milliseconds-end.ensures.1 c.milliseconds-start.ensures.1

pub returns : goal.returns
returns c = exact c.milliseconds-end.result c.milliseconds-start.result c.milliseconds-end.ensures.1 c.milliseconds-start.ensures.1 ∙ cc
