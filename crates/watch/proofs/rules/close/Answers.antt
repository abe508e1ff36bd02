-- `watch::rules::close` hands over the set and its count, and goes on by the block.
-- Assumes nothing.
use mathlib.Core.Path.{ap, ◌∙◌}
use lib.Count.{ones}
use Rattle.watch.proofs.rules.close.Goals as goal
use Rattle.watch.specs.Verdicts.{Closed}

pub returns : goal.returns
returns c =
    λ i. record {
      next = c.after_closing-next.ensures i;
      verdict = Closed c.args.why (c.handed-set.ensures i) ((c.count-count.ensures ∙ ap ones c.handed-set.ensures) i);
    }
