-- `sounder::accepted` meets its contract, part by part.
-- Assumes nothing.
use mathlib.Core.Path.{ap, ◌∙◌}
use Rattle.detectors.specs.Status.{suspects_of}
use Rattle.sounder.proofs.accepted.Goals as goal

pub returns : goal.returns
returns c =
    let same = c.suspects_of-found.ensures ∙ ap suspects_of c.status.ensures in
    λ i.
    record {
      number = 0;
      word = 0;
      suspects = (same i).count;
      first = (same i).first;
      raw = c.number_at.ensures i;
      blocks = c.number_at-2.ensures i;
      frame = c.frame_of.ensures i;
      tags = c.tags.ensures i;
    }
