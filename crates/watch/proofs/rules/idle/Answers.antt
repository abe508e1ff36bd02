-- `watch::rules::idle` is the definition's record: what it calls is the zero tag.
-- Assumes nothing.
use Rattle.watch.proofs.rules.idle.Goals as goal

pub returns : goal.returns
returns c = cc
