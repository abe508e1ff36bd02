-- `time::count::counted` counts days, hours, minutes, seconds and milliseconds as the definition does; no sum is too large.
-- Assumes nothing.
use borrow.Author.Rules.{rules}
use Rattle.time.specs.Times.{count_of}
use Rattle.time.proofs.count.counted.Goals as goal

pub returns : goal.returns
unfolding count_of
returns c = search rules
