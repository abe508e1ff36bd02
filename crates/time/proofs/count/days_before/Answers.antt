-- `time::count::days_before` computes the quick formula, which is the count year by year.
-- Assumes nothing.
use Rattle.time.proofs.LawsYears.{quick}
use Rattle.time.proofs.count.days_before.Goals as goal

pub returns : goal.returns
returns c = quick c.args.year
