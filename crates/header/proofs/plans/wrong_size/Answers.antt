-- `wrong_size` compares the size with that of the row.
-- Assumes nothing.
use Rattle.header.proofs.plans.wrong_size.Goals as goal

pub returns : goal.returns
returns c = cc
