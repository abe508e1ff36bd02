-- `row_in` asks for the row of what the header says.
-- Assumes nothing.
use Rattle.header.proofs.says.row_in.Goals as goal

pub returns : goal.returns
returns c = cc
