-- `granted` makes the plan of what the header says. No ground refuses it, so the extra words can be taken off.
-- Assumes nothing.
use mathlib.Core.Path.{refl}
use native.Mathlib.Omega.{arith}
use Rattle.ground.proofs.LawsGrounds.{first_none}
use Rattle.header.specs.Plans.{header_grounds}
use Rattle.header.proofs.LawsPlans.{clear}
use Rattle.header.proofs.plans.granted.Goals as goal

pub overflow_sub-words : goal.overflow_sub-words
overflow_sub-words c = omega (arith, (clear c.args.header.now (first_none (header_grounds c.args.header.now) refl c.requires)).enough, c.count_in.ensures)

pub returns : goal.returns
returns c = cc
