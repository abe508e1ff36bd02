-- `detectors::place_at` meets its contract.
-- Assumes nothing.
use mathlib.Core.Path.{refl}
use borrow.Author.Tests.{lt-ltb, le-ltb}
use Rattle.ground.proofs.LawsChoice.{yes, no}
use Rattle.detectors.specs.Status.{place_at}
use Rattle.detectors.proofs.place_at.Goals as goal

pub returns-then-before : goal.returns-then-before
unfolding place_at
returns-then-before c = no _ refl (le-ltb c.args.before 76 c.if-before.true) refl

pub returns : goal.returns
unfolding place_at
returns c = yes _ refl (lt-ltb c.args.before 76 c.if-before.false) refl
