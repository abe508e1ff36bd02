-- `placement::group_of` goes by the version, as its definition does.
-- Assumes nothing.
use mathlib.Core.Path.{refl}
use native.Mathlib.Omega.{arith}
use lib.Dec.{lit<}
use borrow.Author.Tests.{lt-ltb, le-ltb}
use Rattle.ground.proofs.LawsChoice.{yes, no}
use Rattle.placement.specs.Placement.{group_of}
use Rattle.placement.proofs.group_of.Goals as goal

pub returns-in-2 : goal.returns-in-2
unfolding group_of
returns-in-2 c = (rw c.in-2.is, lit< tt)

pub returns-in-0 : goal.returns-in-0
unfolding group_of
returns-in-0 c = let v = c.args.version in (yes _ refl (lt-ltb v 2 (omega arith)) refl, lit< tt)

pub returns-in_default : goal.returns-in_default
unfolding group_of
returns-in_default c = let v = c.args.version in (no _ refl (le-ltb v 2 (omega arith)) (no _ refl (le-ltb v 3 (omega arith)) refl), lit< tt)
