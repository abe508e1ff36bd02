-- `number_of` goes by the id, as its definition does.
-- Assumes nothing.
use mathlib.Core.Path.{refl, ap}
use mathlib.Core.Bool.{Bool, ◌&&◌}
use native.Mathlib.Omega.{arith}
use lib.Dec.{leb}
use borrow.Author.Tests.{le-leb, lt-leb, ne_eqb}
use Rattle.ground.proofs.LawsChoice.{yes, no}
use Rattle.ground.proofs.LawsTests.{both, not_second}
use Rattle.row.specs.Rows.{last_block}
use Rattle.header.specs.Says.{number_of}
use Rattle.header.proofs.says.number_of.Goals as goal

pub returns-in-240 : goal.returns-in-240
unfolding number_of
returns-in-240 c = rw c.in-240.is

pub returns-in-1-to-11 : goal.returns-in-1-to-11
unfolding number_of
returns-in-1-to-11 c =
    let id = c.args.id in
    no _ refl (ne_eqb id 240 c.in-1-to-11.in_default-own.rest.1) (yes _ refl (both (le-leb 1 id (omega arith)) (le-leb id last_block (omega arith))) refl)

pub returns-in_default : goal.returns-in_default
unfolding number_of
returns-in_default c =
    let id = c.args.id in
    no _ refl (ne_eqb id 240 c.in_default.in_default-own.rest.1) (no _ refl (ap (λ (t : Bool). t && leb id last_block) (lt-leb 1 id (omega arith))) refl)

pub returns-in_default-2 : goal.returns-in_default-2
unfolding number_of
returns-in_default-2 c =
    let id = c.args.id in
    no _ refl (ne_eqb id 240 c.in_default.in_default-own.rest.1) (no _ refl (not_second (leb 1 id) (lt-leb id last_block (omega arith))) refl)
