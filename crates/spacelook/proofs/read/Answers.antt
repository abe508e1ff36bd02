-- `spacelook::read` meets its contract: the block's ground, then 13, then the number.
-- Assumes nothing.
use mathlib.Core.Path.{sym, ap, ◌∙◌, subst}
use Prim.Native.Nat.{◌<◌, ◌≤◌}
use native.Mathlib.Omega.{arith}
use Rattle.ground.proofs.LawsRefusals.{never_zero, passed_on}
use Rattle.floating.specs.Floating.{reading_of}
use Rattle.spacelook.specs.declared.Array.{Array}
use Rattle.spacelook.specs.Found.{Read, Refused, told}
use Rattle.spacelook.specs.Arrays.{Inside, count_of}
use Rattle.spacelook.specs.Numbers.{number_at}
use Rattle.spacelook.proofs.LawsArrays.{found_inside}
use Rattle.spacelook.proofs.LawsFound.{refused, not_there, there}
use Rattle.spacelook.proofs.read.Goals as goal

pub returns-in_err-ground_of : goal.returns-in_err-ground_of
returns-in_err-ground_of c =
    let a = c.args in
    let e = c.in_err-ground_of.ensures in
    ap told (passed_on c.from_residual.result c.from_residual.ensures.1)
    ∙ ap Refused e ∙ refused a.layout a.words.now a.field a.index (λ z. never_zero c.in_err-ground_of.field-0.0 (e ∙ z))

pub returns-in_default : goal.returns-in_default
returns-in_default c =
    let a = c.args in
    not_there a.layout a.words.now a.field a.index (sym c.in_ok-ground_of.ensures) (subst (λ (r : Array). count_of r ≤ a.index) c.in_default.ensures (omega arith))

pub returns-then-count-k : goal.returns-then-count-k
returns-then-count-k c =
    let a = c.args in
    not_there a.layout a.words.now a.field a.index (sym c.in_ok-ground_of.ensures)
    (subst (λ (r : Array). count_of r ≤ a.index) c.in-Some.ensures c.if-count-k.true)

pub overflow_add-first : goal.overflow_add-first
overflow_add-first c =
    let a = c.args in
    let inside : Inside c.in-Some.field-0 = found_inside a.layout a.field a.index c.in-Some.ensures c.if-count-k.false in
    omega (arith, inside.0, inside.1)

pub word_at-requires : goal.word_at-requires
word_at-requires c =
    let a = c.args in
    let inside : Inside c.in-Some.field-0 = found_inside a.layout a.field a.index c.in-Some.ensures c.if-count-k.false in
    (sym c.in_ok-ground_of.ensures, (omega (arith, inside.0), omega (arith, inside.1)))

pub returns : goal.returns
returns c =
    let a = c.args in
    ap Read (c.read.ensures ∙ ap reading_of c.word_at.ensures ∙ ap (λ (r : Array). number_at a.words.now r a.index) c.in-Some.ensures)
    ∙ there a.layout a.words.now a.field a.index (sym c.in_ok-ground_of.ensures)
    (subst (λ (r : Array). a.index < count_of r) c.in-Some.ensures c.if-count-k.false)
