-- `plan_of` refuses on the first ground that holds, and else makes the plan.
-- Assumes nothing.
use mathlib.Core.Path.{sym, ap, ◌∙◌}
use Prim.Native.Nat.{ℕ}
use mathlib.Core.List.{List}
use native.Mathlib.Omega.{arith}
use Rattle.ground.specs.Grounds.{first_of}
use Rattle.ground.proofs.LawsGrounds.{accepts, refuses}
use Rattle.ground.proofs.LawsRefusals.{never_zero, passed_on}
use Rattle.header.specs.Plans.{header_grounds, granted_plan, refused_plan, plan_of, told}
use Rattle.header.proofs.LawsPlans.{short_first, long_first}
use Rattle.header.proofs.plan_of.Goals as goal

pub returns-in_default : goal.returns-in_default
unfolding plan_of
returns-in_default c =
    let h = c.args.header.now in
    refuses (granted_plan h) refused_plan (short_first h c.in_default.ensures.1) (λ z. omega arith)

pub returns-in_err-test : goal.returns-in_err-test
unfolding plan_of
returns-in_err-test c =
    let h = c.args.header.now in
    let k = c.in-Ok.ensures.1 in
    ap told (passed_on c.from_residual.result c.from_residual.ensures.1)
    ∙ refuses (granted_plan h) refused_plan
    (long_first h k.long ∙ sym (c.in_err-test.ensures ∙ ap (λ (x : List ℕ). first_of (header_grounds x)) k.same)) (never_zero c.in_err-test.field-0.0)

pub granted-requires : goal.granted-requires
granted-requires c = sym c.in_ok-test.ensures

pub returns : goal.returns
unfolding plan_of
returns c =
    let h = c.args.header.now in
    let k = c.in-Ok.ensures.1 in
    c.granted.ensures ∙ ap granted_plan k.same
    ∙ accepts (granted_plan h) refused_plan (long_first h k.long ∙ sym (c.in_ok-test.ensures ∙ ap (λ (x : List ℕ). first_of (header_grounds x)) k.same))
