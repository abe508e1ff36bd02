-- `begun_by` meets its contract: the header's plan, then the length, then the check word.
-- Assumes nothing.
use mathlib.Core.Path.{refl, ap, ◌∙◌}
use native.Mathlib.Omega.{arith}
use Prim.Native.Nat.{◌*◌}
use Rattle.ground.proofs.LawsRefusals.{never_zero}
use Rattle.check_rule.specs.Check.{passes}
use Rattle.copies.specs.Copies.{copy_length}
use Rattle.header.specs.Plans.{plan_of}
use Rattle.header.proofs.LawsThen.{plan_brief}
use Rattle.made.proofs.LawsMade.{part_is, header_part, short_none, no_plan, cut_none, unpassed, begun}
use Rattle.made.proofs.begun_by.Goals as goal

pub returns-then-rest-lt-COPIES_BYTES : goal.returns-then-rest-lt-COPIES_BYTES
returns-then-rest-lt-COPIES_BYTES c = short_none c.args.copy c.args.rest.now c.if-rest-lt-COPIES_BYTES.true

pub returns-in_default : goal.returns-in_default
returns-in_default c =
    let a = c.args in
    no_plan a.copy a.rest.now (c.in_default.ensures ∙ ap plan_of (header_part a.copy a.rest.now)) (never_zero c.in_default.field-0)

pub overflow_add-bytes : goal.overflow_add-bytes
overflow_add-bytes c = omega (arith, plan_brief _ c.in-Ok.ensures)

pub overflow_add-bytes-2 : goal.overflow_add-bytes-2
overflow_add-bytes-2 c = omega (arith, plan_brief _ c.in-Ok.ensures)

pub returns-then-rest-bytes : goal.returns-then-rest-bytes
returns-then-rest-bytes c =
    let a = c.args in
    cut_none a.copy a.rest.now (c.in-Ok.ensures ∙ ap plan_of (header_part a.copy a.rest.now)) refl c.if-rest-bytes.true

pub returns-then-passes : goal.returns-then-passes
returns-then-passes c =
    let a = c.args in
    begun a.copy a.rest.now (c.in-Ok.ensures ∙ ap plan_of (header_part a.copy a.rest.now)) refl
    (c.passes.ensures ∙ ap passes (part_is (a.copy * copy_length) copy_length a.rest.now)) c.if-rest-bytes.false c.if-passes.true

pub returns : goal.returns
returns c =
    let a = c.args in
    unpassed a.copy a.rest.now (c.in-Ok.ensures ∙ ap plan_of (header_part a.copy a.rest.now)) refl
    (c.passes.ensures ∙ ap passes (part_is (a.copy * copy_length) copy_length a.rest.now)) c.if-passes.false
