-- `sounder::tested` meets its contract: its tests are those of the definition, in their order.
-- Assumes nothing.
use mathlib.Core.Path.{sym, ap, ◌∙◌}
use native.Mathlib.Omega.{arith}
use Rattle.ground.proofs.LawsRefusals.{never_zero}
use Rattle.detectors.specs.Status.{spare_zero}
use Rattle.sounder.specs.Frame.{first_out}
use Rattle.sounder.specs.Judging.{fault_in, refusal_in}
use Rattle.sounder.proofs.LawsJudging.{passed_on, bad_words, spare_set, field_out, bad_list, none}
use Rattle.sounder.proofs.tested.Goals as goal

pub returns-in_err-ground_of-clause-why : goal.returns-in_err-ground_of-clause-why
returns-in_err-ground_of-clause-why c =
    ap fault_in (passed_on c.from_residual.result c.from_residual.ensures.1)
    ∙ bad_words _ _ c.in_err-ground_of.ensures (never_zero c.in_err-ground_of.field-0.0)

pub returns-then-not-spare_is_zero-clause-why : goal.returns-then-not-spare_is_zero-clause-why
returns-then-not-spare_is_zero-clause-why c =
    let zero = ap spare_zero (sym c.status.ensures) ∙ sym c.spare_is_zero.ensures ∙ c.if-not-spare_is_zero.true in
    ap refusal_in c.from.ensures ∙ spare_set _ _ (sym c.in_ok-ground_of.ensures) zero

pub returns-in-Some-clause-why : goal.returns-in-Some-clause-why
returns-in-Some-clause-why c =
    let zero = ap spare_zero (sym c.status.ensures) ∙ sym c.spare_is_zero.ensures ∙ c.if-not-spare_is_zero.false in
    field_out _ _ (sym c.in_ok-ground_of.ensures) zero (c.in-Some.ensures.0 ∙ ap first_out c.frame_of.ensures) (λ z. omega (arith, c.in-Some.ensures.1))

pub returns-then-not-is_good_list-clause-why : goal.returns-then-not-is_good_list-clause-why
returns-then-not-is_good_list-clause-why c =
    let zero = ap spare_zero (sym c.status.ensures) ∙ sym c.spare_is_zero.ensures ∙ c.if-not-spare_is_zero.false in
    let inside = ap first_out (sym c.frame_of.ensures) ∙ sym c.in_default.ensures.0 in
    ap refusal_in c.from-then-not-is_good_list.ensures
    ∙ bad_list _ _ (sym c.in_ok-ground_of.ensures) zero inside (sym c.is_good_list.ensures ∙ c.if-not-is_good_list.true)

pub returns-clause-why : goal.returns-clause-why
returns-clause-why c =
    let zero = ap spare_zero (sym c.status.ensures) ∙ sym c.spare_is_zero.ensures ∙ c.if-not-spare_is_zero.false in
    let inside = ap first_out (sym c.frame_of.ensures) ∙ sym c.in_default.ensures.0 in
    none _ _ (sym c.in_ok-ground_of.ensures) zero inside (sym c.is_good_list.ensures ∙ c.if-not-is_good_list.false)
