-- `sounder::judge` meets its contract: it goes by the refusal's number.
-- Assumes nothing.
use mathlib.Core.Path.{refl, sym, ap, ◌∙◌}
use borrow.Author.Tests.{eq-eqb, ne_eqb}
use Rattle.ground.proofs.LawsChoice.{yes, no}
use Rattle.ground.proofs.LawsRefusals.{never_zero}
use Rattle.sounder.specs.Judging.{Refusal, accepted_as, refused_as, told_status, status_of}
use Rattle.sounder.proofs.LawsJudging.{passed_on}
use Rattle.sounder.proofs.judge.Goals as goal

pub returns-in_err-block : goal.returns-in_err-block
unfolding status_of
returns-in_err-block c =
    let why = c.in_err-block.ensures.why in
    ap told_status (passed_on c.from_residual.result c.from_residual.ensures.1)
    ∙ no _ refl (ne_eqb _ 0 (λ z. never_zero c.in_err-block.field-0.0.why (ap (λ (r : Refusal). r.number) why ∙ z))) (ap refused_as why)

pub returns : goal.returns
unfolding status_of
returns c =
    let ok = c.in_ok-block.ensures in
    yes _ refl (eq-eqb _ 0 (ap (λ (r : Refusal). r.number) (sym ok.why))) (c.accepted.ensures ∙ ap (accepted_as c.args.leaps.now) ok.same)
