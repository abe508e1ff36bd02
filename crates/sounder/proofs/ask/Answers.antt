-- `sounder::ask` meets its contract: it goes by the refusal's number, and then by the detectors.
-- Assumes nothing.
use mathlib.Core.Path.{refl, sym, ap, ◌∙◌}
use mathlib.Core.Bool.{false}
use mathlib.Core.List.{List}
use Prim.Native.Nat.{ℕ}
use borrow.Author.Tests.{eq-eqb, ne_eqb}
use Rattle.ground.proofs.LawsChoice.{yes, no}
use Rattle.ground.proofs.LawsRefusals.{never_zero}
use Rattle.detectors.specs.Status as Detectors
use Rattle.sounder.specs.Words.{status_in}
use Rattle.sounder.specs.Judging.{Refusal, Asked, told_asked, asked_of}
use Rattle.sounder.proofs.LawsJudging.{passed_on}
use Rattle.sounder.proofs.ask.Goals as goal

pub returns-in_err-block : goal.returns-in_err-block
unfolding asked_of
returns-in_err-block c =
    let why = c.in_err-block.ensures.why in
    ap told_asked (passed_on c.from_residual.result c.from_residual.ensures.1)
    ∙ no _ refl (ne_eqb _ 0 (λ z. never_zero c.in_err-block.field-0.0.why (ap (λ (r : Refusal). r.number) why ∙ z)))
    (ap {B = Asked} (λ (r : Refusal). record { number = r.number; word = r.word; suspect = false }) why)

pub returns-in_err-ask : goal.returns-in_err-ask
unfolding asked_of
returns-in_err-ask c =
    let a = c.args in
    let ok = c.in_ok-block.ensures in
    let asked = c.in_err-ask.ensures ∙ ap (λ (s : List ℕ). Detectors.asked_of s a.channel a.detector) (c.status.ensures ∙ ap status_in ok.same) in
    ap told_asked (passed_on c.from_residual-in_err-ask.result c.from_residual-in_err-ask.ensures.1)
    ∙ yes _ refl (eq-eqb _ 0 (ap (λ (r : Refusal). r.number) (sym ok.why)))
    (λ i. record { number = (asked i).number; word = 0; suspect = (asked i).suspect })

pub returns : goal.returns
unfolding asked_of
returns c =
    let a = c.args in
    let ok = c.in_ok-block.ensures in
    let asked = c.in_ok-ask.ensures ∙ ap (λ (s : List ℕ). Detectors.asked_of s a.channel a.detector) (c.status.ensures ∙ ap status_in ok.same) in
    yes _ refl (eq-eqb _ 0 (ap (λ (r : Refusal). r.number) (sym ok.why)))
    (λ i. record { number = (asked i).number; word = 0; suspect = (asked i).suspect })
