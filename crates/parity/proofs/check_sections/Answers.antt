-- `parity::check_sections` meets its contract: a refusal is that of `ground_of`, and past it the block has 8,040 words.
-- Assumes nothing.
use mathlib.Core.Path.{sym, ap, ◌∙◌}
use Rattle.ground.proofs.LawsRefusals.{never_zero, passed_on}
use Rattle.parity.specs.Sections.{refused_by, told}
use Rattle.parity.proofs.LawsSections.{accepts, refuses}
use Rattle.parity.proofs.LawsWords.{right_length}
use Rattle.parity.proofs.check_sections.Goals as goal

pub returns-in_err-ground_of : goal.returns-in_err-ground_of
returns-in_err-ground_of c =
    let e = c.in_err-ground_of.ensures in
    ap told (passed_on c.from_residual.result c.from_residual.ensures.1)
    ∙ ap refused_by e ∙ sym (refuses c.args.layout c.args.words.now (λ z. never_zero c.in_err-ground_of.field-0.0 (e ∙ z)))

pub judge-requires : goal.judge-requires
judge-requires c = right_length _ (sym c.in_ok-ground_of.ensures)

pub returns : goal.returns
returns c = c.judge.ensures ∙ accepts _ _ (sym c.in_ok-ground_of.ensures)
