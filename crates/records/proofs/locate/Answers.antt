-- `records::locate` meets its contract: a return for each ground in its order, and one for the record found.
-- Assumes nothing.
use mathlib.Core.Path.{refl, ap, ◌∙◌}
use native.Mathlib.Omega.{arith}
use Rattle.ground.proofs.LawsRefusals.{never_zero, passed_on}
use Rattle.records.specs.Records.{told}
use Rattle.records.proofs.LawsRecords.{header_refused, record_refused, words_refused, bounds, found, start_inside}
use Rattle.records.proofs.locate.Goals as goal

pub returns-in_err-plan : goal.returns-in_err-plan
returns-in_err-plan c =
    let a = c.args in
    ap told (passed_on c.from_residual.result c.from_residual.ensures.1)
    ∙ header_refused a.header.now a.k a.words c.in_err-plan.ensures (never_zero c.in_err-plan.field-0.0)

pub returns-then-k-plan : goal.returns-then-k-plan
returns-then-k-plan c = let a = c.args in record_refused a.header.now a.k a.words c.in_ok-plan.ensures refl c.if-k-plan.true

pub returns-then-words-plan : goal.returns-then-words-plan
returns-then-words-plan c = let a = c.args in words_refused a.header.now a.k a.words c.in_ok-plan.ensures refl c.if-k-plan.false c.if-words-plan.true

pub nonzero_div-length : goal.nonzero_div-length
nonzero_div-length c = let a = c.args in omega (arith, bounds a.header.now a.k a.words c.in_ok-plan.ensures refl c.if-k-plan.false)

pub overflow_sub-start : goal.overflow_sub-start
overflow_sub-start c = let a = c.args in (bounds a.header.now a.k a.words c.in_ok-plan.ensures refl c.if-k-plan.false).0

pub overflow_mul-start : goal.overflow_mul-start
overflow_mul-start c = let a = c.args in omega (arith, start_inside a.header.now a.k a.words c.in_ok-plan.ensures refl c.if-k-plan.false c.if-words-plan.false)

pub returns : goal.returns
returns c = let a = c.args in found a.header.now a.k a.words c.in_ok-plan.ensures refl c.if-k-plan.false c.if-words-plan.false
