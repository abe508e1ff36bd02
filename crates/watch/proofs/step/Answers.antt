-- `watch::step` refuses by the number, of the lent record and then of the offer, and goes to the rules where neither is refused: then an open
-- watch's expected block and set are in bounds, and the list is one.
-- Assumes nothing.
use mathlib.Core.Path.{◌≡◌, ap, sym, ◌∙◌}
use Prim.Native.Nat.{ℕ}
use lib.Dec.{eqb}
use Rattle.ground.specs.Choice.{pick}
use Rattle.ground.proofs.LawsGrounds.{accepts, refuses}
use Rattle.ground.proofs.LawsRefusals.{never_zero, passed_on}
use Rattle.ground.proofs.LawsTests.{never}
use Rattle.calendar.proofs.LawsLists.{short}
use Rattle.tag.specs.Tags.{told_tag, tag_of}
use Rattle.tag.specs.declared.Tag.{Tag}
use Rattle.tag.proofs.LawsTags.{was_good, was_bad, judged}
use Rattle.watch.specs.Verdicts.{Refused}
use Rattle.watch.specs.Rules.{Stepped, told_step, on_good, step_of}
use Rattle.watch_bounds.specs.declared.Watch.{Watch}
use Rattle.watch_bounds.proofs.LawsBounds.{accepted_for, to_ten, lent_number, offered_number}
use Rattle.watch_bounds.proofs.KeepsNumbers.{under}
use Rattle.watch.proofs.LawsSteps.{stepped}
use Rattle.watch.proofs.step.Goals as goal

-- a refused record comes back with its number
by_number : (w : Watch) (good : Stepped) {n m : ℕ} → n ≡ m → (n ≡ 0 → ⊥) → stepped w (Refused n) ≡ pick (eqb m 0) good (stepped w (Refused m))
by_number w good e h = refuses good (λ (n : ℕ). stepped w (Refused n)) (sym e) h

pub returns-in_err-lent : goal.returns-in_err-lent
unfolding step_of
returns-in_err-lent c =
    let a = c.args in
    let refused = never_zero c.in_err-lent.field-0.0 in
    ap (told_step a.w) (passed_on c.from_residual.result c.from_residual.ensures.1)
    ∙ by_number a.w (on_good a.leaps.now a.w a.block a.valid (tag_of a.tag.now)) (lent_number a.leaps.now a.w a.block a.tag.now c.in_err-lent.ensures refused) refused

pub returns-in_err-offered : goal.returns-in_err-offered
unfolding step_of
returns-in_err-offered c =
    let a = c.args in
    let good = c.is_ok.ensures.value ∙ judged a.leaps.now a.tag.now c.read_by-read.result c.read_by-read.ensures in
    ap (told_step a.w) (passed_on c.from_residual-in_err-offered.result c.from_residual-in_err-offered.ensures.1)
    ∙ by_number a.w (on_good a.leaps.now a.w a.block a.valid (tag_of a.tag.now))
    (offered_number a.leaps.now a.w a.block a.tag.now c.in_ok-lent.ensures c.in_err-offered.ensures good) (never_zero c.in_err-offered.field-0.0)

-- a bad tag was refused before
pub returns-in_err-t : goal.returns-in_err-t
returns-in_err-t c =
    let a = c.args in
    let good = c.is_ok.ensures.value ∙ judged a.leaps.now a.tag.now c.read_by-read.result c.read_by-read.ensures in
    let passed =
    accepted_for a.leaps.now a.w a.block a.tag.now (sym (offered_number a.leaps.now a.w a.block a.tag.now c.in_ok-lent.ensures c.in_ok-offered.ensures good)) in
    never (sym (was_bad a.leaps.now a.tag.now c.in_err-t.field-0.0 (ap told_tag (sym c.in_err-t.was) ∙ c.read_by-read.ensures)).0 ∙ passed.tag)

pub on_good-requires : goal.on_good-requires
on_good-requires c =
    let a = c.args in
    let good = c.is_ok.ensures.value ∙ judged a.leaps.now a.tag.now c.read_by-read.result c.read_by-read.ensures in
    let passed =
    accepted_for a.leaps.now a.w a.block a.tag.now (sym (offered_number a.leaps.now a.w a.block a.tag.now c.in_ok-lent.ensures c.in_ok-offered.ensures good)) in
    (λ o. (to_ten a.w passed.expected o, under a.w passed.fill o), short a.leaps.now passed.list)

pub returns : goal.returns
unfolding step_of
returns c =
    let a = c.args in
    let good = c.is_ok.ensures.value ∙ judged a.leaps.now a.tag.now c.read_by-read.result c.read_by-read.ensures in
    c.on_good.ensures
    ∙ ap (λ (t : Tag). on_good a.leaps.now a.w a.block a.valid t) (was_good a.leaps.now a.tag.now c.in_ok-t.t (ap told_tag (sym c.in_ok-t.was) ∙ c.read_by-read.ensures)).1
    ∙ accepts (on_good a.leaps.now a.w a.block a.valid (tag_of a.tag.now)) (λ (n : ℕ). stepped a.w (Refused n))
    (sym (offered_number a.leaps.now a.w a.block a.tag.now c.in_ok-lent.ensures c.in_ok-offered.ensures good))
