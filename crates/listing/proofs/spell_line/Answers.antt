-- `listing::spell_line` meets its contract: a line has its numbers where its answer is 0.
-- Assumes nothing.
use mathlib.Core.Path.{refl}
use borrow.Author.Tests.{eq-eqb, ne_eqb}
use Rattle.ground.proofs.LawsChoice.{yes, no}
use Rattle.listing.specs.Texts.{line_text}
use Rattle.text.proofs.LawsPut.{as_text}
use Rattle.listing.proofs.spell_line.Goals as goal

pub returns-then-line-eq-ACCEPTED : goal.returns-then-line-eq-ACCEPTED
unfolding line_text
returns-then-line-eq-ACCEPTED c =
    let a = c.args in
    let text = yes _ refl (eq-eqb a.line.answer 0 c.if-line-eq-ACCEPTED.true) refl in
    let p = as_text (record { says = c.spell_block.ensures.text_after; ends = c.spell_block.ensures.value }) text in record { value = p.ends; upper_bound = c.spell_block.ensures.upper_bound; text_after = p.says }

pub returns : goal.returns
unfolding line_text
returns c =
    let a = c.args in
    let text = no _ refl (ne_eqb a.line.answer 0 c.if-line-eq-ACCEPTED.false) refl in
    let p = as_text (record { says = c.spell_refusal.ensures.text_after; ends = c.spell_refusal.ensures.value }) text in record { value = p.ends; upper_bound = c.spell_refusal.ensures.upper_bound; text_after = p.says }
