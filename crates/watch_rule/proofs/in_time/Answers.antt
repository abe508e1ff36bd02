-- `watch_rule::in_time` asks for the expected block, then for the last one: each return is what the definition picks there.
-- Assumes nothing.
use mathlib.Core.Path.{refl, ap}
use mathlib.Core.Bool.{not}
use borrow.Author.Tests.{eq-eqb, ne_eqb}
use Rattle.ground.proofs.LawsChoice.{yes, no}
use Rattle.watch_rule.specs.Rules.{in_time}
use Rattle.watch_rule.proofs.in_time.Goals as goal

pub returns-then-block-expected : goal.returns-then-block-expected
unfolding in_time
returns-then-block-expected c = yes _ refl (ap not (ne_eqb _ _ c.if-block-expected.true)) refl

pub returns-then-block-eq-LAST_OF_SCAN : goal.returns-then-block-eq-LAST_OF_SCAN
unfolding in_time
returns-then-block-eq-LAST_OF_SCAN c = no _ refl (ap not (eq-eqb _ _ c.if-block-expected.false)) (yes _ refl (eq-eqb _ 10 c.if-block-eq-LAST_OF_SCAN.true) refl)

pub returns : goal.returns
unfolding in_time
returns c = no _ refl (ap not (eq-eqb _ _ c.if-block-expected.false)) (no _ refl (ne_eqb _ 10 c.if-block-eq-LAST_OF_SCAN.false) refl)
