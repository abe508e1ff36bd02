-- `watch_rule::rule_of` asks the clock, back before late, then for the block.
-- Assumes nothing.
use mathlib.Core.Path.{refl, ap, ◌∙◌}
use lib.IntN.{ℤ, pos}
use lib.Signed.{lt_z}
use mir.Facts.{to_z-of_z}
use Rattle.ground.proofs.LawsChoice.{yes, no}
use Rattle.watch_rule.specs.Rules.{rule_of}
use Rattle.watch_rule.proofs.rule_of.Goals as goal

pub returns-then-is_back : goal.returns-then-is_back
unfolding rule_of
returns-then-is_back c = yes _ (c.is_back.ensures ∙ ap (λ (z : ℤ). lt_z z (pos 0)) (to_z-of_z c.ranges.d)) c.if-is_back.true refl

pub returns-then-is_late : goal.returns-then-is_late
unfolding rule_of
returns-then-is_late c =
    let d = to_z-of_z c.ranges.d in
    no _ (c.is_back.ensures ∙ ap (λ (z : ℤ). lt_z z (pos 0)) d) c.if-is_back.false
    (yes _ (c.is_late.ensures ∙ ap (λ (z : ℤ). lt_z (pos c.args.limit) z) d) c.if-is_late.true refl)

pub returns : goal.returns
unfolding rule_of
returns c =
    let d = to_z-of_z c.ranges.d in
    no _ (c.is_back.ensures ∙ ap (λ (z : ℤ). lt_z z (pos 0)) d) c.if-is_back.false
    (no _ (c.is_late.ensures ∙ ap (λ (z : ℤ). lt_z (pos c.args.limit) z) d) c.if-is_late.false c.in_time.ensures)
