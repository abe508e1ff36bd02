-- `watch::rules::on_open` asks for the rule, and follows it.
-- Assumes nothing.
use mathlib.Core.Path.{◌≡◌, sym, ap, ◌∙◌}
use Prim.Native.Nat.{ℕ}
use lib.IntN.{ℤ}
use mir.Facts.{to_z-of_z}
use Rattle.watch_rule.specs.Rules.{rule_of}
use Rattle.watch_rule.specs.declared.Rule.{Rule}
use Rattle.watch_bounds.specs.declared.Watch.{Watch}
use Rattle.watch_bounds.proofs.LawsSets.{below_later}
use Rattle.watch.specs.Rules.{following}
use Rattle.watch.proofs.rules.on_open.Goals as goal

-- the rule of a time that came as a machine's number
asked : (w : Watch) (b : ℕ) {r : Rule} {d e : ℤ} → d ≡ e → r ≡ rule_of w.expected w.limit b d → r ≡ rule_of w.expected w.limit b e
asked w b same e = e ∙ ap (rule_of w.expected w.limit b) same

pub close-requires : goal.close-requires
close-requires c = below_later c.args.w.fill c.args.w.expected 10 c.requires.0 c.requires.1

pub returns-in-Keeps : goal.returns-in-Keeps
returns-in-Keeps c =
    let a = c.args in
    c.keep.ensures ∙ ap (following a.w a.block a.valid a.t) (sym c.in-Keeps.is ∙ asked a.w a.block (to_z-of_z c.ranges.d) c.rule_of.ensures)

pub returns-in-Closes : goal.returns-in-Closes
returns-in-Closes c =
    let a = c.args in
    c.close.ensures ∙ ap (following a.w a.block a.valid a.t) (sym c.in-Closes.is ∙ asked a.w a.block (to_z-of_z c.ranges.d) c.rule_of.ensures)
