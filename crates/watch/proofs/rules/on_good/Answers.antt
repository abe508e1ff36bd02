-- `watch::rules::on_good` goes to the open rules with the time from the last tag, or to the idle rules. A list of at most 64 days is counted
-- whole.
-- Assumes nothing.
use mathlib.Core.Path.{refl, ap, ◌∙◌}
use mathlib.Core.List.{List}
use Prim.Native.Nat.{ℕ}
use lib.IntN.{ℤ}
use mir.Syntax.{w64}
use mir.Facts.{to_z-of_z}
use borrow.Author.Rules.{sfits_of}
use Rattle.ground.proofs.LawsChoice.{yes, no}
use Rattle.calendar.proofs.LawsLeaps.{firsts}
use Rattle.time.specs.Times.{between}
use Rattle.watch.specs.Rules.{on_open, on_good}
use Rattle.watch.proofs.rules.on_good.Goals as goal

pub on_open-requires : goal.on_open-requires
on_open-requires c = c.requires.0 c.if-w.true

pub returns-then-w : goal.returns-then-w
unfolding on_good
returns-then-w c =
    let a = c.args in
    yes _ refl c.if-w.true
    (c.on_open.ensures
    ∙ ap (λ (d : ℤ). on_open a.w a.block a.valid a.t d)
    (to_z-of_z (sfits_of {w = w64} c.between-d.type_inv) ∙ c.between-d.ensures ∙ ap (λ (leaps : List ℕ). between leaps a.w.last a.t) (firsts a.leaps.now c.requires.1)))

pub returns-else-w : goal.returns-else-w
unfolding on_good
returns-else-w c = no _ refl c.if-w.false c.on_idle.ensures
