-- `sounder::frame::first_out` meets its contract: what is left of the table decides.
-- Assumes nothing.
use mathlib.Core.Path.{refl, sym, ◌∙◌}
use Rattle.sounder.proofs.LawsFrame.{start, found, next, named, finish}
use Rattle.sounder.proofs.frame.first_out.Goals as goal

pub loop-i-init : goal.loop-i-init
loop-i-init c = start _

pub returns-then-is_out : goal.returns-then-is_out
returns-then-is_out c =
    let l = c.loop-i.invariant in
    (found l c.loop-i-test.true (sym c.is_out.ensures ∙ c.if-is_out.true), named l c.loop-i-test.true refl)

pub loop-i-preserved : goal.loop-i-preserved
loop-i-preserved c = next c.loop-i.invariant c.loop-i-test.true (sym c.is_out.ensures ∙ c.if-is_out.false)

pub returns : goal.returns
returns c = (finish c.loop-i.invariant c.loop-i-test.false, tt)
