-- `detectors::first_in` meets its contract: `leading_zeros` counts the bits before the first that is 1.
-- Assumes nothing.
use mathlib.Core.Path.{sym, ap, ◌∙◌}
use native.Mathlib.Omega.{arith}
use lib.Count.{leading_le}
use Rattle.detectors.specs.Status.{place_at}
use Rattle.detectors.proofs.LawsHeld.{first_high, first_low}
use Rattle.detectors.proofs.first_in.Goals as goal

pub returns-then-before-lt64 : goal.returns-then-before-lt64
returns-then-before-lt64 c =
    let held = c.args.held in
    c.place_at.ensures ∙ ap place_at (sym (first_high held.high held.low (omega arith) c.requires c.if-before-lt64.true))

pub overflow_add-held : goal.overflow_add-held
overflow_add-held c = omega (arith, leading_le 64 c.args.held.low)

pub returns : goal.returns
returns c =
    let held = c.args.held in
    c.place_at-2.ensures ∙ ap place_at (sym (first_low held.high held.low (omega arith) c.requires c.if-before-lt64.false))
