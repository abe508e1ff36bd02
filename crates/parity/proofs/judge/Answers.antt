-- `parity::judge` meets its contract: a verdict for each section of the layout, set one after another.
-- Assumes nothing.
use mathlib.Core.Path.{ap, ap₂}
use mathlib.Core.Bool.{Bool}
use mathlib.Core.List.{List}
use Prim.Native.Nat.{ℕ}
use lib.ListN.{length}
use Rattle.parity.specs.Sections.{judged_as}
use Rattle.parity.proofs.LawsVerdicts.{lies, start, next, finish}
use Rattle.parity.proofs.judge.Goals as goal

pub loop-i-init : goal.loop-i-init
loop-i-init c = start c.args.layout c.args.words.now c.sections-sections.ensures

pub section_holds-requires : goal.section_holds-requires
section_holds-requires c = rw (c.sections-sections.ensures, c.requires) (lies c.args.layout c.loop-i.i (rw c.sections-sections.ensures at c.loop-i-test.true))

pub loop-i-preserved : goal.loop-i-preserved
loop-i-preserved c = next c.args.layout c.args.words.now c.loop-i.invariant c.loop-i-test.true c.section_holds.ensures

pub returns : goal.returns
returns c =
    let e = c.sections-sections.ensures in
    ap₂ (λ (n : ℕ) (h : List Bool). judged_as n h) (ap length e) (finish c.args.layout c.args.words.now c.loop-i.invariant c.loop-i-test.false)
