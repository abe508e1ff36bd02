-- `floating::signed` meets its contract: by the fraction's first digit, then by the sign.
-- Assumes nothing.
use native.Mathlib.Omega.{arith}
use mathlib.Core.Path.{sym, ap, ◌∙◌}
use mathlib.Core.Bool.{Bool, true, false}
use lib.Ieee.{neg}
use Rattle.floating.specs.declared.Reading.TheVariants.{Number}
use Rattle.floating.specs.Floating.{signed_of, fraction, exponent}
use Rattle.floating.proofs.LawsExact.{negated}
use Rattle.floating.proofs.LawsReading.{low_fraction, normal_fraction}
use Rattle.floating.proofs.signed.Goals as goal

pub returns-then-fraction-lt-LEAST_NORMAL : goal.returns-then-fraction-lt-LEAST_NORMAL
returns-then-fraction-lt-LEAST_NORMAL c = sym (low_fraction c.args.negative c.args.magnitude (omega (arith, c.if-fraction-lt-LEAST_NORMAL.true)))

pub returns-then-negative : goal.returns-then-negative
returns-then-negative c =
    let a = c.args in
    ap Number (ap neg c.unsigned-size.ensures ∙ negated (fraction a.magnitude) (exponent a.magnitude))
    ∙ sym (ap (λ (s : Bool). signed_of s a.magnitude) c.if-negative.true ∙ normal_fraction true a.magnitude (omega (arith, c.if-fraction-lt-LEAST_NORMAL.false)))

pub returns : goal.returns
returns c =
    let a = c.args in
    ap Number c.unsigned-size.ensures
    ∙ sym (ap (λ (s : Bool). signed_of s a.magnitude) c.if-negative.false ∙ normal_fraction false a.magnitude (omega (arith, c.if-fraction-lt-LEAST_NORMAL.false)))
