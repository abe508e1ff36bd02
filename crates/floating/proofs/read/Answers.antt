-- `floating::read` meets its contract: zero, a positive word, or the complement of a negative one.
-- Assumes nothing.
use borrow.Author.Rules.{rules}
use mathlib.Core.Path.{◌≡◌, sym, ap, ◌∙◌}
use mathlib.Core.Bool.{true}
use Prim.Native.Nat.{◌+◌, ◌-◌, ◌<◌}
use native.Mathlib.Omega.{arith}
use Rattle.floating.specs.Floating.{signed_of, reading_of}
use Rattle.floating.proofs.LawsReading.{zero_reads, positive_reads, negative_reads}
use Rattle.floating.proofs.read.Goals as goal

pub returns-then-word-eq0 : goal.returns-then-word-eq0
returns-then-word-eq0 c = sym (ap reading_of c.if-word-eq0.true ∙ zero_reads)

pub returns-then-word-lt-SIGN : goal.returns-then-word-lt-SIGN
returns-then-word-lt-SIGN c = c.signed.ensures ∙ sym (positive_reads c.args.word c.if-word-eq0.false c.if-word-lt-SIGN.true)

pub returns : goal.returns
returns c =
    let w = c.args.word in
    let h : w < 0x100000000 = search rules in
    let e : 0xffffffff - w + 1 ≡ 0x100000000 - w = omega arith in
    c.signed-2.ensures ∙ ap (signed_of true) e ∙ sym (negative_reads w c.if-word-lt-SIGN.false)
