-- `putting::bytes::put_front` meets its contract: the words passed stand at the front of the field.
-- Assumes nothing.
use mathlib.Core.Path.{◌≡◌, sym, ap, ap₂, ◌∙◌}
use mathlib.Core.List.{List}
use Prim.Native.Nat.{ℕ, ◌%◌}
use native.Mathlib.Nat.{mod-eq_of_lt}
use native.Mathlib.Omega.{arith}
use lib.ListN.{get_or, set}
use lib.Seq.{take_all}
use Rattle.room.specs.Laid.{laid}
use Rattle.room.proofs.LawsLaid.{laid_nil, front_turn}
use Rattle.bits.proofs.LawsBelow.{below_at}
use Rattle.bits.proofs.LawsFill.{fit_below}
use Rattle.putting.proofs.bytes.put_front.Goals as goal

pub loop-i-init : goal.loop-i-init
loop-i-init c = sym (laid_nil _ 0)

pub loop-i-preserved : goal.loop-i-preserved
loop-i-preserved c =
    let l = c.loop-i in
    let words = c.args.words.now in
    let w = get_or words l.i 0 in
    let byte : w % 256 ≡ w = mod-eq_of_lt (below_at 256 words (omega arith) (fit_below 8 words c.requires.fits) l.i) in
    ap₂ (λ (r : List ℕ) (b : ℕ). set r l.i b) l.invariant byte ∙ front_turn words c.args.field.now l.i (omega arith) (omega arith)

pub returns : goal.returns
returns c =
    let l = c.loop-i in
    let a = c.args in
    l.invariant ∙ ap (laid a.field.now 0) (take_all l.i a.words.now (omega arith))
