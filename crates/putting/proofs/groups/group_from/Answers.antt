-- `putting::groups::group_from` meets its contract: the bytes of the number turned are those of its bits.
-- Assumes nothing.
use mathlib.Core.Path.{◌≡◌, sym, ap, ◌∙◌}
use mathlib.Core.List.{◌++◌}
use Prim.Native.Nat.{ℕ, ◌-◌, ◌*◌}
use native.Mathlib.Omega.{arith}
use lib.ListN.{length, take, drop, replicate, length-drop}
use lib.Seq.{length-take-le}
use Rattle.bits.specs.Bits.{spell, words}
use Rattle.bits.specs.Digits.{digits}
use Rattle.bits.specs.Fields.{field_of}
use Rattle.bits.proofs.LawsDigits.{turned_digits}
use Rattle.putting.proofs.groups.group_from.Goals as goal

pub returns : goal.returns
unfolding field_of
returns c =
    let four = take 4 (drop c.args.i c.args.fitting.words.now) in
    let count : length four ≡ 4 = length-take-le 4 (drop c.args.i c.args.fitting.words.now)
    (omega (arith, c.requires.i_in_bounds, length-drop c.args.i c.args.fitting.words.now)) in
    ap (digits 256 8) c.turned.ensures ∙ turned_digits c.joined.result ∙ ap (words 8 8) c.joined.ensures
    ∙ ap (λ (n : ℕ). words 8 8 (spell c.args.fitting.size four ++ replicate (64 - n * c.args.fitting.size) 0)) (sym count)
