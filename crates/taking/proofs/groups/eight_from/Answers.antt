-- `taking::groups::eight_from` meets its contract: the digits that are turned are the eight bytes.
-- Assumes nothing.
use mathlib.Core.Path.{◌≡◌, sym, ap, ◌∙◌}
use native.Mathlib.Omega.{arith}
use lib.ListN.{length, take, drop, length-drop}
use lib.Seq.{length-take-le}
use Rattle.std.specs.Int.{w64, from_le_bytes}
use Rattle.bits.specs.Bits.{bits, sent}
use Rattle.bits.specs.Digits.{digits}
use Rattle.bits.proofs.LawsBelow.{below_all, below_drop, below_take}
use Rattle.bits.proofs.LawsDigits.{bytes_low_first, turned_bits}
use Rattle.bits.proofs.LawsElements.{part_eight}
use Rattle.taking.proofs.groups.eight_from.Goals as goal

pub returns : goal.returns
returns c =
    let field = c.args.field.now in
    let at = c.args.at in
    let eight = take 8 (drop at field) in
    let long : length eight ≡ 8 = length-take-le 8 (drop at field) (omega (arith, c.requires, length-drop at field)) in
    let below = below_take 256 8 (drop at field) (below_drop 256 at field (below_all 256 field (λ k. (c.type_inv.field k).fits))) in
    ap (bits 64) c.turned.ensures ∙ turned_bits c.from_le_bytes.result
    ∙ ap sent (ap (digits 256 8) (c.from_le_bytes.ensures ∙ ap (from_le_bytes w64) (sym (part_eight field at c.requires))) ∙ bytes_low_first eight long below)
