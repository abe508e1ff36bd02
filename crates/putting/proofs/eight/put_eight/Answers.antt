-- `putting::eight::put_eight` meets its contract: the eight digits are stored as one part.
-- Assumes nothing.
use mathlib.Core.Path.{refl, sym, ◌∙◌}
use Prim.Native.Nat.{◌+◌}
use Rattle.bits.specs.Digits.{digits}
use Rattle.room.proofs.LawsLaid.{part_laid}
use Rattle.putting.proofs.LawsFours.{eight_digits}
use Rattle.putting.proofs.eight.put_eight.Goals as goal

pub returns : goal.returns
unfolding digits
returns c =
    let a = c.args in
    part_laid a.field.now a.at (a.at + 8) (digits 256 8 a.x)
    (c.copy_from_slice.ensures.after ∙ c.to_le_bytes.ensures ∙ sym (eight_digits a.x)) refl
