-- `writer::parts::put_field` meets its contract: what is put into the part lent stands between what is in front of it and behind it.
-- Assumes nothing.
use mathlib.Core.Path.{◌≡◌, ap, ap₂, ◌∙◌}
use mathlib.Core.List.{List, ◌++◌}
use Prim.Native.Nat.{ℕ, ◌-◌}
use native.Mathlib.Omega.{arith}
use lib.ListN.{length, take, drop, length-drop}
use lib.Seq.{length-take-le}
use borrow.Rule.Slice.PartMut.{Post-is}
use Rattle.bits.specs.Fields.{put_answer}
use Rattle.writer.proofs.parts.put_field.Goals as goal

pub returns : goal.returns
returns c =
    let room = c.args.room.now in
    let end = c.args.end in
    let long : length (take (end - 90) (drop 90 room)) ≡ end - 90 = length-take-le (end - 90) (drop 90 room) (omega (arith, length-drop 90 room)) in record { value = c.put_words.ensures.value ∙ ap (put_answer c.args.size c.args.words.now) long; room_after = ap₂ (λ (f t : List ℕ). take 90 room ++ (f ++ t)) c.put_words.ensures.field_after (Post-is 90 end room c.requires.0) }
