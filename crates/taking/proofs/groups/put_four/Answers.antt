-- `taking::groups::put_four` meets its contract: four stores, one behind the other.
-- Assumes nothing.
use mathlib.Core.Path.{sym, ap, ◌∙◌}
use mathlib.Core.List.{[], ◌∷◌, append_assoc}
use Prim.Native.Nat.{◌+◌, ◌/◌, ◌%◌, ◌^◌}
use native.Mathlib.Numerals.{add-one, add-two, add-three}
use lib.ListN.{take, drop}
use lib.Seq.{sets-eq}
use Rattle.room.specs.Laid.{laid}
use Rattle.taking.proofs.LawsFours.{four_digits}
use Rattle.taking.proofs.groups.put_four.Goals as goal

pub returns : goal.returns
returns c =
    let x = c.args.x in
    let room = c.args.room.now in
    let i = c.args.i in
    let ws = x % 2 ^ 16 ∷ x / 2 ^ 16 % 2 ^ 16 ∷ x / 2 ^ 32 % 2 ^ 16 ∷ x / 2 ^ 48 % 2 ^ 16 ∷ [] in
    simp (add-one, add-two, add-three) (sets-eq ws room i c.requires ∙ append_assoc (take i room) ws (drop (i + 4) room) ∙ ap
    (laid room i) (sym (four_digits x)))
