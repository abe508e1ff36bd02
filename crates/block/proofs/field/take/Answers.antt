-- `take` hands the field on; its words fit it and the room, so they are taken.
-- Assumes nothing.
use Prim.Native.Nat.{ℕ, ◌+◌, ◌-◌}
use mathlib.Core.Path.{◌≡◌, ap, ◌∙◌}
use native.Mathlib.Omega.{arith}
use lib.ListN.{take, drop}
use Rattle.bits.specs.Fields.{room_taken}
use Rattle.copies.specs.Copies.{copies_length}
use Rattle.block.specs.Layout.{information_field}
use Rattle.block.proofs.LawsReader.{field_long, words_taken}
use Rattle.block.proofs.field.take.Goals as goal

pub returns : goal.returns
returns c =
    let p = c.args.plan in
    let block = c.args.block.now in
    let room = c.args.room.now in
    let e : copies_length + p.bytes - copies_length ≡ p.bytes = omega arith in
    c.take_words.ensures.room_after
    ∙ ap (λ (n : ℕ). room_taken p.size p.words (take n (drop copies_length block)) room) e
    ∙ words_taken p.size p.words p.bytes (information_field p.bytes block) room (field_long p.bytes block c.requires.block_len) c.requires.held c.requires.words_in_bounds
