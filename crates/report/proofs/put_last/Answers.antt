-- `report::put_last` meets its contract: the line is put together by itself, and then laid whole or not at all.
-- Assumes nothing.
use mathlib.Core.List.{List}
use Prim.Native.Nat.{ℕ}
use native.Mathlib.Omega.{arith}
use lib.ListN.{replicate}
use Rattle.text.specs.Texts.{bytes_of}
use Rattle.text.proofs.LawsPut.{nothing, more, more_column, into}
use Rattle.report.specs.Texts.{last_text}
use Rattle.report.proofs.put_last.Goals as goal

pub returns : goal.returns
unfolding last_text
returns c =
    let a = c.args in
    let room : List ℕ = replicate 54 0 in
    let one = more (nothing room) (bytes_of "end ") c.put_part-count.ensures.value c.put_part-count.ensures.room_after (omega arith) in
    let two = more_column one a.blocks 0x0A (omega arith) c.put_column-end.ensures.value c.put_column-end.ensures.room_after (omega arith) in
    let both = into two a.room.now c.put_text.ensures.value c.put_text.ensures.room_after in record { value = both.0; room_after = both.1 }
