-- `listing::put_last` meets its contract: the line is put together by itself, and then laid whole or not at all.
-- Assumes nothing.
use mathlib.Core.Path.{ap}
use mathlib.Core.List.{List}
use Prim.Native.Nat.{ℕ}
use native.Mathlib.Omega.{arith}
use lib.ListN.{length, replicate}
use Rattle.text.proofs.LawsPut.{nothing, more_as, more_column, into}
use Rattle.listing.specs.Texts.{last_text}
use Rattle.listing.proofs.LawsTexts.{word_long}
use Rattle.listing.proofs.put_last.Goals as goal

pub returns : goal.returns
unfolding last_text
returns c =
    let a = c.args in
    let room : List ℕ = replicate 105 0 in
    let one = more_as (nothing room) c.last_word.ensures c.put_part-number.ensures.value c.put_part-number.ensures.room_after (omega (arith, word_long a.cut)) in
    let two = more_column one a.count 0x0A (omega arith) c.put_column-end.ensures.value c.put_column-end.ensures.room_after (omega (arith, ap length c.last_word.ensures, word_long a.cut)) in
    let both = into two a.room.now c.put_text.ensures.value c.put_text.ensures.room_after in record { value = both.0; room_after = both.1 }
