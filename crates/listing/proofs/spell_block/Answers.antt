-- `listing::spell_block` meets its contract: each column stands behind those before it.
-- Assumes nothing.
use native.Mathlib.Omega.{arith}
use Rattle.text.proofs.LawsPut.{nothing, more_column, as_text}
use Rattle.listing.proofs.LawsTexts.{block_columns}
use Rattle.listing.proofs.spell_block.Goals as goal

pub returns : goal.returns
returns c =
    let a = c.args in
    let one = more_column (nothing a.text.now) a.line.seq 0x20 (omega arith) c.put_column-block.ensures.value c.put_column-block.ensures.room_after (omega arith) in
    let two = more_column one a.line.block 0x20 (omega arith) c.put_column-version.ensures.value c.put_column-version.ensures.room_after (omega arith) in
    let three = more_column two a.line.version 0x20 (omega arith) c.put_column-words.ensures.value c.put_column-words.ensures.room_after (omega arith) in
    let four = more_column three a.line.words 0x20 (omega arith) c.put_column-answer.ensures.value c.put_column-answer.ensures.room_after (omega arith) in
    let five = as_text (more_column four a.line.answer 0x0A (omega arith) c.put_column.ensures.value c.put_column.ensures.room_after (omega arith)) (block_columns a.line) in record { value = five.ends; upper_bound = omega arith; text_after = five.says }
