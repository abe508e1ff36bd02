-- `listing::spell_refusal` meets its contract: each column stands behind those before it.
-- Assumes nothing.
use native.Mathlib.Omega.{arith}
use Rattle.text.specs.Texts.{bytes_of}
use Rattle.text.proofs.LawsPut.{nothing, more, more_column, as_text}
use Rattle.listing.proofs.LawsTexts.{refusal_columns}
use Rattle.listing.proofs.spell_refusal.Goals as goal

pub returns : goal.returns
returns c =
    let a = c.args in
    let one = more_column (nothing a.text.now) a.line.seq 0x20 (omega arith) c.put_column-dashes.ensures.value c.put_column-dashes.ensures.room_after (omega arith) in
    let two = more one (bytes_of "- - - ") c.put_part-answer.ensures.value c.put_part-answer.ensures.room_after (omega arith) in
    let three = as_text (more_column two a.line.answer 0x0A (omega arith) c.put_column.ensures.value c.put_column.ensures.room_after (omega arith)) (refusal_columns a.line) in record { value = three.ends; upper_bound = omega arith; text_after = three.says }
