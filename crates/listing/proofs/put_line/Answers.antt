-- `listing::put_line` meets its contract: the line is put together by itself, and then laid whole or not at all.
-- Assumes nothing.
use lib.ListN.{replicate}
use Rattle.listing.specs.Texts.{line_text}
use Rattle.text.proofs.LawsPut.{Put, into}
use Rattle.listing.proofs.put_line.Goals as goal

pub returns : goal.returns
returns c =
    let a = c.args in
    let p : Put (replicate 105 0) (line_text a.line) c.spell_line-end.new.text c.spell_line-end.result = record { says = c.spell_line-end.ensures.text_after; ends = c.spell_line-end.ensures.value } in
    let both = into p a.room.now c.put_text.ensures.value c.put_text.ensures.room_after in record { value = both.0; room_after = both.1 }
