-- `report::put_entry` meets its contract: the line is put together by itself, and then laid whole or not at all.
-- Assumes nothing.
use lib.ListN.{replicate}
use Rattle.text.proofs.LawsPut.{Put, into}
use Rattle.report.specs.Texts.{entry_text}
use Rattle.report.proofs.put_entry.Goals as goal

pub returns : goal.returns
returns c =
    let a = c.args in
    let p : Put (replicate 54 0) (entry_text a.start a.bytes a.found) c.spell_entry-end.new.text c.spell_entry-end.result = record { says = c.spell_entry-end.ensures.text_after; ends = c.spell_entry-end.ensures.value } in
    let both = into p a.room.now c.put_text.ensures.value c.put_text.ensures.room_after in record { value = both.0; room_after = both.1 }
