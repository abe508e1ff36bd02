-- `c_recording::rahmisve_last_text` meets its contract: what putting the last line answers, and a number by its length.
-- Assumes nothing.
use Rattle.listing.specs.Texts.{last_text}
use Rattle.c_recording.proofs.LawsTold.{last_some, told}
use Rattle.c_recording.proofs.rahmisve_last_text.Goals as goal

pub returns : goal.returns
returns c =
    let a = c.args in
    let both = told a.room.now (last_text c.is_on.result a.fields) (last_some c.is_on.result a.fields) (c.put_last-last.ensures.value, c.put_last-last.ensures.room_after) c.number_of.ensures in
    rw (← c.is_on.ensures) (record { value = both.0; bytes_after = both.1.0; room_after = both.1.1 })
