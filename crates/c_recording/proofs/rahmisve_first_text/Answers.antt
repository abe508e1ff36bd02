-- `c_recording::rahmisve_first_text` meets its contract: what putting the first line answers, and a number by its length.
-- Assumes nothing.
use Rattle.listing.specs.Texts.{first_text}
use Rattle.c_recording.proofs.LawsTold.{first_some, told}
use Rattle.c_recording.proofs.rahmisve_first_text.Goals as goal

pub returns : goal.returns
returns c = let both = told c.args.room.now first_text first_some (c.put_first-first.ensures.value, c.put_first-first.ensures.room_after) c.number_of.ensures in record { value = both.0; bytes_after = both.1.0; room_after = both.1.1 }
