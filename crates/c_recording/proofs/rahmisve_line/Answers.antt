-- `c_recording::rahmisve_line` meets its contract: what the field's line is for the tag as it is held.
-- Assumes nothing.
use Rattle.c_recording.proofs.rahmisve_line.Goals as goal

pub returns : goal.returns
returns c = rw (← c.in_byte.ensures) (record { word_count_after = c.line_of-line.ensures.value; room_after = c.line_of-line.ensures.room_after })
