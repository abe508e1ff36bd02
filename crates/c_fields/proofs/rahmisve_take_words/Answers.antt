-- `c_fields::rahmisve_take_words` meets its contract: the words go out of the field at the size as the library holds it.
-- Assumes nothing.
use mathlib.Core.Path.{◌∙◌}
use Rattle.c_fields.proofs.rahmisve_take_words.Goals as goal

pub returns : goal.returns
returns c = rw (← c.in_byte.ensures) (record { value = c.number_of.ensures ∙ c.take_words.ensures.value; room_after = c.take_words.ensures.room_after })
