-- `c_fields::rahmisve_put_words` meets its contract: the words go into the field at the size as the library holds it.
-- Assumes nothing.
use mathlib.Core.Path.{◌∙◌}
use Rattle.c_fields.proofs.rahmisve_put_words.Goals as goal

pub returns : goal.returns
returns c = rw (← c.in_byte.ensures) (record { value = c.number_of.ensures ∙ c.put_words.ensures.value; field_after = c.put_words.ensures.field_after })
