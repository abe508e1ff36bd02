-- `c_tags::rahmisve_read_tag` meets its contract: the numbers of the tag that was read, or zeros.
-- Assumes nothing.
use mathlib.Core.Path.{refl}
use Rattle.c_tags.proofs.rahmisve_read_tag.Goals as goal

pub returns-in-Ok : goal.returns-in-Ok
returns-in-Ok c = rw (← c.in-Ok.ensures) (record { value = refl; time_after = c.numbers_of.ensures })

pub returns-in-Err : goal.returns-in-Err
returns-in-Err c = rw (← c.in-Err.ensures) (record { value = c.number.ensures; time_after = refl })
