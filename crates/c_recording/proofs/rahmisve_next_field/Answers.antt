-- `c_recording::rahmisve_next_field` meets its contract: each arm knows what was found.
-- Assumes nothing.
use mathlib.Core.Path.{refl}
use Rattle.c_recording.proofs.rahmisve_next_field.Goals as goal

pub returns-in-End : goal.returns-in-End
returns-in-End c = rw (← c.in-End.ensures) (record { value = refl; tag_after = refl; start_after = refl; length_after = refl })

pub returns-in-Cut : goal.returns-in-Cut
returns-in-Cut c = rw (← c.in-Cut.ensures) (record { value = refl; tag_after = refl; start_after = refl; length_after = refl })

pub returns-in-Whole : goal.returns-in-Whole
returns-in-Whole c = rw (← c.in-Whole.ensures) (record { value = refl; tag_after = refl; start_after = refl; length_after = refl })
