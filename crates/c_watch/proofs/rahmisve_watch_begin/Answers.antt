-- `c_watch::rahmisve_watch_begin` meets its contract: a watch that is begun is stored, and a refusal, whose number is not 0, leaves the row.
-- Assumes nothing.
use mathlib.Core.Path.{refl}
use borrow.Author.Tests.{ne_eqb}
use Rattle.ground.proofs.LawsRefusals.{never_zero}
use Rattle.c_watch.proofs.rahmisve_watch_begin.Goals as goal

pub returns-in-Ok : goal.returns-in-Ok
returns-in-Ok c = rw (← c.in-Ok.ensures) (record { value = refl; watch_after = c.row_of.ensures })

pub returns-in-Err : goal.returns-in-Err
returns-in-Err c = rw (← c.in-Err.ensures, ne_eqb _ 0 (never_zero c.in-Err.refusal)) (record { value = c.number.ensures; watch_after = refl })
