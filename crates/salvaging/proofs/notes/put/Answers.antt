-- `put` stores three numbers in a row.
-- Assumes nothing.
use mathlib.Core.Path.{refl}
use native.Mathlib.Omega.{arith}
use lib.ListN.{length-set}
use Rattle.salvaging.proofs.LawsNotes.{laid_three}
use Rattle.salvaging.proofs.notes.put.Goals as goal

pub bounds-report-at-2 : goal.bounds-report-at-2
bounds-report-at-2 c = simp length-set (omega arith)

pub bounds-report-at-3 : goal.bounds-report-at-3
bounds-report-at-3 c = simp length-set (omega arith)

pub returns : goal.returns
returns c = record { value = refl; report_after = laid_three _ _ _ _ _ c.requires }
