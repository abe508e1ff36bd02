-- `spacelook::fill` meets its contract: after k turns the numbers of the first k arrays stand at the front of the rooms.
-- Assumes nothing.
use mathlib.Core.Path.{◌≡◌}
use lib.ListN.{take}
use Rattle.floating.specs.Cases.{case_of, value_of}
use Rattle.spacelook.specs.Arrays.{arrays_in, numbers_in}
use Rattle.spacelook.proofs.LawsNumbers.{Fronted}
use Rattle.spacelook.proofs.fill.Given as goal

abbrev pub invariant-loop-row : goal.invariant-loop-row
invariant-loop-row l =
    (l.arrays ≡ arrays_in l.fn.layout)
    × (l.at ≡ numbers_in (take l.row-index (arrays_in l.fn.layout)))
    × Fronted value_of l.words l.fn.layout l.initial.numbers l.numbers l.row-index
    × Fronted case_of l.words l.fn.layout l.initial.cases l.cases l.row-index
