-- `spacelook::fill_array` meets its contract: after k turns the first k numbers stand in one room, and their cases in the other.
-- Assumes nothing.
use mathlib.Core.List.{map}
use Rattle.floating.specs.Cases.{case_of, value_of}
use Rattle.spacelook.specs.Numbers.{readings_in}
use Rattle.spacelook.proofs.LawsNumbers.{Laid}
use Rattle.spacelook.proofs.fill_array.Given as goal

abbrev pub invariant-loop-k : goal.invariant-loop-k
invariant-loop-k l =
    Laid l.initial.numbers l.numbers l.at (map value_of (readings_in l.words (l.first, l.count))) l.k
    × Laid l.initial.cases l.cases l.at (map case_of (readings_in l.words (l.first, l.count))) l.k
