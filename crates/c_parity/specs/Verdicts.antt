-- Verdicts on sections, as C is told them.
-- Assumes nothing.
use Rattle.std.specs.Prelude.{ℕ, Bool, false, List, map, get_or}
use Rattle.c_numbers.specs.Marks.{mark}

-- the verdicts at these places, counted from 0
abbrev pub marks_at : List ℕ → List Bool → List ℕ
marks_at places verdicts = map (λ i. mark (get_or verdicts i false)) places
