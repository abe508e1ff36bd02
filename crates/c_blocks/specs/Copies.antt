-- Which of the three header copies passed, as C is told.
-- Assumes nothing.
use Rattle.std.specs.Prelude.{ℕ, List, [], ◌∷◌}
use Rattle.c_numbers.specs.Marks.{mark}
use Rattle.block.specs.Answers.{Answer}

-- a mark for each
abbrev pub copies_in : Answer → List ℕ
copies_in answer = mark answer.first ∷ mark answer.second ∷ mark answer.third ∷ []
