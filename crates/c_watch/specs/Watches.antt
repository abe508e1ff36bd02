-- The watch as C keeps it, eleven numbers in a row: open, expected block, the seven numbers of the last tag, limit, set of fill blocks.
-- Assumes nothing.
use Rattle.std.specs.Prelude.{ℕ, Bool, true, false, not, List, [], ◌∷◌, ◌++◌, eqb, get_or}
use Rattle.ground.specs.Choice.{pick}
use Rattle.watch_bounds.specs.declared.Watch.{Watch}
use Rattle.watch.specs.Verdicts.{Verdict, Refused, Stray, Opened, Kept, Closed}
use Rattle.watch.specs.Rules.{Stepped, Begun}
use Rattle.c_numbers.specs.Numbers.{up_to}
use Rattle.c_numbers.specs.Marks.{mark}
use Rattle.c_tags.specs.Times.{tag_from, numbers_of}

-- The watch in a row of eleven numbers, any there are; it is open where the first is not 0.
abbrev pub watch_in : List ℕ → Watch
watch_in row =
    record {
      opened = not (eqb (get_or row 0 0) 0);
      expected = up_to 255 (get_or row 1 0);
      last = tag_from 2 row;
      limit = get_or row 9 0;
      fill = get_or row 10 0;
    }

-- The numbers of a watch.
abbrev pub numbers_of_watch : Watch → List ℕ
numbers_of_watch w = mark w.opened ∷ w.expected ∷ (numbers_of w.last ++ (w.limit ∷ w.fill ∷ []))

-- A refused offer and a stray leave the record as it was, to the bit.
abbrev pub leaves : Verdict → Bool
leaves (Refused n) = true
leaves Stray = true
leaves Opened = false
leaves Kept = false
leaves (Closed why fill count) = false

abbrev pub row_after : Stepped → List ℕ → List ℕ
row_after s row = pick (leaves s.verdict) row (numbers_of_watch s.next)

-- So does a beginning that is refused.
abbrev pub row_begun : Begun → List ℕ → List ℕ
row_begun b row = pick (eqb b.number 0) (numbers_of_watch b.watch) row
