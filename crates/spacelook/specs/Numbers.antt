-- The numbers of a spacelook block: one, by field and index, and all of them.
-- Assumes nothing.
use Rattle.std.specs.Prelude.{ℕ, zero, suc, ◌+◌, ◌*◌, ◌||◌, List, [], ◌∷◌, ◌++◌, map, eqb, ltb, Float, length, drop, Result, Ok, Err}
use Rattle.ground.specs.Choice.{pick}
use Rattle.ground.specs.declared.Refusal.{Refusal}
use Rattle.ground.specs.Refusals.{number_of}
use Rattle.parity.specs.declared.Layout.{Layout}
use Rattle.parity.specs.Sections.{word}
use Rattle.parity.specs.Words.{ground_of}
use Rattle.floating.specs.declared.Reading.{Reading}
use Rattle.floating.specs.Floating.{reading_of}
use Rattle.floating.specs.Cases.{case_of, value_of}
use Rattle.spacelook.specs.declared.Array.{Array}
use Rattle.spacelook.specs.Found.{Found, Read, Refused}
use Rattle.spacelook.specs.Arrays.{first_word, count_of, arrays_in, row_of, size_of}

-- two words from one on, counted from 1, and four, as a number: the first is the highest
abbrev pub pair_at : List ℕ → ℕ → ℕ
pair_at words k = word words k * 256 + word words (k + 1)

abbrev pub word_at : List ℕ → ℕ → ℕ
word_at words k = pair_at words k * 65536 + pair_at words (k + 2)

-- number i of an array, counted from 0
abbrev pub number_at : List ℕ → Array → ℕ → Reading
number_at words a i = reading_of (word_at words (first_word a + 4 * i))

-- 8 and 14 as for parity; then 13 for a field or an index that is not there
unfoldable pub found_of : Layout → List ℕ → ℕ → ℕ → Found
found_of layout words field index =
    pick (eqb (ground_of words) 0)
    (pick (ltb index (count_of (row_of layout field))) (Read (number_at words (row_of layout field) index)) (Refused 13))
    (Refused (ground_of words))

-- ---- all of them, field by field

-- the numbers 0, 1 and so on, so many
abbrev pub up_to : ℕ → List ℕ
up_to zero = []
up_to (suc n) = up_to n ++ (n ∷ [])

abbrev pub readings_in : List ℕ → Array → List Reading
readings_in words a = map (number_at words a) (up_to (count_of a))

unfoldable pub joined : List ℕ → List Array → List Reading
joined words [] = []
joined words (a ∷ rest) = readings_in words a ++ joined words rest

abbrev pub all_of : Layout → List ℕ → List Reading
all_of layout words = joined words (arrays_in layout)

-- 8 and 14 as for parity; then 9 for a room too small for the numbers
unfoldable pub answer_of : Layout → List ℕ → ℕ → ℕ → ℕ
answer_of layout words room room-for-cases =
    let small = ltb room (size_of layout).1 || ltb room-for-cases (size_of layout).1 in
    pick (eqb (ground_of words) 0) (pick small 9 0) (ground_of words)

-- the answer as numbers: 0 and how many were read, or a refusal's number and 0
pub record Filled : Type 0 where
  pub number : ℕ
  pub count : ℕ

-- A refusal gives its number and 0, and leaves the rooms as they were.
unfoldable pub filled_of : Layout → List ℕ → ℕ → ℕ → Filled
filled_of layout words room room-for-cases =
    let number = answer_of layout words room room-for-cases in
    record { number = number; count = pick (eqb number 0) (size_of layout).1 0 }

-- what is told of an answer
abbrev pub told_of_all : Result ℕ Refusal → Filled
told_of_all (Ok n) = record { number = 0; count = n }
told_of_all (Err r) = record { number = number_of r; count = 0 }

-- Accepted, the numbers stand at the front of one room and their cases at the front of the other, and nothing behind them has changed.
abbrev pub front_of : {A : Type 0} → List A → List A → List A
front_of xs room = xs ++ drop (length xs) room

unfoldable pub numbers_after : Layout → List ℕ → List Float → ℕ → List Float
numbers_after layout words numbers room-for-cases =
    pick (eqb (answer_of layout words (length numbers) room-for-cases) 0) (front_of (map value_of (all_of layout words)) numbers) numbers

unfoldable pub cases_after : Layout → List ℕ → ℕ → List ℕ → List ℕ
cases_after layout words room cases =
    pick (eqb (answer_of layout words room (length cases)) 0) (front_of (map case_of (all_of layout words)) cases) cases
