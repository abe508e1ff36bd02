-- The text of a salvage's report, byte for byte: a first line, a line for each block and each span in the order of the input, a last line.
-- An entry is three numbers: where it starts in the input, how many bytes it has, and what was found there. 8 is a span. Any other number
-- is a block, and 1, 2 and 4 in it stand for header copies 1, 2 and 3 whose bytes changed.
-- Assumes nothing.
use Rattle.std.specs.Prelude.{ℕ, ◌/◌, ◌%◌, Bool, List, [], ◌∷◌, ◌++◌, eqb}
use Rattle.ground.specs.Choice.{pick}
use Rattle.text.specs.Texts.{bytes_of, decimal, ended, columns}

abbrev pub first_text : List ℕ
first_text = bytes_of "start bytes found changed\n"

abbrev pub kind_text : ℕ → List ℕ
kind_text found = pick (eqb found 8) (bytes_of "span") (bytes_of "block")

-- a number where it is on, else none
abbrev pub number_where : ℕ → Bool → List ℕ
number_where n on = pick on (n ∷ []) []

-- the numbers of the copies whose bytes changed; a span has none
abbrev pub changed_copies : ℕ → List ℕ
changed_copies found = number_where 1 (eqb (found % 2) 1) ++ (number_where 2 (eqb (found / 2 % 2) 1) ++ number_where 3 (eqb (found / 4 % 2) 1))

-- numbers joined by commas, or a dash
abbrev pub joined_text : List ℕ → List ℕ
joined_text [] = bytes_of "-"
joined_text (n ∷ []) = decimal n
joined_text (n ∷ m ∷ ns) = ended (decimal n) 0x2C ++ joined_text (m ∷ ns)

unfoldable pub changed_text : ℕ → List ℕ
changed_text found = joined_text (changed_copies found)

unfoldable pub entry_text : (start bytes found : ℕ) → List ℕ
entry_text start bytes found = columns (decimal start ∷ decimal bytes ∷ kind_text found ∷ changed_text found ∷ [])

unfoldable pub last_text : ℕ → List ℕ
last_text blocks = bytes_of "end " ++ ended (decimal blocks) 0x0A

-- the lines of entries, three numbers each
abbrev pub entries_text : List ℕ → List ℕ
entries_text [] = []
entries_text (start ∷ []) = []
entries_text (start ∷ bytes ∷ []) = []
entries_text (start ∷ bytes ∷ found ∷ rest) = entry_text start bytes found ++ entries_text rest

-- the report of such entries, with so many blocks
abbrev pub report_text : List ℕ → ℕ → List ℕ
report_text entries blocks = first_text ++ (entries_text entries ++ last_text blocks)
