-- What the words of a header say (504-02, Table 3-5).
-- Assumes nothing.
use Rattle.std.specs.Prelude.{ℕ, ◌+◌, ◌-◌, ◌*◌, ◌&&◌, List, eqb, leb, get_or, take, drop}
use Rattle.ground.specs.Choice.{pick}
use Rattle.row.specs.declared.Row.{Row}
use Rattle.row.specs.Rows.{last_block, row_of}
use Rattle.row.specs.Field.{field_bytes}

-- specification words count from 1
abbrev pub word : ℕ → List ℕ → ℕ
word k header = get_or header (k - 1) 0

-- word 1, the block id: 240 is block 0, 1 to 11 are themselves; 255 stands for no block
unfoldable pub number_of : ℕ → ℕ
number_of id = pick (eqb id 240) 0 (pick (leb 1 id && leb id last_block) id 255)

abbrev pub block_in : List ℕ → ℕ
block_in header = number_of (word 1 header)

-- word 2, the word size
abbrev pub size_in : List ℕ → ℕ
size_in header = word 2 header

-- words 3 and 4, the word count, high byte first
abbrev pub count_in : List ℕ → ℕ
count_in header = word 3 header * 256 + word 4 header

-- the count is of the words in the field plus two, the extra two holding the block's check word
abbrev pub extra_words : ℕ
extra_words = 2

-- C counts the data words of the field, without fill
abbrev pub words_in : List ℕ → ℕ
words_in header = count_in header - extra_words

-- word 8, the version
abbrev pub version_in : List ℕ → ℕ
version_in header = word 8 header

-- words 17 to 24, the SPS time: a time tag. No plan goes by them, nor by word 9, whether data is marked valid
abbrev pub time_in : List ℕ → List ℕ
time_in header = take 8 (drop (17 - 1) header)

-- the row that a header asks for
abbrev pub row_in : List ℕ → Row
row_in header = row_of (block_in header) (version_in header) (size_in header)

-- the bytes of the field that it asks for
abbrev pub bytes_in : List ℕ → ℕ
bytes_in header = field_bytes (block_in header) (words_in header)
