-- What the rows promise: the decision over block numbers is the printed table, and a field holds its words.
-- Assumes nothing.
use Rattle.std.specs.Prelude.{ℕ, ◌+◌, ◌*◌, ◌%◌, ◌≤◌, ◌≡◌, ◌↔◌, true}
use Rattle.row.specs.Pixels.{image_size}
use Rattle.row.specs.Rows.{row_of, scan_of, permits}
use Rattle.row.specs.Field.{field_bytes, fill_bits}
use Rattle.row.specs.Suits.{Scan, Suits}

-- the decision takes a size and a count: the size is the row's, and the row permits the count
pub record Takes (block version size count : ℕ) : Type 0 where
  pub sized : (row_of block version size).size ≡ size
  pub counted : permits (row_of block version size) count ≡ true

-- it does so, in every version there is, exactly where the table says that they suit the block
abbrev pub DecidesTable : Type 0
DecidesTable = (block version size count : ℕ) → version ≤ 3 → Takes block version size count ↔ Suits block version size count

-- how wide a scan is: the n of a count that suits blocks 1 to 10
pub record Widths : Type 0 where
  pub first : (v n : ℕ) → Scan n → scan_of (row_of 1 v 10) (4 * (16 + n)) ≡ n
  pub second : (v n : ℕ) → v ≤ 2 → Scan n → scan_of (row_of 2 v 10) (3 * (16 + n)) ≡ n
  pub second3 : (n : ℕ) → Scan n → scan_of (row_of 2 3 10) (4 * (16 + n)) ≡ n
  pub others : (b v n : ℕ) → 3 ≤ b → b ≤ 10 → Scan n → scan_of (row_of b v 10) (16 + 4 * n) ≡ n

-- no field has more bytes: so long is that of a scan of 23 degrees, the specification's largest, which no row here permits
abbrev pub longest_field : ℕ
longest_field = 31440

-- a field of so many bytes holds so many words of a size from 1 to 16
pub record Held (size count bytes : ℕ) : Type 0 where
  pub low : 1 ≤ size
  pub high : size ≤ 16
  pub fits : count * size ≤ bytes * 8
  pub short : bytes ≤ longest_field

-- the words that suit a block fit its field, which is no longer than that
abbrev pub WordsHeld : Type 0
WordsHeld = (block version size count : ℕ) → Suits block version size count → Held size count (field_bytes block count)

-- no block has more words than these, four records of the widest scan
abbrev pub most_words : ℕ
most_words = 21008

abbrev pub WordsAtMost : Type 0
WordsAtMost = (block version size count : ℕ) → Suits block version size count → count ≤ most_words

-- every field is an even number of bytes
abbrev pub FieldsEven : Type 0
FieldsEven = (block count : ℕ) → field_bytes block count % 2 ≡ 0

-- a block with so many image words has a field of so many bytes, of which so many bits are fill
pub record Measures (block count bytes fill : ℕ) : Type 0 where
  pub long : field_bytes block count ≡ bytes
  pub rest : fill_bits block image_size count ≡ fill
