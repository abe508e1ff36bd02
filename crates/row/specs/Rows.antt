-- The table of field sizes as a decision: what a block number allows, and whether a count of words is among it. A row's count is its fixed
-- words and `each` words for every infrared pixel of the scan.
-- Assumes nothing.
use Rattle.std.specs.Prelude.{ℕ, ◌*◌, ◌-◌, ◌/◌, ◌%◌, Bool, ◌&&◌, ◌||◌, eqb, leb, ltb}
use Rattle.ground.specs.Choice.{pick}
use Rattle.row.specs.declared.Row.{Row}
use Rattle.row.specs.Pixels.{is_scan, visible_of, line_words, image_size}

-- block numbers and versions go from 0 to these
abbrev pub last_block : ℕ
last_block = 11

abbrev pub last_version : ℕ
last_version = 3

-- Block 1 consists of 4 records, block 2 of 3 (Table 3-1) up to version 2 and of 4 in version 3, each of blocks 3 to 10 of a single one;
-- blocks 0 and 11 have none.
unfoldable pub records_in : (block version : ℕ) → ℕ
records_in block version =
    pick (eqb block 1) 4
    (pick (eqb block 2) (pick (ltb version 3) 3 4)
    (pick (leb 3 block && leb block 10) 1 0))

-- blocks 0 and 11: the field's length in bits, which the words of a size fill
abbrev pub fixed_bits : ℕ
fixed_bits = 64320

abbrev pub fixed_row : ℕ → Row
fixed_row size = record { size = size; records = 0; fixed = fixed_bits / size; each = 0 }

-- blocks 1 and 2: in each record a word for each infrared pixel
abbrev pub infrared_row : ℕ → Row
infrared_row records = record { size = image_size; records = records; fixed = records * line_words; each = records }

-- blocks 3 to 10: in one record a word for each of the visible pixels that an infrared one spans
abbrev pub visible_row : Row
visible_row = record { size = image_size; records = 1; fixed = line_words; each = visible_of 1 }

-- block 11: of six, eight or ten bits; the row of any other size has ten
abbrev pub last_row : ℕ → Row
last_row size = pick (eqb size 6) (fixed_row 6) (pick (eqb size 8) (fixed_row 8) (fixed_row 10))

-- an unknown block: no words, and so no count
abbrev pub no_row : Row
no_row = record { size = 0; records = 0; fixed = 0; each = 0 }

unfoldable pub row_of : (block version size : ℕ) → Row
row_of block version size =
    pick (eqb block 0) (fixed_row 8)
    (pick (eqb block 1) (infrared_row (records_in 1 version))
    (pick (eqb block 2) (infrared_row (records_in 2 version))
    (pick (leb 3 block && leb block 10) visible_row
    (pick (eqb block 11) (last_row size) no_row))))

-- an infrared number of pixels is at most this
abbrev pub most_pixels : ℕ
most_pixels = 65535

-- The n of a count: the words beyond the fixed ones, so many for each infrared pixel. 0 where there is none: the row is of no scan, the
-- count is below the fixed words, words are left over, or n is no infrared number of pixels.
abbrev pub scan_of : Row → ℕ → ℕ
scan_of row count =
    pick (eqb row.each 0 || ltb count row.fixed) 0
    (pick (ltb 0 ((count - row.fixed) % row.each) || ltb most_pixels ((count - row.fixed) / row.each)) 0
    ((count - row.fixed) / row.each))

-- a row of no scan permits its fixed words, where it has any; every other row the counts whose n is that of a scan
unfoldable pub permits : Row → ℕ → Bool
permits row count = pick (eqb row.each 0) (ltb 0 count && eqb count row.fixed) (is_scan (scan_of row count))
