-- The pixels of a scan, on the infrared and on the visible scale, and the words of a detector record.
-- Assumes nothing.
use Rattle.std.specs.Prelude.{ℕ, ◌*◌, Bool, ◌&&◌, leb}

-- n, which counts infrared pixels, goes from 1 to 5,236, which is a scan of 19.2 degrees
abbrev pub narrowest : ℕ
narrowest = 1

abbrev pub widest : ℕ
widest = 5236

abbrev pub is_scan : ℕ → Bool
is_scan n = leb narrowest n && leb n widest

-- an infrared pixel spans four visible ones
abbrev pub visible_of : ℕ → ℕ
visible_of n = n * 4

-- a record is so many words of line documentation, then a word for each pixel
abbrev pub line_words : ℕ
line_words = 16

-- of ten bits
abbrev pub image_size : ℕ
image_size = 10
