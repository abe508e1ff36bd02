-- The block that a header and words make.
-- Assumes nothing.
use Rattle.std.specs.Prelude.{ℕ, List, ◌++◌}
use Rattle.bits.specs.Fields.{field_of}
use Rattle.check_rule.specs.Check.{check_word, bytes_of}

-- a message followed by its check word
abbrev pub sealed : List ℕ → List ℕ
sealed message = message ++ bytes_of (check_word message)

-- three header copies, one after the other
abbrev pub copies_of : List ℕ → List ℕ
copies_of header = sealed header ++ (sealed header ++ sealed header)

-- the copies, then the field of so many bytes with its check word
unfoldable pub block_of : (header : List ℕ) (size bytes : ℕ) (words : List ℕ) → List ℕ
block_of header size bytes words = copies_of header ++ sealed (field_of size bytes words)
