-- How a block that is lent is laid out: 90 bytes of header, then the information field, then two bytes of check word.
-- Assumes nothing.
use Rattle.std.specs.Prelude.{ℕ, ◌+◌, List, take, drop}
use Rattle.check_rule.specs.Check.{check_length}
use Rattle.copies.specs.Copies.{copies_length}

-- of a block whose field has so many bytes
abbrev pub block_length : ℕ → ℕ
block_length bytes = copies_length + bytes + check_length

abbrev pub information_field : ℕ → List ℕ → List ℕ
information_field bytes block = take bytes (drop copies_length block)
