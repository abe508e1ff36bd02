-- Every ground on which the reader refuses a block, each with its number, in the order of the tests.
-- Assumes nothing.
use Rattle.std.specs.Prelude.{ℕ, ◌+◌, ◌%◌, Bool, not, List, [], ◌∷◌, ◌++◌, eqb, ltb, length, drop}
use Rattle.ground.specs.Grounds.{Ground, ◌when◌, first_of}
use Rattle.bits.specs.Fields.{fill_of, all_zero}
use Rattle.check_rule.specs.Check.{passes}
use Rattle.copies.specs.Copies.{copies_length, header_in, copies_grounds}
use Rattle.header.specs.Says.{size_in, words_in, bytes_in}
use Rattle.header.specs.Plans.{header_grounds, plan_grounds}
use Rattle.block.specs.Layout.{block_length, information_field}

-- 8: more or fewer bytes than the block must have
abbrev pub wrong_length : ℕ → List ℕ → Bool
wrong_length bytes block = not (eqb (length block) (block_length bytes))

-- 17: the check word begins off a 16-bit boundary of the block
abbrev pub off_boundary : ℕ → Bool
off_boundary bytes = not (eqb ((copies_length + bytes) % 2) 0)

-- 9: less room than is needed
abbrev pub small_room : ℕ → ℕ → Bool
small_room words room = ltb room words

-- 10: the block's check does not agree: it covers the whole information field, and follows it
abbrev pub check_disagrees : List ℕ → Bool
check_disagrees block = not (passes (drop copies_length block))

-- 11: a bit of the fill is 1
abbrev pub fill_not_zero : (size words : ℕ) → List ℕ → Bool
fill_not_zero size words field = not (all_zero (fill_of size words field))

-- of the field of a lent block, which has so many words of a size in so many bytes
abbrev pub field_grounds : (size words bytes : ℕ) → List ℕ → ℕ → List Ground
field_grounds size words bytes lent room =
    (8 when wrong_length bytes lent)
    ∷ (17 when off_boundary bytes)
    ∷ (9 when small_room words room)
    ∷ (10 when check_disagrees lent)
    ∷ (11 when fill_not_zero size words (information_field bytes lent))
    ∷ []

-- of the field that a header asks for, in a lent block
abbrev pub field_by : (h block : List ℕ) → ℕ → List Ground
field_by h block room = field_grounds (size_in h) (words_in h) (bytes_in h) block room

-- of a block that is read by the header h, whatever its copies say: one not of 28 bytes is 1
abbrev pub grounds_by : (h block : List ℕ) → ℕ → List Ground
grounds_by h block room = plan_grounds h ++ field_by h block room

unfoldable pub refusal_by : (h block : List ℕ) → ℕ → ℕ
refusal_by h block room = first_of (grounds_by h block room)

-- of a block with the common header h, lent room for so many words
abbrev pub grounds_of : (block h : List ℕ) → ℕ → List Ground
grounds_of block h room = copies_grounds block ++ (header_grounds h ++ field_by h block room)

-- the number given is that of the first that holds, 0 where none does
unfoldable pub refusal_of : List ℕ → ℕ → ℕ
refusal_of block room = first_of (grounds_of block (header_in block) room)
