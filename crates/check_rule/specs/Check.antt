-- The check word (504-02, section 3.3.3): the remainder of a division modulo two, preset to ones, its complement sent. A generator of
-- degree 16 is written without its first term: 0x1021 is x^16 + x^12 + x^5 + 1. The remainder so far stands in a register, a number
-- below 65536; the bits of the message come into it in the order sent.
-- Assumes nothing.
use Rattle.std.specs.Prelude.{Bool, ◌&&◌, List, [], ◌∷◌, ℕ, ◌+◌, ◌-◌, ◌*◌, ◌/◌, ◌%◌, eqb, leb, length, take, get_or}
use Rattle.std.specs.Int.Bits.{bit_xor}
use Rattle.bits.specs.Bits.{sent}

-- one bit into the register r: r moves up by one place, and where the bit that leaves it differs from b, the generator is added
unfoldable pub fed : ℕ → ℕ → ℕ → ℕ
fed g r b = bit_xor (r * 2 % 65536) (bit_xor (r / 32768) b * g)

-- bits into the register, the first one first
unfoldable pub feed : ℕ → ℕ → List ℕ → ℕ
feed g r [] = r
feed g r (b ∷ bs) = feed g (fed g r b) bs

-- the check word of bytes: the register starts with all its bits set, and is complemented at the end
unfoldable pub check_by : ℕ → List ℕ → ℕ
check_by g message = bit_xor (feed g 0xFFFF (sent message)) 0xFFFF

-- x^16 + x^12 + x^5 + 1
abbrev pub generator : ℕ
generator = 0x1021

abbrev pub check_word : List ℕ → ℕ
check_word message = check_by generator message

-- the two bytes of a check word as sent, high byte first
abbrev pub bytes_of : ℕ → List ℕ
bytes_of check = check / 256 ∷ check % 256 ∷ []

abbrev pub check_length : ℕ
check_length = 2

-- whether a string is a message followed by its check word: the last two bytes are the check word of those before them
unfoldable pub passes : List ℕ → Bool
passes s = leb check_length (length s) && eqb (check_word (take (length s - check_length) s)) (get_or s (length s - 2) 0 * 256 + get_or s (length s - 1) 0)
