-- A floating number, a word of 32 bits (section 3.5.4). Without its sign: seven bits of exponent, where 64 is no shift, then 24 of fraction,
-- with the point before the first. Where the sign bit is set, the word is 2 ^ 32 less that.
-- Assumes nothing.
use Rattle.std.specs.Prelude.{ℕ, ◌+◌, ◌-◌, ◌*◌, ◌/◌, ◌%◌, Bool, leb, eqb, Float}
use Rattle.std.specs.Float.Ieee.{odd}
use Rattle.ground.specs.Choice.{pick}
use Rattle.floating.specs.declared.Reading.{Reading}
use Rattle.floating.specs.declared.Reading.TheVariants.{Number, Zero, NotNormal}

abbrev pub is_negative : ℕ → Bool
is_negative word = leb 0x80000000 word

-- the word without its sign: where that is set, the complement of the whole word comes first
abbrev pub magnitude : ℕ → ℕ
magnitude word = pick (is_negative word) (0x100000000 - word) word

-- of a magnitude: the exponent as it stands there, and the fraction as a whole number below 2 ^ 24
abbrev pub exponent : ℕ → ℕ
exponent size = size / 0x1000000

abbrev pub fraction : ℕ → ℕ
fraction size = size % 0x1000000

-- Of the fraction's four top bits one is set.
abbrev pub least_normal : ℕ
least_normal = 0x100000

abbrev pub is_normal : ℕ → Bool
is_normal size = leb least_normal (fraction size)

-- The point is in front of the fraction's 24 bits, and the exponent is offset by 64: fraction / 2 ^ 24 * 16 ^ (exponent - 64) is
-- fraction * 2 ^ (4 * exponent) in units of 2 ^ -280. `odd` is that float, written with an odd whole number.
abbrev pub units : ℕ
units = 24 + 4 * 64

unfoldable pub number_of : Bool → ℕ → ℕ → Float
number_of negative fraction exponent = odd 24 negative fraction (4 * exponent) units

-- a word that is not 0, of its sign and its magnitude
unfoldable pub signed_of : Bool → ℕ → Reading
signed_of negative size = pick (is_normal size) (Number (number_of negative (fraction size) (exponent size))) NotNormal

unfoldable pub reading_of : ℕ → Reading
reading_of word = pick (eqb word 0) Zero (signed_of (is_negative word) (magnitude word))
