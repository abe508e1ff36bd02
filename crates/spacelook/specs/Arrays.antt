-- The arrays of floating numbers in the two spacelook blocks 1: what the tables call 4 x N, wherever it stands, in the order of the words.
-- Assumes nothing.
use Rattle.std.specs.Prelude.{ℕ, ◌+◌, ◌*◌, ◌≤◌, List, [], ◌∷◌, length, get_or}
use Rattle.parity.specs.declared.Layout.{Layout}
use Rattle.parity.specs.declared.Layout.TheVariants.{ImagerSpacelook, SounderSpacelook}
use Rattle.spacelook.specs.declared.Array.{Array}

-- `403 holds 15` is 15 numbers of four words each, the first word of them being 403, counted from 1.
infix 70 ◌holds◌
abbrev pub ◌holds◌ : ℕ → ℕ → Array
first holds count = (first, count)

abbrev pub first_word : Array → ℕ
first_word a = a.0

abbrev pub count_of : Array → ℕ
count_of a = a.1

-- The Imager's by Table 3-22 of source 001, the Sounder's by Table 3-26 of source 000, which is Table 3-24 of source 001.
abbrev pub arrays_in : Layout → List Array
arrays_in ImagerSpacelook =
    403 holds 15  -- UMNDOH, unfiltered mean, counts: before the clamp
    ∷ 463 holds 15  -- FMNDOH, filtered mean, counts
    ∷ 523 holds 15  -- USDDOH, unfiltered deviation, counts
    ∷ 583 holds 15  -- FSCDOH, filtered deviation, counts
    ∷ 643 holds 7  -- FSRDOH, filtered deviation, radiance
    ∷ 671 holds 7  -- FSTDH, filtered deviation, temperature
    ∷ 883 holds 15  -- UMNODD, unfiltered mean, counts: after the clamp
    ∷ 943 holds 15  -- FMNODD, filtered mean, counts
    ∷ 1003 holds 15  -- USDODD, unfiltered deviation, counts
    ∷ 1063 holds 15  -- FSCODD, filtered deviation, counts
    ∷ 1123 holds 7  -- FSRODD, filtered deviation, radiance
    ∷ 1151 holds 7  -- FSTODD, filtered deviation, temperature
    ∷ 1183 holds 120  -- IDPRM1, filtered means before the clamp, counts: infrared detector 1
    ∷ 1663 holds 120  -- IDPRM2
    ∷ 2143 holds 120  -- IDPRM3
    ∷ 2623 holds 120  -- IDPRM4
    ∷ 3103 holds 120  -- IDPRM5
    ∷ 3583 holds 120  -- IDPRM6
    ∷ 4063 holds 120  -- IDPRM7
    ∷ 4543 holds 120  -- IDPOM1, filtered means after the clamp, counts: infrared detector 1
    ∷ 5023 holds 120  -- IDPOM2
    ∷ 5503 holds 120  -- IDPOM3
    ∷ 5983 holds 120  -- IDPOM4
    ∷ 6463 holds 120  -- IDPOM5
    ∷ 6943 holds 120  -- IDPOM6
    ∷ 7423 holds 120  -- IDPOM7
    ∷ []
arrays_in SounderSpacelook =
    1135 holds 76  -- UFMEV, unfiltered mean, counts
    ∷ 1439 holds 76  -- FMEV, filtered mean, counts
    ∷ 1743 holds 76  -- UFSDV, unfiltered deviation, counts
    ∷ 2047 holds 76  -- FSDV, filtered deviation, counts
    ∷ 2351 holds 72  -- FSRV, filtered deviation, radiance
    ∷ 2639 holds 72  -- FSTV, filtered deviation, temperature
    ∷ []

-- stands where there is no array
abbrev pub no_array : Array
no_array = 0 holds 0

-- an array of a layout, counted from 0
unfoldable pub array_at : Layout → ℕ → Array
array_at layout k = get_or (arrays_in layout) k no_array

-- A field is one of the arrays, counted from 1; where there is none such, one without numbers.
unfoldable pub row_of : Layout → ℕ → Array
row_of layout field = get_or (no_array ∷ arrays_in layout) field no_array

-- an array that lies within the 8,040 words of a block
abbrev pub Inside : Array → Type 0
Inside a = (1 ≤ first_word a) × (first_word a + 4 * count_of a ≤ 8041)

-- how many numbers the arrays have in all
abbrev pub numbers_in : List Array → ℕ
numbers_in [] = 0
numbers_in (a ∷ rest) = count_of a + numbers_in rest

-- how many arrays a layout has, and how many numbers in them
abbrev pub size_of : Layout → ℕ × ℕ
size_of layout = (length (arrays_in layout), numbers_in (arrays_in layout))
