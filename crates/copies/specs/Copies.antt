-- The three header copies of a block, and the header that the passing ones have in common.
-- Assumes nothing.
use Rattle.std.specs.Prelude.{ℕ, ◌*◌, Bool, true, false, not, ◌&&◌, ◌||◌, List, [], ◌∷◌, eqb, ltb, length, take, drop, replicate, Result, Ok, Err}
use Rattle.ground.specs.Choice.{pick}
use Rattle.ground.specs.Grounds.{Ground, ◌when◌, first_of}
use Rattle.ground.specs.declared.Refusal.{Refusal}
use Rattle.ground.specs.Refusals.{number_of}
use Rattle.check_rule.specs.Check.{passes}
use Rattle.copies.specs.declared.Common.{Common}

-- a header as it is given back and lent: its first 28 bytes, without the check word
abbrev pub header_length : ℕ
header_length = 28

-- with it, and three times
abbrev pub copy_length : ℕ
copy_length = 30

abbrev pub copies_length : ℕ
copies_length = 90

-- three copies, thirty bytes each, with nothing between them: copy k, from 0
abbrev pub copy_at : ℕ → List ℕ → List ℕ
copy_at k block = take copy_length (drop (k * copy_length) block)

-- two strings are equal
unfoldable pub same_as : List ℕ → List ℕ → Bool
same_as [] [] = true
same_as [] (y ∷ ys) = false
same_as (x ∷ xs) [] = false
same_as (x ∷ xs) (y ∷ ys) = eqb x y && same_as xs ys

-- none of three copies passes
abbrev pub none_passes : (a b c : List ℕ) → Bool
none_passes a b c = not (passes a || (passes b || passes c))

-- two copies pass, and they differ
abbrev pub differ : (a b : List ℕ) → Bool
differ a b = passes a && (passes b && not (same_as a b))

-- two of three copies do
abbrev pub two_differ : (a b c : List ℕ) → Bool
two_differ a b c = differ a b || (differ a c || differ b c)

-- the first copy that passes: where no two that pass differ, the common one
unfoldable pub common : (a b c : List ℕ) → List ℕ
common a b c = pick (passes a) a (pick (passes b) b c)

-- 1: a block shorter than 90 bytes
abbrev pub too_short : List ℕ → Bool
too_short block = ltb (length block) copies_length

-- 2: of the three copies none passes
abbrev pub no_copy_passes : List ℕ → Bool
no_copy_passes block = none_passes (copy_at 0 block) (copy_at 1 block) (copy_at 2 block)

-- 3: two copies pass and are not equal
abbrev pub copies_differ : List ℕ → Bool
copies_differ block = two_differ (copy_at 0 block) (copy_at 1 block) (copy_at 2 block)

abbrev pub copies_grounds : List ℕ → List Ground
copies_grounds block = (1 when too_short block) ∷ (2 when no_copy_passes block) ∷ (3 when copies_differ block) ∷ []

-- the header is what the copies that pass have in common; an answer gives its first 28 bytes
abbrev pub common_in : List ℕ → List ℕ
common_in block = common (copy_at 0 block) (copy_at 1 block) (copy_at 2 block)

abbrev pub header_in : List ℕ → List ℕ
header_in block = take header_length (common_in block)

-- the answer as numbers: 0 and what the copies have in common, or a refusal's number and zeros
pub record CommonAnswer : Type 0 where
  pub number : ℕ
  pub header : List ℕ
  pub first : Bool
  pub second : Bool
  pub third : Bool

abbrev pub refused_common : ℕ → CommonAnswer
refused_common n = record { number = n; header = replicate header_length 0; first = false; second = false; third = false }

-- the header, and which of the copies passed
abbrev pub found_common : (a b c : List ℕ) → CommonAnswer
found_common a b c = record { number = 0; header = take header_length (common a b c); first = passes a; second = passes b; third = passes c }

-- what three copies answer, by the number of the ground that comes first
abbrev pub answer_by : ℕ → (a b c : List ℕ) → CommonAnswer
answer_by n a b c = pick (eqb n 0) (found_common a b c) (refused_common n)

unfoldable pub agreed_of : (a b c : List ℕ) → CommonAnswer
agreed_of a b c = answer_by (first_of ((2 when none_passes a b c) ∷ (3 when two_differ a b c) ∷ [])) a b c

unfoldable pub common_of : List ℕ → CommonAnswer
common_of block = answer_by (first_of (copies_grounds block)) (copy_at 0 block) (copy_at 1 block) (copy_at 2 block)

-- what is told of an answer
abbrev pub told : Result Common Refusal → CommonAnswer
told (Ok c) = record { number = 0; header = c.header; first = c.first; second = c.second; third = c.third }
told (Err r) = refused_common (number_of r)
