-- What stands in a recording from a byte on: a whole field, one that is cut, or nothing more; and what that answer means, case by case.
-- Assumes nothing.
use Rattle.std.specs.Prelude.{ℕ, ◌+◌, ◌*◌, Bool, true, false, List, leb, ltb, length, get_or}
use Rattle.ground.specs.Choice.{pick}
use Rattle.recording.specs.declared.Found.{Found}
use Rattle.recording.specs.declared.Found.TheVariants.{Whole, Cut, End}

-- the bytes in front of a body
abbrev pub front_length : ℕ
front_length = 3

-- the length that stands behind the tag at a byte
abbrev pub length_at : List ℕ → ℕ → ℕ
length_at bytes at = get_or bytes (at + 1) 0 * 256 + get_or bytes (at + 2) 0

unfoldable pub found_at : List ℕ → ℕ → Found
found_at bytes at =
    pick (leb (length bytes) at) End
    (pick (ltb (length bytes) (at + front_length)) Cut
    (pick (ltb (length bytes) (at + front_length + length_at bytes at)) Cut
    (Whole (get_or bytes at 0) (at + front_length) (length_at bytes at))))

-- The answer's number and values. None of its cases is a refusal, and the number is 0. The listing has a line for a field, whose tag, start
-- and length are given; else it ends, with `cut` or with `end`, and the values are zero.
pub record Answered : Type 0 where
  pub number : ℕ
  pub has_line : Bool
  pub is_cut : Bool
  pub tag : ℕ
  pub start : ℕ
  pub length : ℕ

abbrev pub a_field : (tag start length : ℕ) → Answered
a_field tag start n = record { number = 0; has_line = true; is_cut = false; tag = tag; start = start; length = n }

abbrev pub the_last : Bool → Answered
the_last cut = record { number = 0; has_line = false; is_cut = cut; tag = 0; start = 0; length = 0 }

abbrev pub answered : Found → Answered
answered (Whole tag start n) = a_field tag start n
answered Cut = the_last true
answered End = the_last false

-- where a field that is found ends; 0 where none is
abbrev pub end_of : Found → ℕ
end_of found = (answered found).start + (answered found).length
