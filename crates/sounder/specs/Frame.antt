-- The frame fields of a Sounder documentation block: the ranges that source 001 prints in Table 3-10, and which field is out of its own.
-- Assumes nothing.
use Rattle.std.specs.Prelude.{ℕ, suc, Bool, ◌&&◌, ◌||◌, List, [], ◌∷◌, map, eqb, ltb, get_or}
use Rattle.ground.specs.Choice.{pick}
use Rattle.sounder.specs.Words.{number_at}
use Rattle.sounder.specs.declared.frame.Range.{Range}

-- `185 from 1 to 1579` is the field whose first word is 185, counted from 1, and that has from 1 to 1579.
infix 70 ◌from◌to◌
abbrev pub ◌from◌to◌ : ℕ → ℕ → ℕ → Range
first from least to most = (first, least, most)

abbrev pub first_word : Range → ℕ
first_word r = r.0

abbrev pub least_in : Range → ℕ
least_in r = r.1

abbrev pub most_in : Range → ℕ
most_in r = r.2

abbrev pub frame_fields : List Range
frame_fields =
    181 from 1 to 396  -- RSSCT
    ∷ 183 from 1 to 396  -- ASSCT
    ∷ 185 from 1 to 1579  -- SNSLN
    ∷ 187 from 1 to 1754  -- SWFPX
    ∷ 189 from 5 to 1758  -- SEFPX
    ∷ 191 from 1 to 1579  -- SNFLN
    ∷ 193 from 4 to 1582  -- SSFLN
    ∷ []

-- the numbers of the fields, in that order
abbrev pub frame_of : List ℕ → List ℕ
frame_of words = map (λ r. number_at (first_word r) words) frame_fields

-- the frame's westernmost and easternmost pixel, counted from 0
abbrev pub western : ℕ
western = 3

abbrev pub eastern : ℕ
eastern = 4

abbrev pub outside : Range → ℕ → Bool
outside r n = ltb n (least_in r) || ltb (most_in r) n

-- A west above its east counts as the eastern field out of range.
abbrev pub is_out : Range → List ℕ → ℕ → Bool
is_out r frame i = outside r (get_or frame i 0) || (eqb i eastern && ltb (get_or frame eastern 0) (get_or frame western 0))

-- The first word of the first field out of range, of those from field i on; 0 where none is.
unfoldable pub first_from : List Range → ℕ → List ℕ → ℕ
first_from [] i frame = 0
first_from (r ∷ rs) i frame = pick (is_out r frame i) (first_word r) (first_from rs (suc i) frame)

unfoldable pub first_out : List ℕ → ℕ
first_out frame = first_from frame_fields 0 frame
