-- Row 11 of the table to prove, on time tags, and a tag whose numbers all differ, with no leap days. The bytes are written in hexadecimal,
-- as the scope has them.
-- Assumes nothing.
use Rattle.std.specs.Prelude.{◌≡◌, true, [], ◌∷◌}
use Rattle.tag.specs.Tags.{read_tag, zero_tag}

-- Day 366 is good in 2008, refusal 12 in 2007.
pub record Row11 : Type 0 where
  pub good : (read_tag [] (0x20 ∷ 0x08 ∷ 0x36 ∷ 0x60 ∷ 0x00 ∷ 0x00 ∷ 0x00 ∷ 0x00 ∷ [])).number ≡ 0
  pub bad : read_tag [] (0x20 ∷ 0x07 ∷ 0x36 ∷ 0x60 ∷ 0x00 ∷ 0x00 ∷ 0x00 ∷ 0x00 ∷ []) ≡ record { number = 12; tag = zero_tag }

-- The rows have minute and second alike. Tag 19 87 A3 42 14 35 67 89 is 1987 day 234, 21:43:56.789, flywheel on.
abbrev pub AllDiffer : Type 0
AllDiffer =
    read_tag [] (0x19 ∷ 0x87 ∷ 0xA3 ∷ 0x42 ∷ 0x14 ∷ 0x35 ∷ 0x67 ∷ 0x89 ∷ [])
    ≡ record { number = 0; tag = record { year = 1987; day = 234; hour = 21; minute = 43; second = 56; ms = 789; flywheel = true } }
