-- The table to prove: thirteen rows over the definitions. Assumes nothing.
use Rattle.std.specs.Prelude.{◌≡◌, [], ◌∷◌}
use Rattle.bits.specs.Fields.{words_of}
use Rattle.row.specs.Promises.{Measures}
use Rattle.tag.specs.Table.{Row11}
use Rattle.time.specs.Table.{Row9, Row10, Row12}
use Rattle.parity.specs.Promises.{Row13}

pub record TableToProve : Type 0 where
  -- block, C: bytes of the field, fill bits
  pub row1 : Measures 1 68 2680 20760
  pub row2 : Measures 1 21008 26260 0
  pub row3 : Measures 2 15756 19696 8
  pub row4 : Measures 3 20960 26200 0
  pub row5 : Measures 1 2144 2680 0
  pub row6 : Measures 1 2148 2686 8
  -- ten-bit and six-bit words 1, 2, 3, 4
  pub row7 : words_of 10 4 (0x00 ∷ 0x40 ∷ 0x20 ∷ 0x0C ∷ 0x04 ∷ []) ≡ 1 ∷ 2 ∷ 3 ∷ 4 ∷ []
  pub row8 : words_of 6 4 (0x04 ∷ 0x20 ∷ 0xC4 ∷ []) ≡ 1 ∷ 2 ∷ 3 ∷ 4 ∷ []
  -- a tag, one a millisecond later and backward; the flywheel mark; day 366; a day across the year's end
  pub row9 : Row9
  pub row10 : Row10
  pub row11 : Row11
  pub row12 : Row12
  -- the XOR of 01, 02, 03
  pub row13 : Row13
