-- The rows of the scope's numbered table that speak of words, by computation.
-- Assumes nothing.
use mathlib.Core.Path.{◌≡◌, refl}
use mathlib.Core.List.{[], ◌∷◌}
use Rattle.bits.specs.Bits.{bits, value, spell, words}
use Rattle.bits.specs.Fields.{words_of}

pub row7 : words_of 10 4 (0x00 ∷ 0x40 ∷ 0x20 ∷ 0x0C ∷ 0x04 ∷ []) ≡ 1 ∷ 2 ∷ 3 ∷ 4 ∷ []
unfolding bits value spell words words_of
row7 = refl

pub row8 : words_of 6 4 (0x04 ∷ 0x20 ∷ 0xC4 ∷ []) ≡ 1 ∷ 2 ∷ 3 ∷ 4 ∷ []
unfolding bits value spell words words_of
row8 = refl
