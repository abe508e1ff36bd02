-- The outside vector: the check word of ASCII 123456789 is D64E.
-- Assumes nothing.
use mathlib.Core.Path.{◌≡◌, refl}
use mathlib.Core.List.{[], ◌∷◌}
use Rattle.bits.specs.Bits.{bits, spell}
use Rattle.check_rule.specs.Check.{fed, feed, check_by, check_word}

pub vector : check_word (49 ∷ 50 ∷ 51 ∷ 52 ∷ 53 ∷ 54 ∷ 55 ∷ 56 ∷ 57 ∷ []) ≡ 0xD64E
unfolding bits spell fed feed check_by
vector = refl
