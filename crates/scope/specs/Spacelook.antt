-- Spacelook numbers: what is answered for a field and an index, and for all numbers of a block. Words and fields count from 1, indexes from 0.
-- Assumes nothing.
use Rattle.std.specs.Prelude.{ℕ, ◌≤◌, ◌<◌, ◌≡◌, ◌⊎◌, false, List, [], ◌∷◌, pos, Float, length, get_or}
use Rattle.std.specs.Float.{fin, binary64}
use Rattle.std.specs.Float.Ieee.{to_bits}
use Rattle.parity.specs.declared.Layout.{Layout}
use Rattle.parity.specs.declared.Layout.TheVariants.{ImagerSpacelook, SounderSpacelook}
use Rattle.floating.specs.Floating.{reading_of}
use Rattle.floating.specs.Cases.{value_of}
use Rattle.floating.specs.Promises.{Reading32, Covering, Negating, Ordering, Numbered, Examples}
use Rattle.spacelook.specs.Answers.{answer_in, case_in, value_in}
use Rattle.spacelook.specs.Numbers.{found_of, filled_of}
use Rattle.spacelook.specs.Promises.{Imager, Sounder, Apart, Told, Filling}
use Rattle.scope.specs.Notions.{Reason, ◌if◌, FirstOf}

-- how many numbers each field has, from field 1 on, and all together
abbrev pub counts : Layout → List ℕ
counts ImagerSpacelook =
    15 ∷ 15 ∷ 15 ∷ 15 ∷ 7 ∷ 7
    ∷ 15 ∷ 15 ∷ 15 ∷ 15 ∷ 7 ∷ 7
    ∷ 120 ∷ 120 ∷ 120 ∷ 120 ∷ 120 ∷ 120 ∷ 120
    ∷ 120 ∷ 120 ∷ 120 ∷ 120 ∷ 120 ∷ 120 ∷ 120
    ∷ []
counts SounderSpacelook = 76 ∷ 76 ∷ 76 ∷ 76 ∷ 72 ∷ 72 ∷ []

abbrev pub all : Layout → ℕ
all ImagerSpacelook = 1828
all SounderSpacelook = 448

-- 8: not 8,040 words. 14: a word over 255, anywhere. 13: no such field, or no such index in it; there is no field 0.
abbrev pub reasons : Layout → List ℕ → ℕ → ℕ → List Reason
reasons layout ws field index =
    8 if (length ws ≡ 8040 → ⊥)
    ∷ 14 if ((i : ℕ) × (255 < get_or ws i 0))
    ∷ 13 if (get_or (0 ∷ counts layout) field 0 ≤ index)
    ∷ []

-- Of all numbers it is 9 where one of the rooms is too small for them.
abbrev pub all_reasons : Layout → List ℕ → ℕ → ℕ → List Reason
all_reasons layout ws room room-for-cases =
    8 if (length ws ≡ 8040 → ⊥)
    ∷ 14 if ((i : ℕ) × (255 < get_or ws i 0))
    ∷ 9 if ((room < all layout) ⊎ (room-for-cases < all layout))
    ∷ []

pub record Refusing : Type 0 where
  pub number : (layout : Layout) (ws : List ℕ) (field i : ℕ) → FirstOf (reasons layout ws field i) (answer_in (found_of layout ws field i))
  -- zeros beside a refusal
  pub zeros : (layout : Layout) (ws : List ℕ) (field i : ℕ) → (answer_in (found_of layout ws field i) ≡ 0 → ⊥)
      → (case_in (found_of layout ws field i) ≡ 0) × (value_in (found_of layout ws field i) ≡ fin false 0 (pos 0))
  pub all_number : (layout : Layout) (ws : List ℕ) (room cases : ℕ) → FirstOf (all_reasons layout ws room cases) (filled_of layout ws room cases).number

pub record Numbers : Type 0 where
  -- every word of 32 bits: zero, the number that its exponent and fraction make, exactly, or not normal; in numbers 0, 1 and 2
  pub reading : Reading32
  pub covering : Covering
  pub negating : Negating
  pub ordering : Ordering
  pub numbered : Numbered
  pub examples : Examples
  -- each array of the tables with its first word, its count and its place among all, by the source's name
  pub imager : Imager
  pub sounder : Sounder
  pub apart : Apart
  pub refusing : Refusing
  -- what the two rooms hold afterwards
  pub filling : (layout : Layout) (ws : List ℕ) (numbers : List Float) (cases : List ℕ) → Filling layout ws numbers cases
  -- what C is given of a number that is read
  pub told : Told
  -- to the bit: -1, and 0.1640625
  pub bits : (to_bits binary64 (value_of (reading_of 0xBEF00000)) ≡ 0xBFF0000000000000) × (to_bits binary64 (value_of (reading_of 0x402A0000)) ≡ 0x3FC5000000000000)
