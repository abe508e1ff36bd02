-- Parity sections: what their parity is, which sections the two layouts have, and the verdicts on a block.
-- Assumes nothing.
use Rattle.std.specs.Prelude.{ℕ, ◌+◌, ◌-◌, ◌≤◌, Bool, false, eqb, length, get_or, take, drop, Result, Ok, Err}
use mathlib.Core.List.{List, [], ◌∷◌, ◌++◌, map, foldl}
use Rattle.std.specs.Int.Bits.{bit_xor}
use Rattle.ground.specs.Choice.{pick}
use Rattle.ground.specs.declared.Refusal.{Refusal}
use Rattle.ground.specs.Refusals.{number_of}
use Rattle.parity.specs.declared.Layout.{Layout}
use Rattle.parity.specs.declared.Layout.TheVariants.{ImagerSpacelook, SounderSpacelook}
use Rattle.parity.specs.declared.Section.{Section}
use Rattle.parity.specs.declared.Sections.{Sections}
use Rattle.parity.specs.Words.{ground_of}

-- The parity of a section is its words joined by exclusive or.
unfoldable pub xor_of : List ℕ → ℕ
xor_of = foldl bit_xor 0

-- `223 to 701 kept_in 702` is words 223 to 701, counted from 1, with their parity in word 702.
infix 70 ◌to◌kept_in◌
abbrev pub ◌to◌kept_in◌ : ℕ → ℕ → ℕ → Section
first to last kept_in parity = (first, last, parity)

abbrev pub first_word : Section → ℕ
first_word s = s.0

abbrev pub last_word : Section → ℕ
last_word s = s.1

abbrev pub parity_word : Section → ℕ
parity_word s = s.2

-- Block 1 of each spacelook: the Imager's by Table 3-22 of source 001, the Sounder's by Table 3-26 of source 000.
abbrev pub sections_in : Layout → List Section
sections_in ImagerSpacelook =
    1 to 221 kept_in 222 ∷ 223 to 701 kept_in 702 ∷ 703 to 1181 kept_in 1182 ∷ 1183 to 7902 kept_in 7906 ∷ []
sections_in SounderSpacelook = 1 to 221 kept_in 222 ∷ 223 to 2926 kept_in 2927 ∷ []

-- word k of a block, counted from 1, and words first to last
abbrev pub word : List ℕ → ℕ → ℕ
word words k = get_or words (k - 1) 0

abbrev pub words_from : ℕ → ℕ → List ℕ → List ℕ
words_from first last words = take (last + 1 - first) (drop (first - 1) words)

-- A section's parity holds where the XOR of its words is its parity word.
unfoldable pub holds_in : Section → List ℕ → Bool
holds_in s words = eqb (xor_of (words_from (first_word s) (last_word s) words)) (word words (parity_word s))

-- a section that lies, with its parity word, within n words
pub record LiesIn (s : Section) (n : ℕ) : Type 0 where
  pub starts : 1 ≤ first_word s
  pub ends : first_word s ≤ last_word s
  pub within : last_word s ≤ n
  pub kept : 1 ≤ parity_word s
  pub kept_within : parity_word s ≤ n

-- a verdict for each section; where there are fewer than four the last are false
abbrev pub four_of : List Bool → List Bool
four_of l = take 4 (l ++ (false ∷ false ∷ false ∷ false ∷ []))

abbrev pub verdicts_on : Layout → List ℕ → List Bool
verdicts_on layout words = four_of (map (λ s. holds_in s words) (sections_in layout))

-- the answer as numbers: 0 and the verdicts with how many there are, or a refusal's number and zeros
pub record SectionsAnswer : Type 0 where
  pub number : ℕ
  pub count : ℕ
  pub holds : List Bool

abbrev pub judged_as : ℕ → List Bool → SectionsAnswer
judged_as n l = record { number = 0; count = n; holds = l }

-- A refusal returns its number; every count and mark in it is zero.
abbrev pub refused_by : ℕ → SectionsAnswer
refused_by n = record { number = n; count = 0; holds = four_of [] }

unfoldable pub sections_of : Layout → List ℕ → SectionsAnswer
sections_of layout words =
    pick (eqb (ground_of words) 0)
    (judged_as (length (sections_in layout)) (verdicts_on layout words))
    (refused_by (ground_of words))

-- what is told of an answer
abbrev pub told : Result Sections Refusal → SectionsAnswer
told (Ok s) = judged_as s.count s.holds
told (Err r) = refused_by (number_of r)
