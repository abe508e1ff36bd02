-- Parity sections. Assumes nothing.
use Rattle.std.specs.Prelude.{ℕ, ◌<◌, ◌≡◌, false, List, [], ◌∷◌, length, get_or}
use Rattle.std.specs.Int.Bits.{bit_xor}
use Rattle.parity.specs.Sections.{xor_of, sections_of}
use Rattle.parity.specs.Words.{ground_of}
use Rattle.parity.specs.Promises.{Judged, Covered}
use Rattle.parity.specs.declared.Layout.{Layout}
use Rattle.parity.specs.declared.Layout.TheVariants.{ImagerSpacelook, SounderSpacelook}
use Rattle.scope.specs.Notions.{Reason, ◌if◌, FirstOf}

-- The parity of a section is its words joined by exclusive or.
pub record Xor : Type 0 where
  pub none : xor_of [] ≡ 0
  pub one_more : (w : ℕ) (ws : List ℕ) → xor_of (w ∷ ws) ≡ bit_xor w (xor_of ws)

-- 8,040 words of eight bits; each section gets its own verdict. Another number of words is refusal 8; after that, a word over 255 is 14.
abbrev pub reasons : List ℕ → List Reason
reasons ws = 8 if (length ws ≡ 8040 → ⊥) ∷ 14 if ((i : ℕ) × (255 < get_or ws i 0)) ∷ []

pub record Judging : Type 0 where
  pub ground : (ws : List ℕ) → FirstOf (reasons ws) (ground_of ws)
  pub number : (layout : Layout) (ws : List ℕ) → FirstOf (reasons ws) (sections_of layout ws).number
  pub count : (ws : List ℕ) → (sections_of ImagerSpacelook ws).number ≡ 0 → ((sections_of ImagerSpacelook ws).count ≡ 4) × ((sections_of SounderSpacelook ws).count ≡ 2)
  pub refused : (layout : Layout) (ws : List ℕ) → ((sections_of layout ws).number ≡ 0 → ⊥)
      → sections_of layout ws ≡ record { number = (sections_of layout ws).number; count = 0; holds = false ∷ false ∷ false ∷ false ∷ [] }
  -- The crate `parity` prints the sections of both layouts, and is cited: each verdict is true exactly where the XOR of its words is its
  -- parity word; every word to 7906 (2927) is in exactly one section or is the parity word of one, but 7903 to 7905.
  pub verdicts : Judged
  pub covered : Covered
