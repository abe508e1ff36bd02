-- The verdicts are set one after another, in a list of four that begins as false; and every section of a layout lies in a block.
-- Assumes nothing.
use Prim.Native.Nat.{ℕ, zero, suc, ◌+◌, ◌≤◌, ◌<◌}
use mathlib.Core.Path.{◌≡◌, refl, sym, ap, ◌∙◌}
use mathlib.Core.Bool.{Bool}
use mathlib.Core.List.{List, [], ◌∷◌, map}
use native.Mathlib.Numerals.{add-one}
use native.Mathlib.Omega.{arith}
use lib.Dec.{lit≤}
use lib.ListN.{length, get_or, set, drop, drop_of_length-le}
use lib.Seq.{drop-cons}
use Rattle.parity.specs.declared.Layout.{Layout}
use Rattle.parity.specs.declared.Layout.TheVariants.{ImagerSpacelook, SounderSpacelook}
use Rattle.parity.specs.declared.Section.{Section}
use Rattle.parity.specs.Sections.{◌to◌kept_in◌, sections_in, holds_in, LiesIn, four_of, verdicts_on}
use Rattle.parity.specs.Words.{block_words}

abbrev pub no_section : Section
no_section = 0 to 0 kept_in 0

pub few : (l : Layout) → length (sections_in l) ≤ 4
few ImagerSpacelook = lit≤ tt
few SounderSpacelook = lit≤ tt

pub lies : (l : Layout) (i : ℕ) → i < length (sections_in l) → LiesIn (get_or (sections_in l) i no_section) block_words
lies ImagerSpacelook zero h = record { starts = lit≤ tt; ends = lit≤ tt; within = lit≤ tt; kept = lit≤ tt; kept_within = lit≤ tt }
lies ImagerSpacelook (suc zero) h = record { starts = lit≤ tt; ends = lit≤ tt; within = lit≤ tt; kept = lit≤ tt; kept_within = lit≤ tt }
lies ImagerSpacelook (suc (suc zero)) h = record { starts = lit≤ tt; ends = lit≤ tt; within = lit≤ tt; kept = lit≤ tt; kept_within = lit≤ tt }
lies ImagerSpacelook (suc (suc (suc zero))) h = record { starts = lit≤ tt; ends = lit≤ tt; within = lit≤ tt; kept = lit≤ tt; kept_within = lit≤ tt }
lies ImagerSpacelook (suc (suc (suc (suc i)))) h = absurd (omega arith)
lies SounderSpacelook zero h = record { starts = lit≤ tt; ends = lit≤ tt; within = lit≤ tt; kept = lit≤ tt; kept_within = lit≤ tt }
lies SounderSpacelook (suc zero) h = record { starts = lit≤ tt; ends = lit≤ tt; within = lit≤ tt; kept = lit≤ tt; kept_within = lit≤ tt }
lies SounderSpacelook (suc (suc i)) h = absurd (omega arith)

-- these set from i on
abbrev set_from : List Bool → ℕ → List Bool → List Bool
set_from holds i [] = holds
set_from holds i (b ∷ bs) = set_from (set holds i b) (suc i) bs

all_set : (l : Layout) (words : List ℕ) → set_from (four_of []) 0 (map (λ s. holds_in s words) (sections_in l)) ≡ verdicts_on l words
all_set ImagerSpacelook words = refl
all_set SounderSpacelook words = refl

module _ (l : Layout) (words : List ℕ) where
  -- with those of the sections from i on, they are the layout's
  pub record Judging (sections : List Section) (holds : List Bool) (i : ℕ) : Type 0 where
    pub onward : set_from holds i (map (λ s. holds_in s words) (drop i sections)) ≡ verdicts_on l words

  pub start : {sections : List Section} → sections ≡ sections_in l → Judging sections (four_of []) 0
  start e = record { onward = ap (λ (ss : List Section). set_from (four_of []) 0 (map (λ s. holds_in s words) ss)) e ∙ all_set l words }

  module _ {sections : List Section} {holds : List Bool} {i : ℕ} (s : Judging sections holds i) where
    pub next : {v : Bool} → i < length sections → v ≡ holds_in (get_or sections i no_section) words → Judging sections (set holds i v) (i + 1)
    next h e =
        record {
          onward =
              rw (add-one, e)
              (ap (λ (ss : List Section). set_from holds i (map (λ s. holds_in s words) ss)) (sym (drop-cons sections i no_section h)) ∙ s.onward);
        }

    pub finish : length sections ≤ i → holds ≡ verdicts_on l words
    finish h = ap (λ (ss : List Section). set_from holds i (map (λ s. holds_in s words) ss)) (sym (drop_of_length-le sections h)) ∙ s.onward
