-- What the definition of the verdicts comes to on a block that is accepted and on one that is refused, for callers that keep it shut.
-- Assumes nothing.
use mathlib.Core.Path.{◌≡◌}
use mathlib.Core.List.{List}
use Prim.Native.Nat.{ℕ}
use lib.ListN.{length}
use borrow.Author.Tests.{eq-eqb, ne_eqb}
use Rattle.parity.specs.declared.Layout.{Layout}
use Rattle.parity.specs.Sections.{sections_in, verdicts_on, judged_as, refused_by, sections_of}
use Rattle.parity.specs.Words.{ground_of}

module _ (layout : Layout) (words : List ℕ) where
  pub accepts : ground_of words ≡ 0 → judged_as (length (sections_in layout)) (verdicts_on layout words) ≡ sections_of layout words
  unfolding sections_of
  accepts h = rw (eq-eqb (ground_of words) 0 h)

  pub refuses : (ground_of words ≡ 0 → ⊥) → sections_of layout words ≡ refused_by (ground_of words)
  unfolding sections_of
  refuses h = rw (ne_eqb (ground_of words) 0 h)
