-- Numbers stored in a row are laid; a span's entry is its piece's; copies are compared where they lie.
-- Assumes nothing.
use Prim.Native.Nat.{ℕ, ◌+◌, ◌-◌, ◌≤◌, ◌<◌}
use mathlib.Core.Path.{◌≡◌, refl, sym, ap, ◌∙◌}
use mathlib.Core.Bool.{Bool, true, false}
use mathlib.Core.List.{List, [], ◌∷◌}
use native.Mathlib.Omega.{arith}
use lib.ListN.{length, set}
use borrow.Author.Tests.{lt-ltb, le-ltb}
use Rattle.ground.proofs.LawsChoice.{yes, no}
use Rattle.room.specs.Laid.{laid}
use Rattle.room.proofs.LawsLaid.{laid_set, laid_snoc}
use Rattle.copies.specs.Copies.{copy_at, same_as}
use Rattle.salvaging.specs.Pieces.{span, gap, span_entry, differs}

pub laid_three : (r : List ℕ) (w a b c : ℕ) → w + 3 ≤ length r → set (set (set r w a) (w + 1) b) (w + 2) c ≡ laid r w (a ∷ b ∷ c ∷ [])
laid_three r w a b c h =
    ap (λ (l : List ℕ). set (set l (w + 1) b) (w + 2) c) (laid_set r w a (omega arith))
    ∙ ap (λ (l : List ℕ). set l (w + 2) c) (laid_snoc r w (a ∷ []) b (omega arith))
    ∙ laid_snoc r w (a ∷ b ∷ []) c (omega arith)

module _ (from to : ℕ) where
  pub gap_some : from < to → gap from to ≡ span from (to - from) ∷ []
  unfolding gap
  gap_some h = sym (yes {x = span from (to - from) ∷ []} [] refl (lt-ltb from to h) refl)

  pub gap_none : to ≤ from → gap from to ≡ []
  unfolding gap
  gap_none h = sym (no {x = []} _ refl (le-ltb from to h) refl)

  pub entry_some : from < to → span_entry from to ≡ from ∷ (to - from) ∷ 8 ∷ []
  unfolding span_entry
  entry_some h = sym (yes {x = from ∷ (to - from) ∷ 8 ∷ []} [] refl (lt-ltb from to h) refl)

  pub entry_none : to ≤ from → span_entry from to ≡ []
  unfolding span_entry
  entry_none h = sym (no {x = []} _ refl (le-ltb from to h) refl)

module _ (one k : ℕ) (rest : List ℕ) {t : Bool} (e : t ≡ same_as (copy_at one rest) (copy_at k rest)) where
  pub same_0 : t ≡ true → 0 ≡ differs one k rest
  unfolding differs
  same_0 h = yes 1 e h refl

  pub differ_1 : t ≡ false → 1 ≡ differs one k rest
  unfolding differs
  differ_1 h = no 0 e h refl
