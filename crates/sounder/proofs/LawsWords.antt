-- Words of a block that is not refused for its words: a part of them is as long as it should be, and each of them is a byte.
-- Assumes nothing.
use mathlib.Core.Path.{◌≡◌, refl, ap₂}
use mathlib.Core.List.{List, [], ◌∷◌, map}
use Prim.Native.Nat.{ℕ, suc, ◌+◌, ◌%◌, ◌≤◌}
use native.Mathlib.Nat.{mod-eq_of_lt}
use native.Mathlib.Omega.{arith}
use lib.ListN.{length, take, drop, length-take, length-drop}
use lib.Seq.{get_or-drop}
use Rattle.bits.proofs.LawsBelow.{below_at, below_all, below_take}
use Rattle.sounder.specs.Words.{Small}

-- ---- a part

module _ (words : List ℕ) (from long : ℕ) where
  pub part_long : from + long ≤ length words → length (take long (drop from words)) ≡ long
  part_long h = simp (length-take, length-drop) (omega arith)

  pub part_small : Small words → Small (take long (drop from words))
  part_small s =
      below_at 256 (take long (drop from words)) (omega arith)
      (below_take 256 long (drop from words) (below_all 256 (drop from words) (λ i. rw get_or-drop (s (from + i)))))

-- ---- words as bytes

pub all_bytes : (words : List ℕ) → Small words → map (λ w. w % 256) words ≡ words
all_bytes [] s = refl
all_bytes (w ∷ ws) s = ap₂ (λ (x : ℕ) (l : List ℕ). x ∷ l) (mod-eq_of_lt (s 0)) (all_bytes ws (λ i. s (suc i)))
