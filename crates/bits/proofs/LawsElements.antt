-- Parts of a list: four or eight elements one by one, and all behind a place.
-- Assumes nothing.
use mathlib.Core.Path.{◌≡◌, refl, ap, ◌∙◌}
use mathlib.Core.List.{List, [], ◌∷◌}
use Prim.Native.Nat.{ℕ, zero, suc, ◌+◌, ◌-◌, ◌≤◌}
use native.Mathlib.Nat.{le_of_eq}
use native.Mathlib.Numerals.{add-one, add-two, add-three, add-four, add_five, add_six, add_seven}
use native.Mathlib.Omega.{arith}
use lib.ListN.{length, take, drop, get_or, length-drop}
use lib.Seq.{drop-cons, take_all}

-- the elements at i, i + 1, .. : n of them
elements : List ℕ → ℕ → ℕ → List ℕ
elements s i zero = []
elements s i (suc n) = get_or s i 0 ∷ elements s (suc i) n

part : (s : List ℕ) (n i : ℕ) → i + n ≤ length s → take n (drop i s) ≡ elements s i n
unfolding elements
part s zero i h = refl
part s (suc n) i h =
    ap (take (suc n)) (drop-cons s i 0 (omega arith)) ∙ ap (λ (l : List ℕ). get_or s i 0 ∷ l) (part s n (suc i) (omega arith))

pub part_four : (s : List ℕ) (i : ℕ) → i + 4 ≤ length s → take 4 (drop i s) ≡ get_or s i 0 ∷ get_or s (i + 1) 0 ∷ get_or s (i + 2) 0 ∷ get_or s (i + 3) 0 ∷ []
unfolding elements
part_four s i h = simp (add-one, add-two, add-three) (part s 4 i h)

pub part_eight : (s : List ℕ) (i : ℕ) → i + 8 ≤ length s
    → take 8 (drop i s)
    ≡ get_or s i 0 ∷ get_or s (i + 1) 0 ∷ get_or s (i + 2) 0 ∷ get_or s (i + 3) 0 ∷ get_or s (i + 4) 0 ∷ get_or s (i + 5) 0 ∷ get_or s (i + 6) 0 ∷ get_or s (i + 7) 0 ∷ []
unfolding elements
part_eight s i h = simp (add-one, add-two, add-three, add-four, add_five, add_six, add_seven) (part s 8 i h)

-- a part up to the end is all behind its start
pub to_end : (k : ℕ) (l : List ℕ) → take (length l - k) (drop k l) ≡ drop k l
to_end k l = take_all (length l - k) (drop k l) (le_of_eq (length-drop k l))
