-- The comparison of two strings, byte by byte.
-- Assumes nothing.
use Prim.Native.Nat.{ℕ}
use mathlib.Core.Path.{◌≡◌, refl, ap, ap₂, ◌∙◌}
use mathlib.Core.Bool.{Bool, true, false, ◌&&◌}
use mathlib.Core.List.{List, [], ◌∷◌}
use lib.Dec.{eqb}
use lib.Pointwise.{pointwise}
use borrow.Author.Tests.{eqb-true, eq-eqb}
use Rattle.ground.proofs.LawsTests.{split}
use Rattle.copies.specs.Copies.{same_as}

-- it is what `==` says of two slices
pub slices_same : (xs ys : List ℕ) → pointwise eqb xs ys ≡ same_as xs ys
unfolding same_as
slices_same [] [] = refl
slices_same [] (y ∷ ys) = refl
slices_same (x ∷ xs) [] = refl
slices_same (x ∷ xs) (y ∷ ys) = ap (λ (t : Bool). eqb x y && t) (slices_same xs ys)

-- the comparison decides equality
pub same_refl : (xs : List ℕ) → same_as xs xs ≡ true
unfolding same_as
same_refl [] = refl
same_refl (x ∷ xs) = ap (λ (t : Bool). t && same_as xs xs) (eq-eqb x x refl) ∙ same_refl xs

pub same_equal : (xs ys : List ℕ) → same_as xs ys ≡ true → xs ≡ ys
unfolding same_as
same_equal [] [] h = refl
same_equal [] (y ∷ ys) h = let e : false ≡ true = h in cc
same_equal (x ∷ xs) [] h = let e : false ≡ true = h in cc
same_equal (x ∷ xs) (y ∷ ys) h =
    let s = split (eqb x y) (same_as xs ys) h in
    ap₂ (λ (z : ℕ) (zs : List ℕ). z ∷ zs) (eqb-true x y s.0) (same_equal xs ys s.1)
