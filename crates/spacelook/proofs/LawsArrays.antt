-- The arrays of a layout by their places: where a field's stands, and that each lies within a block.
-- Assumes nothing.
use mathlib.Core.Path.{◌≡◌, refl, sym, ap, ◌∙◌, subst}
use mathlib.Core.Bool.{Bool, true, false, ◌&&◌}
use mathlib.Core.List.{List, [], ◌∷◌, ◌++◌}
use Prim.Native.Nat.{ℕ, zero, suc, ◌+◌, ◌-◌, ◌*◌, ◌≤◌, ◌<◌}
use native.Mathlib.Nat.{le_of_suc-le-suc, not-suc-le-zero}
use native.Mathlib.Omega.{arith}
use lib.Dec.{T, leb, leb→le}
use lib.ListN.{length, get_or, take, get_or-eq_default}
use lib.Seq.{take-suc}
use borrow.Author.Tests.{leb-true, leb-false}
use Rattle.ground.proofs.LawsTests.{T-first, T-second}
use Rattle.parity.specs.declared.Layout.{Layout}
use Rattle.parity.specs.declared.Layout.TheVariants.{ImagerSpacelook, SounderSpacelook}
use Rattle.spacelook.specs.declared.Array.{Array}
use Rattle.spacelook.specs.Arrays.{first_word, count_of, arrays_in, no_array, array_at, row_of, Inside, numbers_in}

-- ---- a field

pub no_field : (layout : Layout) → row_of layout 0 ≡ no_array
unfolding row_of
no_field layout = refl

pub field_at : (layout : Layout) (field : ℕ) → 1 ≤ field → row_of layout field ≡ get_or (arrays_in layout) (field - 1) no_array
unfolding row_of array_at
field_at layout zero h = absurd (omega arith)
field_at layout (suc k) h =
    let e : k ≡ suc k - 1 = omega arith in
    ap (λ (n : ℕ). get_or (arrays_in layout) n no_array) e

pub no_more_fields : (layout : Layout) (field : ℕ) → length (arrays_in layout) < field → row_of layout field ≡ no_array
unfolding row_of
no_more_fields layout field h = get_or-eq_default (no_array ∷ arrays_in layout) no_array h

-- an array of a layout's table
pub next_is : (layout : Layout) {table : List Array} → table ≡ arrays_in layout → (k : ℕ) → get_or table k no_array ≡ array_at layout k
unfolding array_at
next_is layout e k = ap (λ (l : List Array). get_or l k no_array) e

-- ---- each lies within a block

-- a test of each of them, which antt computes, and what it shows of any one
abbrev each : (Array → Bool) → List Array → Bool
each test [] = true
each test (a ∷ rest) = test a && each test rest

each_at : (test : Array → Bool) (l : List Array) → T (each test l) → (k : ℕ) → k < length l → T (test (get_or l k no_array))
each_at test [] t k h = absurd (not-suc-le-zero h)
each_at test (a ∷ rest) t zero h = T-first (test a) (each test rest) t
each_at test (a ∷ rest) t (suc k) h = each_at test rest (T-second (test a) (each test rest) t) k (le_of_suc-le-suc h)

abbrev is_inside : Array → Bool
is_inside a = leb 1 (first_word a) && leb (first_word a + 4 * count_of a) 8041

all_inside : (layout : Layout) → T (each is_inside (arrays_in layout))
all_inside ImagerSpacelook = tt
all_inside SounderSpacelook = tt

pub inside : (layout : Layout) (k : ℕ) → k < length (arrays_in layout) → Inside (array_at layout k)
unfolding array_at
inside layout k h =
    let a = get_or (arrays_in layout) k no_array in
    let t = each_at is_inside (arrays_in layout) (all_inside layout) k h in (
      leb→le 1 (first_word a) (T-first (leb 1 (first_word a)) _ t),
      leb→le (first_word a + 4 * count_of a) 8041 (T-second (leb 1 (first_word a)) _ t),
    )

-- a field that has a number lies within a block
field_inside : (layout : Layout) (field index : ℕ) → index < count_of (row_of layout field) → Inside (row_of layout field)
field_inside layout zero index h = absurd (not-suc-le-zero (subst (λ (a : Array). index < count_of a) (no_field layout) h))
field_inside layout (suc k) index h = by (leb (suc k) (length (arrays_in layout))) refl
  where
    by : (t : Bool) → leb (suc k) (length (arrays_in layout)) ≡ t → Inside (row_of layout (suc k))
    by true e = subst Inside (sym (field_at layout (suc k) (omega arith) ∙ next_is layout refl (suc k - 1))) (inside layout (suc k - 1) (omega (arith, leb-true (suc k) (length (arrays_in layout)) e)))
    by false e =
        let none = no_more_fields layout (suc k) (leb-false (suc k) (length (arrays_in layout)) e) in
        absurd (not-suc-le-zero (subst (λ (a : Array). index < count_of a) none h))

pub found_inside : (layout : Layout) (field index : ℕ) {a : Array} → a ≡ row_of layout field → index < count_of a → Inside a
found_inside layout field index {a} e h =
    subst Inside (sym e) (field_inside layout field index (subst (λ (r : Array). index < count_of r) e h))

-- ---- the first arrays of a layout, one by one

pub numbers_joined : (l m : List Array) → numbers_in (l ++ m) ≡ numbers_in l + numbers_in m
numbers_joined [] m = sym (omega arith)
numbers_joined (a ∷ l) m = omega (arith, numbers_joined l m)

-- the first k + 1 of them are the first k and the next
pub one_more : (layout : Layout) (k : ℕ) → k < length (arrays_in layout)
    → take (k + 1) (arrays_in layout) ≡ take k (arrays_in layout) ++ (array_at layout k ∷ [])
unfolding array_at
one_more layout k h =
    let e : k + 1 ≡ suc k = omega arith in
    ap (λ (n : ℕ). take n (arrays_in layout)) e ∙ take-suc (arrays_in layout) k no_array h
