-- The quick formula for the days before a year: what counting year by year comes to.
-- Assumes nothing.
use mathlib.Core.Path.{◌≡◌, refl, ap, ◌∙◌}
use Prim.Native.Nat.{ℕ, zero, suc, ◌+◌, ◌*◌, ◌-◌, ◌/◌, ◌%◌, ◌<◌}
use native.Mathlib.Omega.{arith}
use native.Mathlib.Nat.{div-add-mod', add-mul-div_right, mod-lt}
use mathlib.Core.Bool.{Bool, true, false, not, ◌&&◌, ◌||◌}
use lib.Arith.{digits_div}
use lib.Dec.{eqb}
use borrow.Author.Tests.{eqb-true, eqb-false, eq-eqb}
use Rattle.ground.specs.Choice.{pick}
use Rattle.calendar.specs.Years.{days_in}
use Rattle.time.specs.Years.{days_before}
use Rattle.ground.proofs.LawsTests.{never}

-- The multiples of p + 1 below y are (y + p) / (p + 1); below the next year there is one more where y is one.
pos_of : (n : ℕ) → (n ≡ 0 → ⊥) → 0 < n
pos_of zero h = absurd (h refl)
pos_of (suc n) h = omega arith

module _ (p y : ℕ) where
  whole : (suc y + p) / suc p ≡ y / suc p + 1
  whole = ap (λ (n : ℕ). n / suc p) (omega arith) ∙ add-mul-div_right y 1 (omega arith)

  multiples : (b : Bool) → eqb (y % suc p) 0 ≡ b → (suc y + p) / suc p ≡ (y + p) / suc p + pick b 1 0
  multiples true e =
      let z : y % suc p ≡ 0 = eqb-true (y % suc p) 0 e in
      let n : y + p ≡ y / suc p * suc p + p = omega (arith, div-add-mod' y (suc p)) in
      let q : (y + p) / suc p ≡ y / suc p = ap (λ (m : ℕ). m / suc p) n ∙ digits_div (y / suc p) (omega arith) in
      omega (arith, whole)
  multiples false e =
      let z : 0 < y % suc p = pos_of (y % suc p) (eqb-false (y % suc p) 0 e) in
      let r : y % suc p < suc p = mod-lt y (omega arith) in
      let n : y + p ≡ (y / suc p + 1) * suc p + (y % suc p - 1) = omega (arith, div-add-mod' y (suc p)) in
      let q : (y + p) / suc p ≡ y / suc p + 1 = ap (λ (m : ℕ). m / suc p) n ∙ digits_div (y / suc p + 1) (omega arith) in
      omega (arith, whole)

-- A leap year's day more, by the three tests: a multiple of 400 is one of 100, and that one of 4.
by_tests : (a b c : Bool) → (a ≡ true → b ≡ true) → (b ≡ true → c ≡ true) → pick (a || (not b && c)) 366 365 + pick b 1 0 ≡ 365 + pick c 1 0 + pick a 1 0
by_tests true true true p q = refl
by_tests false true true p q = refl
by_tests false false true p q = refl
by_tests false false false p q = refl
by_tests true false c p q = never (p refl)
by_tests true true false p q = never (q refl)
by_tests false true false p q = never (q refl)

divides : (y m n : ℕ) → (y % m ≡ 0 → y % n ≡ 0) → eqb (y % m) 0 ≡ true → eqb (y % n) 0 ≡ true
divides y m n f e = eq-eqb (y % n) 0 (f (eqb-true (y % m) 0 e))

-- 365 days a year, one more for each multiple of 4 and of 400 passed, one less for each of 100.
sums : (y : ℕ) → days_before y + (y + 99) / 100 ≡ 365 * y + (y + 3) / 4 + (y + 399) / 400
unfolding days_before
sums zero = refl
sums (suc y) =
    let f : (suc y + 3) / 4 ≡ (y + 3) / 4 + pick (eqb (y % 4) 0) 1 0 = multiples 3 y _ refl in
    let h : (suc y + 99) / 100 ≡ (y + 99) / 100 + pick (eqb (y % 100) 0) 1 0 = multiples 99 y _ refl in
    let k : (suc y + 399) / 400 ≡ (y + 399) / 400 + pick (eqb (y % 400) 0) 1 0 = multiples 399 y _ refl in
    let d : days_in y + pick (eqb (y % 100) 0) 1 0 ≡ 365 + pick (eqb (y % 4) 0) 1 0 + pick (eqb (y % 400) 0) 1 0 =
    by_tests (eqb (y % 400) 0) (eqb (y % 100) 0) (eqb (y % 4) 0) (divides y 400 100 (λ e. omega arith)) (divides y 100 4 (λ e. omega arith)) in
    omega (arith, sums y)

pub quick : (y : ℕ) → 365 * y + (y + 3) / 4 + (y + 399) / 400 - (y + 99) / 100 ≡ days_before y
quick y = omega (arith, sums y)
