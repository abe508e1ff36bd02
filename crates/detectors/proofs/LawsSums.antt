-- Sums of so many numbers, part by part, and what the bits of a list are place by place: their sum is how many are 1, and all before the first
-- such are 0. By induction on the numbers or the list.
-- Assumes nothing.
use mathlib.Core.Path.{◌≡◌, refl, sym, ap, ap₂, ◌∙◌}
use mathlib.Core.Bool.{true}
use mathlib.Core.List.{List, [], ◌∷◌}
use mathlib.Core.Logic.{◌↔◌}
use Prim.Native.Nat.{ℕ, zero, suc, ◌+◌, ◌*◌, ◌≤◌, ◌<◌}
use native.Mathlib.Nat.{zero-add, zero-mul, suc-mul, add_comm, add_assoc, suc-add, zero-lt-suc}
use native.Mathlib.Omega.{arith}
use borrow.Author.Tests.{eq-eqb, eqb-true}
use lib.Dec.{eqb}
use lib.ListN.{length, get_or}
use Rattle.ground.proofs.LawsTests.{both, first, second}
use Rattle.bits.specs.Fields.{all_zero}
use Rattle.detectors.specs.Status.{set_in, before_set}
use Rattle.detectors.specs.Promises.{sum_to}

-- ---- sums

pub sum_same : (n : ℕ) {f g : ℕ → ℕ} → ((i : ℕ) → i < n → f i ≡ g i) → sum_to n f ≡ sum_to n g
unfolding sum_to
sum_same zero e = refl
sum_same (suc n) e = ap₂ (λ (x y : ℕ). x + y) (e 0 (zero-lt-suc n)) (sum_same n (λ i h. e (suc i) (omega arith)))

sum_add : (m n : ℕ) (f : ℕ → ℕ) → sum_to (m + n) f ≡ sum_to m f + sum_to n (λ i. f (m + i))
unfolding sum_to
sum_add zero n f = simp zero-add
sum_add (suc m) n f = simp suc-add (ap (λ (x : ℕ). f 0 + x) (sum_add m n (λ i. f (suc i))) ∙ sym (add_assoc _ _ _))

-- m parts of k numbers each
pub sum_parts : (m k : ℕ) (f : ℕ → ℕ) → sum_to (m * k) f ≡ sum_to m (λ c. sum_to k (λ d. f (c * k + d)))
unfolding sum_to
sum_parts zero k f = ap (λ (n : ℕ). sum_to n f) (zero-mul k)
sum_parts (suc m) k f =
    let front : (d : ℕ) → d ≡ 0 * k + d = λ d. omega (arith, zero-mul k) in
    let behind : (c d : ℕ) → k + (c * k + d) ≡ suc c * k + d = λ c d. omega (arith, suc-mul c k) in
    ap (λ (n : ℕ). sum_to n f) (suc-mul m k ∙ add_comm (m * k) k) ∙ sum_add k (m * k) f
    ∙ ap₂ (λ (x y : ℕ). x + y) (λ i. sum_to k (λ d. f (front d i)))
    (sum_parts m k (λ i. f (k + i)) ∙ (λ i. sum_to m (λ c. sum_to k (λ d. f (behind c d i)))))

-- ---- the bits of a list

pub set_sum : (bs : List ℕ) → set_in bs ≡ sum_to (length bs) (λ i. get_or bs i 0)
unfolding set_in sum_to
set_sum [] = refl
set_sum (b ∷ bs) = ap (λ (n : ℕ). b + n) (set_sum bs)

pub before_zero : (bs : List ℕ) (i : ℕ) → i < before_set bs → get_or bs i 0 ≡ 0
unfolding before_set
before_zero [] i h = refl
before_zero (zero ∷ bs) zero h = refl
before_zero (zero ∷ bs) (suc i) h = before_zero bs i (omega arith)
before_zero (suc b ∷ bs) i h = absurd (omega arith)

pub first_set : (bs : List ℕ) → before_set bs < length bs → 1 ≤ get_or bs (before_set bs) 0
unfolding before_set
first_set [] h = absurd (omega arith)
first_set (zero ∷ bs) h = first_set bs (omega arith)
first_set (suc b ∷ bs) h = omega arith

-- all are passed exactly where none is 1
pub none_is_set : (bs : List ℕ) → (length bs ≤ before_set bs) ↔ (set_in bs ≡ 0)
unfolding set_in before_set
none_is_set [] = (λ _. refl, λ _. omega arith)
none_is_set (zero ∷ bs) = let r = none_is_set bs in (λ h. omega (arith, r.0 (omega arith)), λ e. omega (arith, r.1 (omega arith)))
none_is_set (suc b ∷ bs) = (λ h. absurd (omega arith), λ e. absurd (omega arith))

pub zero_each : (bs : List ℕ) → all_zero bs ≡ true → (i : ℕ) → get_or bs i 0 ≡ 0
unfolding all_zero
zero_each [] h i = refl
zero_each (b ∷ bs) h zero = eqb-true b 0 (first (eqb b 0) (all_zero bs) h)
zero_each (b ∷ bs) h (suc i) = zero_each bs (second (eqb b 0) (all_zero bs) h) i

pub each_zero : (bs : List ℕ) → ((i : ℕ) → i < length bs → get_or bs i 0 ≡ 0) → all_zero bs ≡ true
unfolding all_zero
each_zero [] h = refl
each_zero (b ∷ bs) h = both (eq-eqb b 0 (h 0 (zero-lt-suc (length bs)))) (each_zero bs (λ i l. h (suc i) (omega arith)))
