-- What `count_ones` and `leading_zeros` count of a number (`lib.Count`), said of the list of its bits: how many are 1, and how many stand before
-- the first that is.
-- Assumes nothing.
use mathlib.Core.Path.{◌≡◌, refl, sym, ap, ap₂, ◌∙◌, subst}
use mathlib.Core.List.{List, [], ◌∷◌, ◌++◌}
use Prim.Native.Nat.{ℕ, zero, suc, ◌+◌, ◌*◌, ◌/◌, ◌%◌, ◌^◌, ◌≤◌, ◌<◌}
use native.Mathlib.Nat.{zero-mul, one-mul, zero-add, add_assoc, suc-add, zero-lt-suc, mod-lt, pow-suc, div-mul-le_self, lt-div-mul-add}
use native.Mathlib.Omega.{arith}
use lib.Arith.{lt-one}
use lib.Count.{ones, ones_cat, count_leading_zeros, leading_length, leading_unique}
use lib.ListN.{length}
use lib.Pow.{pow_pos, split, shr_lt}
use Rattle.bits.specs.Bits.{bits}
use Rattle.bits.proofs.LawsBits.{bits_mod}
use Rattle.detectors.specs.Status.{set_in, before_set}

-- ---- how many

pub set_append : (xs ys : List ℕ) → set_in (xs ++ ys) ≡ set_in xs + set_in ys
unfolding set_in
set_append [] ys = sym (zero-add (set_in ys))
set_append (x ∷ xs) ys = ap (λ (n : ℕ). x + n) (set_append xs ys) ∙ sym (add_assoc x (set_in xs) (set_in ys))

ones_bit : (b : ℕ) → b < 2 → ones b ≡ b
unfolding ones
ones_bit zero h = refl
ones_bit (suc zero) h = refl
ones_bit (suc (suc b)) h = absurd (omega arith)

one_more : (k : ℕ) → 1 + k ≡ suc k
one_more k = omega arith

-- the highest bit, and the rest
pub set_bits : (k n : ℕ) → n < 2 ^ k → set_in (bits k n) ≡ ones n
unfolding bits set_in
set_bits zero n h = sym (ap ones (lt-one h) ∙ ones_bit 0 (zero-lt-suc 1))
set_bits (suc k) n h =
    let top = n / 2 ^ k in
    let low = n % 2 ^ k in
    let bit : top < 2 = shr_lt 1 k (subst (λ (m : ℕ). n < 2 ^ m) (sym (one_more k)) h) in
    let small : low < 2 ^ k = mod-lt n (pow_pos k) in
    ap₂ (λ (x y : ℕ). x + y) (same_bit top bit) (ap set_in (sym (bits_mod k n)) ∙ set_bits k low small)
    ∙ sym (ones_cat k top low small) ∙ ap ones (split n k)
  where
    same_bit : (b : ℕ) → b < 2 → b % 2 ≡ ones b
    same_bit b h = omega (arith, ones_bit b h)

-- ---- how many before the first

pub first_here : (xs ys : List ℕ) → before_set xs < length xs → before_set (xs ++ ys) ≡ before_set xs
unfolding before_set
first_here [] ys h = absurd (omega arith)
first_here (zero ∷ xs) ys h = ap suc (first_here xs ys (omega arith))
first_here (suc x ∷ xs) ys h = refl

pub first_later : (xs ys : List ℕ) → before_set xs ≡ length xs → before_set (xs ++ ys) ≡ length xs + before_set ys
unfolding before_set
first_later [] ys h = sym (zero-add (before_set ys))
first_later (zero ∷ xs) ys h = ap suc (first_later xs ys (omega arith)) ∙ sym (suc-add (length xs) (before_set ys))
first_later (suc x ∷ xs) ys h = absurd (omega arith)

-- a number of k bits, as one of k + 1: its highest bit is 0, or it is 1 and the first
longer : (k n : ℕ) → n < 2 ^ k → suc (count_leading_zeros k n) ≡ count_leading_zeros (suc k) n
longer k n h = let l = leading_length k n h in leading_unique (suc k) n (suc (count_leading_zeros k n)) l.0 (omega (arith, l.1)) l.2 l.3

highest : (k n : ℕ) → 2 ^ k ≤ n → n < 2 ^ suc k → 0 ≡ count_leading_zeros (suc k) n
highest k n l h = leading_unique (suc k) n 0 (suc k) (zero-add (suc k)) h (omega (arith, pow-suc 2 k))

below : (n d : ℕ) → zero < d → n / d ≡ 0 → n < d
below n d p e = omega (arith, lt-div-mul-add {a = n} {b = d} p, ap (λ (q : ℕ). q * d) e, zero-mul d)

from : (n d : ℕ) → n / d ≡ 1 → d ≤ n
from n d e = omega (arith, div-mul-le_self n d, ap (λ (q : ℕ). q * d) e, one-mul d)

pub before_bits : (k n : ℕ) → n < 2 ^ k → before_set (bits k n) ≡ count_leading_zeros k n
unfolding bits before_set count_leading_zeros
before_bits zero n h = refl
before_bits (suc k) n h = by (n / 2 ^ k) refl (before_bits k n)
  where
    by : (top : ℕ) → n / 2 ^ k ≡ top → (n < 2 ^ k → before_set (bits k n) ≡ count_leading_zeros k n) → before_set (top % 2 ∷ bits k n) ≡ count_leading_zeros (suc k) n
    by zero e f = let low : n < 2 ^ k = below n (2 ^ k) (pow_pos k) e in ap suc (f low) ∙ longer k n low
    by (suc zero) e f = highest k n (from n (2 ^ k) e) h
    by (suc (suc b)) e f = absurd (omega (arith, pow-suc 2 k, shr_lt 1 k (subst (λ (m : ℕ). n < 2 ^ m) (sym (one_more k)) h)))
