-- Linear functions, over exclusive or. Two that are linear on numbers of n bits are equal where they are so at each power of two below 2^n,
-- and that is a test which is computed.
-- Assumes nothing.
use mathlib.Core.Path.{◌≡◌, refl, sym, ap, ap₂, ◌∙◌, subst}
use mathlib.Core.Bool.{Bool, true, ◌&&◌}
use Prim.Native.Nat.{ℕ, zero, suc, ◌+◌, ◌*◌, ◌/◌, ◌%◌, ◌^◌, ◌<◌}
use native.Mathlib.Nat.{mod-lt, zero-mul, one-mul, zero-add, add-zero, add-suc, suc-add, lt_of_lt_of_le, le-suc, le_refl, le_of_suc-le-suc, not-suc-le-zero}
use native.Mathlib.Numerals.{one-add}
use lib.Arith.{lt-one}
use lib.Dec.{T, eqb, eqb→eq}
use lib.Pow.{pow_pos, pow_mono, pow-lt, split, shr_lt}
use lib.Bits.{bit_xor, xor_shr, xor_mod, xor_block, xor_self, xor_shifted}
use Rattle.ground.proofs.LawsTests.{T-first, T-second}
use Rattle.check_rule.proofs.LawsXor.{bit, xor_four}

-- ---- a rule at every number below a bound, by computing it there

-- f and h give the same at i, i + 1, .. : n of them
abbrev pub agree : (ℕ → ℕ) → (ℕ → ℕ) → ℕ → ℕ → Bool
agree f h i zero = true
agree f h i (suc n) = eqb (f i) (h i) && agree f h (suc i) n

agree_from : (f h : ℕ → ℕ) (i n : ℕ) → T (agree f h i n) → (k : ℕ) → k < n → f (i + k) ≡ h (i + k)
agree_from f h i zero t k l = absurd (not-suc-le-zero l)
agree_from f h i (suc n) t zero l =
    ap f (add-zero i) ∙ eqb→eq (f i) (h i) (T-first (eqb (f i) (h i)) (agree f h (suc i) n) t) ∙ ap h (sym (add-zero i))
agree_from f h i (suc n) t (suc k) l =
    let e : i + suc k ≡ suc i + k = add-suc i k ∙ sym (suc-add i k) in
    ap f e ∙ agree_from f h (suc i) n (T-second (eqb (f i) (h i)) (agree f h (suc i) n) t) k (le_of_suc-le-suc l) ∙ ap h (sym e)

pub agree_at : (f h : ℕ → ℕ) (n : ℕ) → T (agree f h 0 n) → (k : ℕ) → k < n → f k ≡ h k
agree_at f h n t k l = ap f (sym (zero-add k)) ∙ agree_from f h 0 n t k l ∙ ap h (zero-add k)

-- ---- on numbers of n bits

abbrev pub LinearOn : ℕ → (ℕ → ℕ) → Type 0
LinearOn n f = (a b : ℕ) → a < 2 ^ n → b < 2 ^ n → f (bit_xor a b) ≡ bit_xor (f a) (f b)

linear_zero : (n : ℕ) (f : ℕ → ℕ) → LinearOn n f → f 0 ≡ 0
linear_zero n f l = l 0 0 (pow_pos n) (pow_pos n) ∙ xor_self (f 0)

less : (n : ℕ) {a : ℕ} → a < 2 ^ n → a < 2 ^ suc n
less n h = lt_of_lt_of_le h (pow_mono (le-suc n))

top_bit : (n : ℕ) {a : ℕ} → a < 2 ^ suc n → a / 2 ^ n < 2
top_bit n {a} h = shr_lt 1 n (subst (λ (x : ℕ). a < 2 ^ x) (sym (one-add n)) h)

basis : (n : ℕ) (f h : ℕ → ℕ) → LinearOn n f → LinearOn n h → ((i : ℕ) → i < n → f (2 ^ i) ≡ h (2 ^ i)) → (a : ℕ) → a < 2 ^ n → f a ≡ h a
basis zero f h lf lh e a ha = ap f (lt-one ha) ∙ linear_zero 0 f lf ∙ sym (linear_zero 0 h lh) ∙ ap h (sym (lt-one ha))
basis (suc n) f h lf lh e a ha =
    let d = a / 2 ^ n in
    let r = a % 2 ^ n in
    let hr : r < 2 ^ n = mod-lt a (pow_pos n) in
    let parts : a ≡ bit_xor (d * 2 ^ n) r = sym (split a n) ∙ sym (xor_shifted d n r hr) in
    let hd : d * 2 ^ n < 2 ^ suc n =
    bit (λ d. d * 2 ^ n < 2 ^ suc n) (subst (λ (x : ℕ). x < 2 ^ suc n) (sym (zero-mul (2 ^ n))) (pow_pos (suc n)))
    (subst (λ (x : ℕ). x < 2 ^ suc n) (sym (one-mul (2 ^ n))) (pow-lt (le_refl (suc n)))) d (top_bit n ha) in
    let same : f (d * 2 ^ n) ≡ h (d * 2 ^ n) =
    bit (λ d. f (d * 2 ^ n) ≡ h (d * 2 ^ n))
    (ap f (zero-mul (2 ^ n)) ∙ linear_zero (suc n) f lf ∙ sym (ap h (zero-mul (2 ^ n)) ∙ linear_zero (suc n) h lh))
    (ap f (one-mul (2 ^ n)) ∙ e n (le_refl (suc n)) ∙ sym (ap h (one-mul (2 ^ n)))) d (top_bit n ha) in
    ap f parts ∙ lf (d * 2 ^ n) r hd (less n hr)
    ∙ ap₂ bit_xor same
    (basis n f h (λ x y hx hy. lf x y (less n hx) (less n hy)) (λ x y hx hy. lh x y (less n hx) (less n hy)) (λ i hi. e i (lt_of_lt_of_le hi (le-suc n))) r hr)
    ∙ sym (lh (d * 2 ^ n) r hd (less n hr)) ∙ sym (ap h parts)

pub by_basis : (n : ℕ) (f h : ℕ → ℕ) → LinearOn n f → LinearOn n h → T (agree (λ i. f (2 ^ i)) (λ i. h (2 ^ i)) 0 n)
    → (a : ℕ) → a < 2 ^ n → f a ≡ h a
by_basis n f h lf lh t = basis n f h lf lh (agree_at (λ i. f (2 ^ i)) (λ i. h (2 ^ i)) n t)

-- ---- on all numbers: shifts and sums, and what is made of them

abbrev pub Linear : (ℕ → ℕ) → Type 0
Linear f = (a b : ℕ) → f (bit_xor a b) ≡ bit_xor (f a) (f b)

pub id_linear : Linear (λ s. s)
id_linear a b = refl

pub shr_linear : (k : ℕ) → Linear (λ s. s / 2 ^ k)
shr_linear k a b = xor_shr a b k

pub mod_linear : (k : ℕ) → Linear (λ s. s % 2 ^ k)
mod_linear k a b = xor_mod a b k

pub shl_linear : (w k : ℕ) → Linear (λ s. s * 2 ^ k % 2 ^ w)
shl_linear w k a b =
    ap (λ (x : ℕ). x % 2 ^ w)
    (sym (add-zero (bit_xor a b * 2 ^ k)) ∙ sym (xor_block k a b 0 0 (pow_pos k) (pow_pos k)) ∙ ap₂ bit_xor (add-zero (a * 2 ^ k)) (add-zero (b * 2 ^ k)))
    ∙ xor_mod (a * 2 ^ k) (b * 2 ^ k) w

pub sum_linear : (f h : ℕ → ℕ) → Linear f → Linear h → Linear (λ s. bit_xor (f s) (h s))
sum_linear f h lf lh a b = ap₂ bit_xor (lf a b) (lh a b) ∙ xor_four (f a) (f b) (h a) (h b)

pub then_linear : (f h : ℕ → ℕ) → Linear f → Linear h → Linear (λ s. h (f s))
then_linear f h lf lh a b = ap h (lf a b) ∙ lh (f a) (f b)
