-- The bits of a number, and the number that bits spell: each gives the other back, and bits can be joined and split.
-- Assumes nothing.
use mathlib.Core.Path.{◌≡◌, refl, sym, ap, ap₂, ◌∙◌, subst}
use mathlib.Core.List.{List, [], ◌∷◌, ◌++◌, append_assoc}
use Prim.Native.Nat.{ℕ, zero, suc, ◌+◌, ◌*◌, ◌/◌, ◌%◌, ◌^◌, ◌<◌}
use native.Mathlib.Nat.{mod-lt, mod-eq_of_lt, zero-div, zero-lt-suc, zero-add, suc-add, add-suc, add_comm, pow-suc, mul_comm, lt_of_lt_of_le, le_of_eq}
use native.Mathlib.Numerals.{one-add, add-one}
use lib.Arith.{lt-one, digits_lt}
use lib.ListN.{length, replicate}
use lib.Pow.{pow_pos, pow-add, shr-shr, high, low, split, field, mod-mod-pow, mod-pow-add}
use Rattle.bits.specs.Bits.{bits, value, Below}

pub length_bits : (size w : ℕ) → length (bits size w) ≡ size
unfolding bits
length_bits zero w = refl
length_bits (suc size) w = ap suc (length_bits size w)

pub bits_below : (size w : ℕ) → Below 2 (bits size w)
unfolding bits
bits_below zero w = tt
bits_below (suc size) w = (mod-lt (w / 2 ^ size) (zero-lt-suc 1), bits_below size w)

-- only the low bits of a number count
bits_low : (k j w : ℕ) → bits k (w % 2 ^ (j + k)) ≡ bits k w
unfolding bits
bits_low zero j w = refl
bits_low (suc k) j w =
    let e : j + suc k ≡ suc j + k = add-suc j k ∙ sym (suc-add j k) in
    ap (λ (m : ℕ). w % 2 ^ m / 2 ^ k % 2 ∷ bits k (w % 2 ^ m)) e
    ∙ ap₂ (λ (b : ℕ) (l : List ℕ). b ∷ l)
    (ap (λ (x : ℕ). x % 2) (field w (suc j) k) ∙ ap (λ (m : ℕ). w / 2 ^ k % 2 ^ m % 2) (sym (add-one j)) ∙ mod-mod-pow (w / 2 ^ k) j 1)
    (bits_low k (suc j) w)

pub bits_mod : (k w : ℕ) → bits k (w % 2 ^ k) ≡ bits k w
bits_mod k w = ap (λ (m : ℕ). bits k (w % 2 ^ m)) (sym (zero-add k)) ∙ bits_low k 0 w

-- what stands above the k low bits is not among them
pub bits_behind : (k a b : ℕ) → b < 2 ^ k → bits k (a * 2 ^ k + b) ≡ bits k b
bits_behind k a b h = sym (bits_mod k (a * 2 ^ k + b)) ∙ ap (bits k) (low a k h)

-- the bits of a and then those of b
pub bits_join : (j k a b : ℕ) → b < 2 ^ k → bits (j + k) (a * 2 ^ k + b) ≡ bits j a ++ bits k b
unfolding bits
bits_join zero k a b h = ap (λ (m : ℕ). bits m (a * 2 ^ k + b)) (zero-add k) ∙ bits_behind k a b h
bits_join (suc j) k a b h =
    ap (λ (m : ℕ). bits m (a * 2 ^ k + b)) (suc-add j k)
    ∙ ap₂ (λ (x : ℕ) (l : List ℕ). x % 2 ∷ l)
    (ap (λ (m : ℕ). (a * 2 ^ k + b) / 2 ^ m) (add_comm j k) ∙ sym (shr-shr (a * 2 ^ k + b) k j) ∙ ap (λ (x : ℕ). x / 2 ^ j) (high a k h))
    (bits_join j k a b h)

pub bits_split : (j k n : ℕ) → bits (j + k) n ≡ bits j (n / 2 ^ k) ++ bits k (n % 2 ^ k)
bits_split j k n = ap (bits (j + k)) (sym (split n k)) ∙ bits_join j k (n / 2 ^ k) (n % 2 ^ k) (mod-lt n (pow_pos k))

-- k bits more are taken in
pub intake : (have k acc b : ℕ) (rest : List ℕ) → b < 2 ^ k → bits have acc ++ (bits k b ++ rest) ≡ bits (have + k) (acc * 2 ^ k + b) ++ rest
intake have k acc b rest h =
    sym (append_assoc (bits have acc) (bits k b) rest) ∙ ap (λ (l : List ℕ). l ++ rest) (sym (bits_join have k acc b h))

pub intake_lt : (have k : ℕ) {acc b : ℕ} → acc < 2 ^ have → b < 2 ^ k → acc * 2 ^ k + b < 2 ^ (have + k)
intake_lt have k {acc} {b} ha hb = subst (λ (x : ℕ). acc * 2 ^ k + b < x) (sym (pow-add 2 have k)) (digits_lt ha hb)

pub bits_zero : (k : ℕ) → bits k 0 ≡ replicate k 0
unfolding bits
bits_zero zero = refl
bits_zero (suc k) = ap₂ (λ (x : ℕ) (l : List ℕ). x % 2 ∷ l) (zero-div (2 ^ k)) (bits_zero k)

-- ---- the number that bits spell

pub value_bits : (k n : ℕ) → value (bits k n) ≡ n % 2 ^ k
unfolding bits value
value_bits zero n = sym (lt-one (mod-lt n (pow_pos 0)))
value_bits (suc k) n =
    ap₂ (λ (x y : ℕ). n / 2 ^ k % 2 * 2 ^ x + y) (length_bits k n) (value_bits k n)
    ∙ sym (mod-pow-add n 1 k) ∙ ap (λ (m : ℕ). n % 2 ^ m) (one-add k)

pub value_lt : (bs : List ℕ) → Below 2 bs → value bs < 2 ^ length bs
unfolding value
value_lt [] h = zero-lt-suc zero
value_lt (b ∷ bs) h =
    lt_of_lt_of_le (digits_lt h.0 (value_lt bs h.1)) (le_of_eq (mul_comm 2 (2 ^ length bs) ∙ sym (pow-suc 2 (length bs))))

pub bits_value : (bs : List ℕ) → Below 2 bs → bits (length bs) (value bs) ≡ bs
unfolding bits value
bits_value [] h = refl
bits_value (b ∷ bs) h =
    let l = value_lt bs h.1 in
    ap₂ (λ (x : ℕ) (t : List ℕ). x % 2 ∷ t) (high b (length bs) l) (bits_behind (length bs) b (value bs) l ∙ bits_value bs h.1)
    ∙ ap (λ (x : ℕ). x ∷ bs) (mod-eq_of_lt h.0)
