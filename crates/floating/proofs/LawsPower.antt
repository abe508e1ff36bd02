-- A float whose pattern has an exponent's field and nothing else is a power of two: with k + 1 in the field it is 2 ^ (k + 52) / 2 ^ 1074.
-- Assumes nothing.
use mathlib.Core.Path.{◌≡◌, refl, sym, ap, ◌∙◌, subst}
use Prim.Native.Nat.{ℕ, zero, suc, ◌*◌, ◌/◌, ◌%◌, ◌^◌, ◌<◌}
use native.Mathlib.Nat.{mod-eq_of_lt, mul-div_cancel, mul-mod_left}
use native.Mathlib.Omega.{arith}
use mathlib.Core.Bool.{Bool, false, not}
use lib.Dec.{T, leb, eqb, eqb→eq, not_T}
use lib.Pow.{pow_pos}
use lib.Ieee.{Float, nan, inf, fin, binary64, odd, of_fields, of_bits, nan_bits, is_nan}
use lib.Ieee.Bits.{cond_no, nan_bits_is}
use lib.Ieee.Exact.{HasValue, odd_sign}
use borrow.Author.Tests.{lt-leb}

-- the weight of the field, the first bit behind it, and the largest field, which is no number's
abbrev field : ℕ
field = 0x10000000000000

abbrev sign : ℕ
sign = 0x8000000000000000

abbrev pattern : ℕ → ℕ
pattern k = suc k * field

below_sign : (k : ℕ) → suc k < 2047 → pattern k < sign
below_sign k h = omega arith

not_last : (k : ℕ) → suc k < 2047 → suc k ≡ 2047 → ⊥
not_last k h e = omega arith

of_fields_is : (k : ℕ) → suc k < 2047 → of_fields binary64 false (suc k) 0 ≡ odd 53 false field k 1074
unfolding of_fields
of_fields_is k h =
    cond_no (eqb (suc k) 2047) (inf false) (odd 53 false field k 1074)
    (not_T (eqb (suc k) 2047) (λ (t : T (eqb (suc k) 2047)). not_last k h (eqb→eq (suc k) 2047 t)))

of_bits_is : (b : ℕ) → of_bits binary64 b ≡ of_fields binary64 (leb sign b) (b % sign / field) (b % field)
unfolding of_bits
of_bits_is b = refl

power : (k : ℕ) → suc k < 2047 → of_bits binary64 (pattern k) ≡ odd 53 false field k 1074
power k h =
    let b = pattern k in
    of_bits_is b
    ∙ ap (λ (s : Bool). of_fields binary64 s (b % sign / field) (b % field)) (lt-leb sign b (below_sign k h))
    ∙ ap (λ (x : ℕ). of_fields binary64 false (x / field) (b % field)) (mod-eq_of_lt (below_sign k h))
    ∙ ap (λ (x : ℕ). of_fields binary64 false x (b % field)) (mul-div_cancel (suc k) (pow_pos 52))
    ∙ ap (λ (x : ℕ). of_fields binary64 false (suc k) x) (mul-mod_left (suc k) field)
    ∙ of_fields_is k h

pub power_value : (k : ℕ) → suc k < 2047 → HasValue (of_bits binary64 (suc k * 0x10000000000000)) false (2 ^ 52 * 2 ^ k) (2 ^ 1074)
power_value k h = subst (λ (x : Float). HasValue x false (2 ^ 52 * 2 ^ k) (2 ^ 1074)) (sym (power k h)) (odd_sign 53 false field k 1074)

no_nan : (x : Float) (s : Bool) (a c : ℕ) → HasValue x s a c → T (not (is_nan x))
unfolding is_nan
no_nan nan s a c v = absurd v
no_nan (inf t) s a c v = absurd v
no_nan (fin t m e) s a c v = tt

is_a_number : (k : ℕ) → suc k < 2047 → T (not (nan_bits binary64 (pattern k)))
is_a_number k h =
    subst (λ (b : Bool). T (not b)) (sym (nan_bits_is binary64 (pattern k)))
    (no_nan (of_bits binary64 (pattern k)) false (2 ^ 52 * 2 ^ k) (2 ^ 1074) (power_value k h))

pub power_is_a_number : (x : ℕ) → (0 < x) × (x < 2047) → T (not (nan_bits binary64 (x * 0x10000000000000)))
power_is_a_number zero h = absurd (omega arith)
power_is_a_number (suc k) h = is_a_number k h.1
