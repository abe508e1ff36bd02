-- A fraction of 24 bits times a power of two is the number meant, exactly: the format holds every such number, so its product is not rounded.
-- Assumes nothing.
use mathlib.Core.Path.{◌≡◌, refl, sym, ap, ◌∙◌, subst}
use Prim.Native.Nat.{ℕ, zero, suc, ◌+◌, ◌-◌, ◌*◌, ◌/◌, ◌^◌, ◌≤◌, ◌<◌}
use native.Mathlib.Nat.{lt_of_lt_of_le, mul_assoc, mul-pos}
use native.Mathlib.Omega.{arith}
use mathlib.Core.Bool.{Bool, true, false}
use lib.IntN.{pos, negsuc}
use lib.Dec.{T, leb}
use lib.Count.{count_trailing_zeros}
use lib.Pow.{pow-add, pow_pos, pow_mono, shl_lt}
use lib.Ieee.{Float, fin, binary64, minus, odd, round, of_int, of_bits, fits, mul, neg}
use lib.Ieee.Fits.{mul-fits, odd-fits}
use lib.Ieee.Exact.{HasValue, odd_sign, round_exact}
use lib.Ieee.Back.{round_whole}
use lib.Ieee.Scale.{round_same}
use lib.Ieee.Positive.{positive_of_value, mul_at}
use borrow.Author.Tests.{le-leb, lt-leb, leb-true, leb-false}
use Rattle.floating.specs.Floating.{units, number_of}
use Rattle.floating.proofs.LawsOne.{one_float}
use Rattle.floating.proofs.LawsPower.{power_value}

-- ---- the number is one that the format holds

minus_both : (a b j : ℕ) → minus (a + j) (b + j) ≡ minus a b
minus_both a b j = by_test (leb b a) refl
  where
    less : a + j - (b + j) ≡ a - b
    less = omega arith

    lack : b + j - suc (a + j) ≡ b - suc a
    lack = omega arith

    by_test : (t : Bool) → leb b a ≡ t → minus (a + j) (b + j) ≡ minus a b
    by_test true e = let h : b ≤ a = leb-true b a e in rw (e, le-leb (b + j) (a + j) (omega arith)) (ap pos less)
    by_test false e = let h : a < b = leb-false b a e in rw (e, lt-leb (b + j) (a + j) (omega arith)) (ap negsuc lack)

-- the same power above and below changes nothing
odd_both : (d : ℕ) (s : Bool) (q k l j : ℕ) → odd d s q (k + j) (l + j) ≡ odd d s q k l
unfolding odd
odd_both d s zero k l j = refl
odd_both d s (suc q) k l j =
    let t = count_trailing_zeros d (suc q) in
    let e : k + j + t ≡ k + t + j = omega arith in
    ap (fin s (suc q / 2 ^ t)) (ap (λ (x : ℕ). minus x (l + j)) e ∙ minus_both (k + t) l j)

in_format : (f e : ℕ) → f < 2 ^ 24 → e < 128 → f * 2 ^ (4 * e + (1074 - units)) < 2 ^ 2098
in_format f e hf he =
    let h : 24 + (4 * e + (1074 - units)) ≤ 2098 = omega arith in
    lt_of_lt_of_le (shl_lt 24 (4 * e + (1074 - units)) hf) (pow_mono h)

in_digits : (f : ℕ) → f < 0x1000000 → f < 9007199254740992
in_digits f h = omega arith

few_digits : (f : ℕ) → f < 0x1000000 → f ≤ 9007199254740992
few_digits f h = omega arith

pub number_fits : (s : Bool) (f e : ℕ) → f < 0x1000000 → e < 128 → T (fits binary64 (number_of s f e))
unfolding number_of
number_fits s f e hf he =
    subst (λ (x : Float). T (fits binary64 x)) (odd_both 24 s f (4 * e) units (1074 - units))
    (odd-fits binary64 24 s f (4 * e + (1074 - units)) hf (few_digits f hf) (in_format f e hf he))

pub number_value : (s : Bool) (f e : ℕ) → HasValue (number_of s f e) s (f * 2 ^ (4 * e)) (2 ^ units)
unfolding number_of
number_value s f e = odd_sign 24 s f (4 * e) units

-- ---- the product is that number

powers : (k : ℕ) → 2 ^ 52 * 2 ^ (k + (1022 - units)) * 2 ^ units ≡ 2 ^ k * 2 ^ 1074
powers k =
    let e : 52 + (k + (1022 - units)) + units ≡ k + 1074 = omega arith in
    ap (λ (x : ℕ). x * 2 ^ units) (sym (pow-add 2 52 (k + (1022 - units))))
    ∙ sym (pow-add 2 (52 + (k + (1022 - units))) units)
    ∙ ap (λ (x : ℕ). 2 ^ x) e
    ∙ pow-add 2 k 1074

same_fraction : (f k : ℕ) → f * (2 ^ 52 * 2 ^ (k + (1022 - units))) * 2 ^ units ≡ f * 2 ^ k * (1 * 2 ^ 1074)
same_fraction f k = mul_assoc f (2 ^ 52 * 2 ^ (k + (1022 - units))) (2 ^ units) ∙ ap (λ (x : ℕ). f * x) (powers k) ∙ sym (mul_assoc f (2 ^ k) (2 ^ 1074))

in_least : (f k : ℕ) → f * 2 ^ k * 2 ^ 1074 ≡ f * 2 ^ (k + (1074 - units)) * 2 ^ units
in_least f k =
    let e : k + 1074 ≡ k + (1074 - units) + units = omega arith in
    mul_assoc f (2 ^ k) (2 ^ 1074)
    ∙ ap (λ (x : ℕ). f * x) (sym (pow-add 2 k 1074) ∙ ap (λ (x : ℕ). 2 ^ x) e ∙ pow-add 2 (k + (1074 - units)) units)
    ∙ sym (mul_assoc f (2 ^ (k + (1074 - units))) (2 ^ units))

field_of : (e : ℕ) → e * 4 + (1023 - units) ≡ suc (4 * e + (1022 - units))
field_of e = omega arith

field_inside : (e : ℕ) → e < 128 → suc (4 * e + (1022 - units)) < 2047
field_inside e h = omega arith

whole_value : (f : ℕ) → f < 0x1000000 → HasValue (of_int binary64 (pos f)) false f 1
unfolding of_int
whole_value f h = round_whole binary64 false f (few_digits f h)

unit_value : (e : ℕ) → e < 128 → HasValue (of_bits binary64 ((e * 4 + (1023 - units)) * 0x10000000000000)) false (2 ^ 52 * 2 ^ (4 * e + (1022 - units))) (2 ^ 1074)
unit_value e h =
    subst (λ (x : ℕ). HasValue (of_bits binary64 (x * 0x10000000000000)) false (2 ^ 52 * 2 ^ (4 * e + (1022 - units))) (2 ^ 1074)) (sym (field_of e))
    (power_value (4 * e + (1022 - units)) (field_inside e h))

pub product : (f e : ℕ) → 0 < f → f < 0x1000000 → e < 128
    → mul binary64 (of_int binary64 (pos f)) (of_bits binary64 ((e * 4 + (1023 - units)) * 0x10000000000000)) ≡ number_of false f e
product f e above hf he =
    let x = of_int binary64 (pos f) in
    let y = of_bits binary64 ((e * 4 + (1023 - units)) * 0x10000000000000) in
    let k = 4 * e in
    let b = 2 ^ 52 * 2 ^ (k + (1022 - units)) in
    let rounded : mul binary64 x y ≡ round binary64 false (f * 2 ^ k) (2 ^ units) =
    mul_at binary64 x y f 1 b (2 ^ 1074)
    (positive_of_value x f 1 (whole_value f hf) above)
    (positive_of_value y b (2 ^ 1074) (unit_value e he) (mul-pos (pow_pos 52) (pow_pos (k + (1022 - units)))))
    (pow_pos 0) (pow_pos 1074) (whole_value f hf) (unit_value e he)
    ∙ round_same binary64 false (f * b) (1 * 2 ^ 1074) (f * 2 ^ k) (2 ^ units) (pow_pos 1074) (pow_pos units) (same_fraction f k) in
    one_float binary64 (mul binary64 x y) (number_of false f e) false (f * 2 ^ k) (2 ^ units) (pow_pos units)
    (mul-fits binary64 x y) (number_fits false f e hf he)
    (subst (λ (z : Float). HasValue z false (f * 2 ^ k) (2 ^ units)) (sym rounded)
    (round_exact binary64 false (f * 2 ^ k) (2 ^ units) f (k + (1074 - units)) (pow_pos units) (in_digits f hf) (in_format f e hf he) (in_least f k)))
    (number_value false f e)

pub negated : (f e : ℕ) → neg (number_of false f e) ≡ number_of true f e
unfolding neg number_of odd
negated zero e = refl
negated (suc f) e = refl
