-- What is promised of a floating number is kept: its exponent and fraction, its complement, and that these are all words.
-- Assumes nothing.
use mathlib.Core.Path.{◌≡◌, refl, sym, ap, ap₂, ◌∙◌, subst}
use mathlib.Core.Logic.{◌⊎◌, inl, inr, ◌↔◌}
use mathlib.Core.Bool.{Bool, true, false}
use Prim.Native.Nat.{ℕ, zero, suc, ◌+◌, ◌-◌, ◌*◌, ◌^◌, ◌≤◌, ◌<◌}
use native.Mathlib.Nat.{pow-suc}
use native.Mathlib.Omega.{arith}
use lib.Dec.{leb, eqb}
use lib.Count.{count_trailing_zeros}
use lib.Pow.{pow-add}
use lib.Ieee.{nan, inf, fin, odd, neg}
use lib.Ieee.Exact.{HasValue}
use borrow.Author.Tests.{leb-true, leb-false, eqb-true, eqb-false}
use Rattle.floating.specs.declared.Reading.{Reading}
use Rattle.floating.specs.declared.Reading.TheVariants.{Number, Zero, NotNormal}
use Rattle.floating.specs.Floating.{least_normal, number_of, signed_of, reading_of, fraction, exponent}
use Rattle.floating.specs.Cases.{case_of}
use Rattle.floating.specs.Promises.{IsExactly, Normal, Low, Reading32, WordOf, Parts, Covering, opposite, Negating, Numbered, Examples}
use Rattle.floating.proofs.LawsExact.{number_fits, number_value, negated}
use Rattle.floating.proofs.LawsReading.{low_fraction, normal_fraction, zero_reads, positive_reads, negative_reads}

-- ---- a word from its exponent and fraction

module _ (e f : ℕ) (h : f < 0x1000000) where
  pub exponent_is : exponent (e * 0x1000000 + f) ≡ e
  exponent_is = omega arith

  pub fraction_is : fraction (e * 0x1000000 + f) ≡ f
  fraction_is = omega arith

pub sixteen : (e : ℕ) → 2 ^ (4 * e) ≡ 16 ^ e
sixteen zero = refl
sixteen (suc e) =
    let four : 4 * suc e ≡ 4 * e + 4 = omega arith in
    ap (λ (n : ℕ). 2 ^ n) four ∙ pow-add 2 (4 * e) 4 ∙ ap (λ (n : ℕ). n * 16) (sixteen e) ∙ sym (pow-suc 16 e)

exactly : (s : Bool) (e f : ℕ) → e < 128 → f < 0x1000000 → IsExactly (number_of s f e) s (f * 16 ^ e)
exactly s e f he hf =
    record {
      value = subst (λ (n : ℕ). HasValue (number_of s f e) s (f * n) (2 ^ 280)) (sixteen e) (number_value s f e);
      held = number_fits s f e hf he;
    }

-- the magnitude of a word that is a number, with its sign
signed_number : (s : Bool) (e f : ℕ) → Normal e f → signed_of s (e * 0x1000000 + f) ≡ Number (number_of s f e)
signed_number s e f n =
    let below = n.below_one in
    let here : least_normal ≤ fraction (e * 0x1000000 + f) = omega (arith, fraction_is e f below) in
    normal_fraction s (e * 0x1000000 + f) here ∙ ap₂ (λ (k l : ℕ). Number (number_of s k l)) (fraction_is e f below) (exponent_is e f below)

signed_low : (s : Bool) (e f : ℕ) → Low e f → signed_of s (e * 0x1000000 + f) ≡ NotNormal
signed_low s e f l =
    let top = l.top_zero in
    low_fraction s (e * 0x1000000 + f) (omega (arith, fraction_is e f (omega arith)))

-- with the sign bit set, the complement of the whole word
complement_reads : (g : ℕ) → 0 < g → g ≤ 0x80000000 → reading_of (0x100000000 - g) ≡ signed_of true g
complement_reads g h l =
    let back : 0x100000000 - (0x100000000 - g) ≡ g = omega arith in
    negative_reads (0x100000000 - g) (omega arith) ∙ ap (signed_of true) back

plain_reads : (g : ℕ) → 0 < g → g < 0x80000000 → reading_of g ≡ signed_of false g
plain_reads g h l = positive_reads g (λ e. omega arith) l

lone_sign : reading_of 0x80000000 ≡ NotNormal
unfolding reading_of signed_of
lone_sign = refl

pub reading : Reading32
reading = record {
  zero = zero_reads;
  positive = λ e f n. (
    number_of false f e,
    plain_reads (e * 0x1000000 + f) (omega arith) (omega arith) ∙ signed_number false e f n,
    exactly false e f n.exponent n.below_one,
  );
  negative = λ e f n. (
    number_of true f e,
    complement_reads (e * 0x1000000 + f) (omega arith) (omega arith) ∙ signed_number true e f n,
    exactly true e f n.exponent n.below_one,
  );
  not_normal = λ e f l h. plain_reads (e * 0x1000000 + f) (omega arith) (omega arith) ∙ signed_low false e f l;
  not_normal_negative = λ e f l h. complement_reads (e * 0x1000000 + f) (omega arith) (omega arith) ∙ signed_low true e f l;
  lone_sign = lone_sign;
}

-- ---- all words

-- the parts of a magnitude
parts_of : (g : ℕ) → (0 < g) × (g < 0x80000000) → (exponent g * 0x1000000 + fraction g ≡ g) × (exponent g < 128) × (fraction g < 0x1000000) × (0 < exponent g + fraction g)
parts_of g h = (omega arith, omega arith, omega arith, omega arith)

all_words : (w : ℕ) → w < 0x100000000 → (w ≡ 0) ⊎ ((w ≡ 0x80000000) ⊎ Parts w)
all_words w h = by (eqb w 0) (eqb w 0x80000000) (leb 0x80000000 w) refl refl refl
  where
    by : (a b c : Bool) → eqb w 0 ≡ a → eqb w 0x80000000 ≡ b → leb 0x80000000 w ≡ c → (w ≡ 0) ⊎ ((w ≡ 0x80000000) ⊎ Parts w)
    by true b c e₀ e₁ e₂ = inl (eqb-true w 0 e₀)
    by false true c e₀ e₁ e₂ = inr (inl (eqb-true w 0x80000000 e₁))
    by false false true e₀ e₁ e₂ =
        let other = eqb-false w 0x80000000 e₁ in
        let p = parts_of (0x100000000 - w) (omega arith, omega (arith, leb-true 0x80000000 w e₂, other)) in
        inr (inr (record {
          negative = true;
          exponent = exponent (0x100000000 - w);
          fraction = fraction (0x100000000 - w);
          seven_bits = p.1;
          below_one = p.2;
          not_zero = p.3;
          word = omega (arith, p.0);
        }))
    by false false false e₀ e₁ e₂ =
        let other = eqb-false w 0 e₀ in
        let p = parts_of w (omega (arith, other), leb-false 0x80000000 w e₂) in
        inr (inr (record { negative = false; exponent = exponent w; fraction = fraction w; seven_bits = p.1; below_one = p.2; not_zero = p.3; word = sym p.0 }))

once : (w : ℕ) (p q : Parts w) → (p.negative ≡ q.negative) × (p.exponent ≡ q.exponent) × (p.fraction ≡ q.fraction)
once w p q =
    by p.negative p.exponent p.fraction q.negative q.exponent q.fraction
    p.seven_bits p.below_one p.not_zero q.seven_bits q.below_one q.not_zero p.word q.word
  where
    by : (s : Bool) (e f : ℕ) (t : Bool) (e' f' : ℕ) → e < 128 → f < 0x1000000 → 0 < e + f → e' < 128 → f' < 0x1000000 → 0 < e' + f'
        → WordOf w s e f → WordOf w t e' f' → (s ≡ t) × (e ≡ e') × (f ≡ f')
    by false e f false e' f' a b c a' b' c' x y = (refl, omega arith, omega arith)
    by false e f true e' f' a b c a' b' c' x y = absurd (omega arith)
    by true e f false e' f' a b c a' b' c' x y = absurd (omega arith)
    by true e f true e' f' a b c a' b' c' x y = (refl, omega arith, omega arith)

-- ---- zero, and the negative

not_zero : (s : Bool) (g : ℕ) → signed_of s g ≡ Zero → ⊥
not_zero s g h = by (leb 0x100000 (fraction g)) refl
  where
    by : (t : Bool) → leb 0x100000 (fraction g) ≡ t → ⊥
    by true e = let z : case_of (Number (number_of s (fraction g) (exponent g))) ≡ case_of Zero = ap case_of (sym (normal_fraction s g (leb-true 0x100000 (fraction g) e)) ∙ h) in omega arith
    by false e = let z : case_of NotNormal ≡ case_of Zero = ap case_of (sym (low_fraction s g (leb-false 0x100000 (fraction g) e)) ∙ h) in omega arith

only_zero : (w : ℕ) → (reading_of w ≡ Zero) ↔ (w ≡ 0)
only_zero w = (λ h. by (eqb w 0) (leb 0x80000000 w) refl refl h, λ e. ap reading_of e ∙ zero_reads)
  where
    by : (t u : Bool) → eqb w 0 ≡ t → leb 0x80000000 w ≡ u → reading_of w ≡ Zero → w ≡ 0
    by true u e e' h = eqb-true w 0 e
    by false true e e' h = absurd (not_zero true (0x100000000 - w) (sym (negative_reads w (leb-true 0x80000000 w e')) ∙ h))
    by false false e e' h = absurd (not_zero false w (sym (positive_reads w (eqb-false w 0 e) (leb-false 0x80000000 w e')) ∙ h))

pub covering : Covering
covering = record { all = all_words; once = once; zero = only_zero }

opposite_signed : (g : ℕ) → signed_of true g ≡ opposite (signed_of false g)
opposite_signed g = by (leb 0x100000 (fraction g)) refl
  where
    by : (t : Bool) → leb 0x100000 (fraction g) ≡ t → signed_of true g ≡ opposite (signed_of false g)
    by true e =
        let h = leb-true 0x100000 (fraction g) e in
        normal_fraction true g h ∙ ap Number (sym (negated (fraction g) (exponent g))) ∙ ap opposite (sym (normal_fraction false g h))
    by false e =
        let h = leb-false 0x100000 (fraction g) e in
        low_fraction true g h ∙ ap opposite (sym (low_fraction false g h))

twice : (r : Reading) → opposite (opposite r) ≡ r
unfolding neg
twice (Number nan) = refl
twice (Number (inf true)) = refl
twice (Number (inf false)) = refl
twice (Number (fin true m e)) = refl
twice (Number (fin false m e)) = refl
twice Zero = refl
twice NotNormal = refl

pub negating : Negating
negating w h l = by (leb 0x80000000 w) (eqb w 0x80000000) refl refl
  where
    by : (t u : Bool) → leb 0x80000000 w ≡ t → eqb w 0x80000000 ≡ u → reading_of (0x100000000 - w) ≡ opposite (reading_of w)
    by true true e e' =
        let is : w ≡ 0x80000000 = eqb-true w 0x80000000 e' in
        let same : 0x100000000 - w ≡ 0x80000000 = omega arith in
        ap reading_of same ∙ lone_sign ∙ ap opposite (sym lone_sign) ∙ ap (λ (k : ℕ). opposite (reading_of k)) (sym is)
    by true false e e' =
        let low = leb-true 0x80000000 w e in
        let other = eqb-false w 0x80000000 e' in
        plain_reads (0x100000000 - w) (omega arith) (omega (arith, other))
        ∙ sym (twice (signed_of false (0x100000000 - w)))
        ∙ ap opposite (sym (opposite_signed (0x100000000 - w)) ∙ sym (negative_reads w low))
    by false u e e' =
        let high = leb-false 0x80000000 w e in
        complement_reads w h (omega arith) ∙ opposite_signed w ∙ ap opposite (sym (plain_reads w h high))

-- ---- the cases, and examples

pub numbered : Numbered
numbered = record { zero = (refl, refl); number = λ x. (refl, refl); not_normal = (refl, refl) }

pub examples : Examples
unfolding reading_of signed_of number_of odd count_trailing_zeros
examples = record {
  minus_one = refl;
  minus_part = refl;
  zero = refl;
  part = refl;
  one = refl;
  hundred = refl;
  least = refl;
  largest = refl;
  lone_sign = refl;
  sign_and_exponent = refl;
  low_fraction = refl;
}
