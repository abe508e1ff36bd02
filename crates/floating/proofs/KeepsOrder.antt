-- Numbers come in the order of their words.
-- Assumes nothing.
use mathlib.Core.Path.{◌≡◌, refl, sym, ap, ◌∙◌, subst}
use mathlib.Core.Bool.{Bool, true, false}
use Prim.Native.Nat.{ℕ, zero, suc, ◌+◌, ◌-◌, ◌*◌, ◌^◌, ◌≤◌, ◌<◌}
use native.Mathlib.Nat.{lt_of_lt_of_le, le_trans, mul_right_comm, mul-le-mul_right, mul-pos, mul-lt-mul_of_pos_right, lt_of_mul-lt-mul_right, zero-mul, zero-lt-suc}
use native.Mathlib.Omega.{arith}
use lib.Dec.{leb}
use lib.Pow.{pow-add, pow_pos, pow_mono, shl_lt}
use lib.Ieee.{Float, nan, inf, fin, up, down, lt}
use lib.Ieee.Exact.{HasValue}
use lib.Ieee.Fits.{down_pos}
use borrow.Author.Tests.{leb-true, leb-false, lt-ltb}
use Rattle.ground.proofs.LawsTests.{never}
use Rattle.floating.specs.declared.Reading.TheVariants.{Number, Zero, NotNormal}
use Rattle.floating.specs.Floating.{number_of, signed_of, reading_of, fraction, exponent}
use Rattle.floating.specs.Cases.{case_of, value_of}
use Rattle.floating.specs.Promises.{Normal, Less, Ordering}
use Rattle.floating.proofs.LawsExact.{number_value}
use Rattle.floating.proofs.LawsReading.{low_fraction, normal_fraction, zero_reads, positive_reads, negative_reads}
use Rattle.floating.proofs.KeepsFloating.{sixteen}

-- ---- the larger magnitude is the larger size, in parts of 2 ^ 280

-- an exponent that is larger by one moves the fraction by a digit, and a normal one has its first digit
next_digit : (e f e' f' : ℕ) → f < 0x1000000 → 0x100000 ≤ f' → e < e' → f * 2 ^ (4 * e) < f' * 2 ^ (4 * e')
next_digit e f e' f' hf hf' h =
    let digit : 24 + 4 * e ≤ 20 + 4 * e' = omega arith in
    lt_of_lt_of_le (shl_lt 24 (4 * e) hf)
    (le_trans (pow_mono digit) (subst (λ (n : ℕ). n ≤ f' * 2 ^ (4 * e')) (sym (pow-add 2 20 (4 * e'))) (mul-le-mul_right (2 ^ (4 * e')) hf')))

size_rises : (e f e' f' : ℕ) → f < 0x1000000 → f' < 0x1000000 → 0x100000 ≤ f' → e * 0x1000000 + f < e' * 0x1000000 + f' → f * 2 ^ (4 * e) < f' * 2 ^ (4 * e')
size_rises e f e' f' hf hf' normal h = by (leb e' e) refl
  where
    by : (t : Bool) → leb e' e ≡ t → f * 2 ^ (4 * e) < f' * 2 ^ (4 * e')
    by true t =
        let le = leb-true e' e t in
        let same : e ≡ e' = omega arith in
        let less : f < f' = omega arith in
        subst (λ (k : ℕ). f * 2 ^ (4 * e) < f' * 2 ^ (4 * k)) same (mul-lt-mul_of_pos_right less (pow_pos (4 * e)))
    by false t = next_digit e f e' f' hf normal (leb-false e' e t)

pub sizes : (e f e' f' : ℕ) → Normal e f → Normal e' f' → e * 0x1000000 + f < e' * 0x1000000 + f' → f * 16 ^ e < f' * 16 ^ e'
sizes e f e' f' n n' h =
    subst (λ (k : ℕ). f * k < f' * 16 ^ e') (sixteen e)
    (subst (λ (k : ℕ). f * 2 ^ (4 * e) < f' * k) (sixteen e') (size_rises e f e' f' n.below_one n'.below_one n'.from_here h))

-- ---- from the sizes of two floats to their order

-- a / c < b / c, over the denominators of the two floats
module _ (m n u v d e a b c : ℕ) (p : m * u * c ≡ a * d) (q : n * v * c ≡ b * e) (hc : 0 < c) where
  across : 0 < d → 0 < e → a < b → m * u * e < n * v * d
  across hd he h =
      lt_of_mul-lt-mul_right c
      (subst (λ (k : ℕ). k < n * v * d * c) (sym (mul_right_comm (m * u) e c ∙ ap (λ (k : ℕ). k * e) p))
      (subst (λ (k : ℕ). a * d * e < k) (sym (mul_right_comm (n * v) d c ∙ ap (λ (k : ℕ). k * d) q ∙ mul_right_comm b e d))
      (mul-lt-mul_of_pos_right (mul-lt-mul_of_pos_right h hd) he)))

both_positive : (x y : Float) (a b c : ℕ) → 0 < c → HasValue x false a c → HasValue y false b c → a < b → lt x y ≡ true
unfolding lt
both_positive nan y a b c hc v w h = absurd v
both_positive (inf s) y a b c hc v w h = absurd v
both_positive (fin s m e) nan a b c hc v w h = absurd w
both_positive (fin s m e) (inf t) a b c hc v w h = absurd w
both_positive (fin true m e) (fin t n d) a b c hc v w h = never (sym v.0)
both_positive (fin false m e) (fin true n d) a b c hc v w h = never (sym w.0)
both_positive (fin false m e) (fin false n d) a b c hc v w h =
    lt-ltb (m * up e * down d) (n * up d * down e) (across m n (up e) (up d) (down e) (down d) a b c v.1 w.1 hc (down_pos e) (down_pos d) h)

both_negative : (x y : Float) (a b c : ℕ) → 0 < c → HasValue x true a c → HasValue y true b c → b < a → lt x y ≡ true
unfolding lt
both_negative nan y a b c hc v w h = absurd v
both_negative (inf s) y a b c hc v w h = absurd v
both_negative (fin s m e) nan a b c hc v w h = absurd w
both_negative (fin s m e) (inf t) a b c hc v w h = absurd w
both_negative (fin false m e) (fin t n d) a b c hc v w h = never v.0
both_negative (fin true m e) (fin false n d) a b c hc v w h = never w.0
both_negative (fin true m e) (fin true n d) a b c hc v w h =
    lt-ltb (n * up d * down e) (m * up e * down d) (across n m (up d) (up e) (down d) (down e) b a c w.1 v.1 hc (down_pos d) (down_pos e) h)

-- a number above zero is above zero over any denominator
above : (n c b d k : ℕ) → n * c ≡ b * d → 0 < b → 0 < d → 0 < k → 0 < n * k
above zero c b d k e hb hd hk = absurd (omega (arith, mul-pos hb hd, zero-mul c))
above (suc n) c b d k e hb hd hk = mul-pos (zero-lt-suc n) hk

mixed : (x y : Float) (a b c : ℕ) → 0 < b → HasValue x true a c → HasValue y false b c → lt x y ≡ true
unfolding lt
mixed nan y a b c h v w = absurd v
mixed (inf s) y a b c h v w = absurd v
mixed (fin s m e) nan a b c h v w = absurd w
mixed (fin s m e) (inf t) a b c h v w = absurd w
mixed (fin false m e) (fin t n d) a b c h v w = never v.0
mixed (fin true m e) (fin true n d) a b c h v w = never (sym w.0)
mixed (fin true m e) (fin false n d) a b c h v w =
    let positive : 0 < n * up d * down e = above (n * up d) c b (down d) (down e) w.1 h (down_pos d) (down_pos e) in
    lt-ltb 0 (m * up e * down d + n * up d * down e) (omega arith)

-- ---- a word that is a number

pub record Sized (s : Bool) (g : ℕ) (x : Float) : Type 0 where
  pub normal : 0x100000 ≤ fraction g
  pub value : HasValue x s (fraction g * 2 ^ (4 * exponent g)) (2 ^ 280)

sized : (s : Bool) (g : ℕ) (x : Float) → signed_of s g ≡ Number x → Sized s g x
sized s g x h = by (leb 0x100000 (fraction g)) refl
  where
    by : (t : Bool) → leb 0x100000 (fraction g) ≡ t → Sized s g x
    by true e =
        let normal = leb-true 0x100000 (fraction g) e in
        let is : number_of s (fraction g) (exponent g) ≡ x = ap value_of (sym (normal_fraction s g normal) ∙ h) in
        record { normal = normal; value = subst (λ (y : Float). HasValue y s (fraction g * 2 ^ (4 * exponent g)) (2 ^ 280)) is (number_value s (fraction g) (exponent g)) }
    by false e = let z : case_of NotNormal ≡ case_of (Number x) = ap case_of (sym (low_fraction s g (leb-false 0x100000 (fraction g) e)) ∙ h) in absurd (omega arith)

positive_sized : (w : ℕ) (x : Float) → w < 0x80000000 → reading_of w ≡ Number x → Sized false w x
positive_sized w x h e =
    let not_zero : w ≡ 0 → ⊥ = (λ z. let c : case_of Zero ≡ case_of (Number x) = ap case_of (sym (ap reading_of z ∙ zero_reads) ∙ e) in omega arith) in
    sized false w x (sym (positive_reads w not_zero h) ∙ e)

negative_sized : (w : ℕ) (x : Float) → 0x80000000 ≤ w → reading_of w ≡ Number x → Sized true (0x100000000 - w) x
negative_sized w x h e = sized true (0x100000000 - w) x (sym (negative_reads w h) ∙ e)

-- the sizes of two magnitudes
magnitudes_rise : (g h : ℕ) → g < h → 0x100000 ≤ fraction h → fraction g * 2 ^ (4 * exponent g) < fraction h * 2 ^ (4 * exponent h)
magnitudes_rise g h less normal = size_rises (exponent g) (fraction g) (exponent h) (fraction h) (omega arith) (omega arith) normal (omega arith)

positive_less : (u v : ℕ) → u < v → v < 0x80000000 → Less u v
positive_less u v less low x y e e' =
    let p = positive_sized u x (omega arith) e in
    let q = positive_sized v y low e' in
    both_positive x y _ _ (2 ^ 280) (pow_pos 280) p.value q.value (magnitudes_rise u v less q.normal)

negative_less : (u v : ℕ) → 0x80000000 ≤ u → u < v → v < 0x100000000 → Less u v
negative_less u v low less high x y e e' =
    let p = negative_sized u x low e in
    let q = negative_sized v y (omega arith) e' in
    both_negative x y _ _ (2 ^ 280) (pow_pos 280) p.value q.value
    (magnitudes_rise (0x100000000 - v) (0x100000000 - u) (omega arith) p.normal)

between_less : (u v : ℕ) → 0x80000000 ≤ u → u < 0x100000000 → v < 0x80000000 → Less u v
between_less u v low high below x y e e' =
    let p = negative_sized u x low e in
    let q = positive_sized v y below e' in
    let some : 0 < fraction v = omega (arith, q.normal) in
    mixed x y _ _ (2 ^ 280) (mul-pos some (pow_pos (4 * exponent v))) p.value q.value

pub ordering : Ordering
ordering = record { sizes = sizes; positive = positive_less; negative = negative_less; between = between_less }
