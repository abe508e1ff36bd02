-- Digits there and back: out of bytes and into them, into a number and out of it.
-- Assumes nothing.
use mathlib.Core.Path.{◌≡◌, refl, sym, ap, ◌∙◌}
use Prim.Native.Nat.{ℕ, zero, suc, ◌+◌, ◌*◌, ◌/◌, ◌%◌, ◌^◌, ◌≤◌, ◌<◌}
use native.Mathlib.Omega.{arith}
use native.Mathlib.Nat.{div-add-mod', mod-eq_of_lt, mul-add-div_right, mul_assoc, pow-succ'}
use mathlib.Core.Bool.{true}
use mathlib.Core.List.{List, [], ◌∷◌, ◌++◌}
use lib.Arith.{digits_div, digits_lt, mod-mul}
use lib.Dec.{leb}
use lib.ListN.{length, get_or, take, drop}
use borrow.Author.Tests.{le-leb, leb-true}
use Rattle.tag.specs.Digits.{digits_of, paired, decimal, value_of, spelt}
use Rattle.ground.proofs.LawsTests.{both, first, second}

-- Decimal digits: of a row's parts, of two rows joined, and by place.
pub decimal_drop : (k : ℕ) (ds : List ℕ) → decimal ds ≡ true → decimal (drop k ds) ≡ true
unfolding decimal
decimal_drop zero ds h = h
decimal_drop (suc k) [] h = h
decimal_drop (suc k) (d ∷ ds) h = decimal_drop k ds (second (leb d 9) (decimal ds) h)

pub decimal_take : (k : ℕ) (ds : List ℕ) → decimal ds ≡ true → decimal (take k ds) ≡ true
unfolding decimal
decimal_take zero ds h = refl
decimal_take (suc k) [] h = h
decimal_take (suc k) (d ∷ ds) h = both (first (leb d 9) (decimal ds) h) (decimal_take k ds (second (leb d 9) (decimal ds) h))

pub decimal_append : (ds es : List ℕ) → decimal ds ≡ true → decimal es ≡ true → decimal (ds ++ es) ≡ true
unfolding decimal
decimal_append [] es p q = q
decimal_append (d ∷ ds) es p q = both (first (leb d 9) (decimal ds) p) (decimal_append ds es (second (leb d 9) (decimal ds) p) q)

pub decimal_at : (ds : List ℕ) → decimal ds ≡ true → (i : ℕ) → get_or ds i 0 ≤ 9
unfolding decimal
decimal_at [] h i = omega arith
decimal_at (d ∷ ds) h zero = leb-true d 9 (first (leb d 9) (decimal ds) h)
decimal_at (d ∷ ds) h (suc i) = decimal_at ds (second (leb d 9) (decimal ds) h) i

pub at_decimal : (ds : List ℕ) → ((i : ℕ) → i < length ds → get_or ds i 0 ≤ 9) → decimal ds ≡ true
unfolding decimal
at_decimal [] h = refl
at_decimal (d ∷ ds) h = both (le-leb d 9 (h 0 (omega arith))) (at_decimal ds (λ i p. h (suc i) (omega arith)))

-- Bytes and digits.
pub length_digits : (bs : List ℕ) → length (digits_of bs) ≡ length bs * 2
unfolding digits_of
length_digits [] = refl
length_digits (b ∷ bs) = omega (arith, length_digits bs)

pub paired_digits : (bs : List ℕ) → paired (digits_of bs) ≡ bs
unfolding digits_of paired
paired_digits [] = refl
paired_digits (b ∷ bs) = λ i. div-add-mod' b 16 i ∷ paired_digits bs i

pub digits_paired : (n : ℕ) (ds : List ℕ) → length ds ≡ n * 2 → decimal ds ≡ true → digits_of (paired ds) ≡ ds
unfolding digits_of paired decimal
digits_paired n [] e h = refl
digits_paired n (d ∷ []) e h = absurd (omega arith)
digits_paired zero (a ∷ b ∷ ds) e h = absurd (omega arith)
digits_paired (suc n) (a ∷ b ∷ ds) e h =
    let r : decimal (b ∷ ds) ≡ true = second (leb a 9) (decimal (b ∷ ds)) h in
    let p : b ≤ 9 = leb-true b 9 (first (leb b 9) (decimal ds) r) in
    let x : (a * 16 + b) / 16 ≡ a = omega arith in
    let y : (a * 16 + b) % 16 ≡ b = omega arith in
    λ i. x i ∷ y i ∷ digits_paired n ds (omega arith) (second (leb b 9) (decimal ds) r) i

-- Digits and numbers.
ten : (k : ℕ) → 0 < 10 ^ k
ten zero = omega arith
ten (suc k) = rw (pow-succ' 10 k) (omega (arith, ten k))

length_spelt : (k n : ℕ) → length (spelt k n) ≡ k
unfolding spelt
length_spelt zero n = refl
length_spelt (suc k) n = ap suc (length_spelt k n)

pub decimal_spelt : (k n : ℕ) → decimal (spelt k n) ≡ true
unfolding decimal spelt
decimal_spelt zero n = refl
decimal_spelt (suc k) n = both (le-leb (n / 10 ^ k % 10) 9 (omega arith)) (decimal_spelt k n)

value_spelt : (k n : ℕ) → value_of (spelt k n) ≡ n % 10 ^ k
unfolding value_of spelt
value_spelt zero n = omega arith
value_spelt (suc k) n =
    (λ i. n / 10 ^ k % 10 * 10 ^ length_spelt k n i + value_spelt k n i) ∙ sym (mod-mul n (omega arith) (ten k)) ∙ ap (λ (m : ℕ). n % m) (sym (pow-succ' 10 k))

-- A number below 10 ^ k is spelt by its last k digits.
pub spells : (k n : ℕ) → n < 10 ^ k → value_of (spelt k n) ≡ n
spells k n h = value_spelt k n ∙ mod-eq_of_lt h

pub value_below : (ds : List ℕ) → decimal ds ≡ true → value_of ds < 10 ^ length ds
unfolding decimal value_of
value_below [] h = omega arith
value_below (d ∷ ds) h =
    rw (pow-succ' 10 (length ds)) (digits_lt (omega (arith, leb-true d 9 (first (leb d 9) (decimal ds) h))) (value_below ds (second (leb d 9) (decimal ds) h)))

-- Only the last k digits count.
low : (k a n : ℕ) → spelt k (a * 10 ^ k + n) ≡ spelt k n
unfolding spelt
low zero a n = refl
low (suc k) a n =
    let e : a * 10 ^ suc k + n ≡ a * 10 * 10 ^ k + n = ap (λ (m : ℕ). a * m + n) (pow-succ' 10 k) ∙ ap (λ (m : ℕ). m + n) (sym (mul_assoc a 10 (10 ^ k))) in
    let q : (a * 10 * 10 ^ k + n) / 10 ^ k ≡ a * 10 + n / 10 ^ k = mul-add-div_right (ten k) (a * 10) n in
    let d : (a * 10 + n / 10 ^ k) % 10 ≡ n / 10 ^ k % 10 = omega arith in
    (λ i. e i / 10 ^ k % 10 ∷ spelt k (e i)) ∙ (λ i. q i % 10 ∷ low k (a * 10) n i) ∙ (λ i. d i ∷ spelt k n)

pub spelt_value : (ds : List ℕ) → decimal ds ≡ true → spelt (length ds) (value_of ds) ≡ ds
unfolding decimal spelt value_of
spelt_value [] h = refl
spelt_value (d ∷ ds) h =
    let p : d ≤ 9 = leb-true d 9 (first (leb d 9) (decimal ds) h) in
    let r : decimal ds ≡ true = second (leb d 9) (decimal ds) h in
    let q : (d * 10 ^ length ds + value_of ds) / 10 ^ length ds ≡ d = digits_div d (value_below ds r) in
    (λ i. q i % 10 ∷ low (length ds) d (value_of ds) i) ∙ (λ i. mod-eq_of_lt {n = d} {m = 10} (omega arith) i ∷ spelt_value ds r i)
