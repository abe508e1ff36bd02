-- Four words in a number: the words of a group as two pairs, and the pairs as words side by side.
-- Assumes nothing.
use mathlib.Core.Path.{◌≡◌, refl, sym, ap, ap₂, ◌∙◌, subst}
use mathlib.Core.List.{List, [], ◌∷◌, ◌++◌}
use Prim.Native.Nat.{ℕ, suc, ◌+◌, ◌-◌, ◌*◌, ◌/◌, ◌%◌, ◌^◌, ◌≤◌, ◌<◌}
use native.Mathlib.Nat.{add_comm, mod-lt, mod-eq_of_lt, lt_of_lt_of_le}
use native.Mathlib.Omega.{arith}
use lib.Pow.{pow_pos, pow_mono, high, low, split, field, shr_lt, shr-shr, mod-mod-pow, ones_lt}
use lib.Bits.{bit_and, and_block, and_mask}
use Rattle.bits.specs.Bits.{bits, words}
use Rattle.bits.specs.Digits.{digits}
use Rattle.bits.proofs.LawsBits.{bits_split}
use Rattle.bits.proofs.LawsDigits.{from_digits, digits_from}
use Rattle.bits.proofs.LawsWords.{words_top, words_cons}
use Rattle.taking.specs.Halves.{low_bits}

pub four_digits : (x : ℕ) → digits 65536 4 x ≡ x % 2 ^ 16 ∷ x / 2 ^ 16 % 2 ^ 16 ∷ x / 2 ^ 32 % 2 ^ 16 ∷ x / 2 ^ 48 % 2 ^ 16 ∷ []
unfolding digits
four_digits x = rw (sym (shr-shr x 32 16), sym (shr-shr x 16 16)) refl

pub low_bits_is : (size x : ℕ) → size ≤ 16 → bit_and x ((2 ^ size - 1) * 0x100000001) ≡ low_bits size x
low_bits_is size x h =
    let ones = 2 ^ size - 1 in
    let short : ones < 2 ^ 32 = lt_of_lt_of_le (ones_lt size) (pow_mono {j = 32} (omega arith)) in
    let twice : ones * 0x100000001 ≡ ones * 2 ^ 32 + ones = omega arith in
    let e : (32 - size) + size ≡ 32 = omega arith in
    ap₂ bit_and (sym (split x 32)) twice
    ∙ and_block 32 (x / 2 ^ 32) ones (x % 2 ^ 32) ones (mod-lt x (pow_pos 32)) short
    ∙ ap₂ (λ (y z : ℕ). y * 2 ^ 32 + z) (and_mask (x / 2 ^ 32) size)
    (and_mask (x % 2 ^ 32) size ∙ ap (λ (k : ℕ). x % 2 ^ k % 2 ^ size) (sym e) ∙ mod-mod-pow x (32 - size) size)

pub low_short : (size x : ℕ) {r : ℕ} → size ≤ 16 → r ≡ low_bits size x → r ≤ 65535 * 2 ^ 32 + 65535
low_short size x h e =
    let p : 2 ^ size ≤ 2 ^ 16 = pow_mono {j = 16} h in
    omega (arith, p, e, mod-lt (x / 2 ^ 32) (pow_pos size), mod-lt x (pow_pos size))

-- ---- a group: two pairs, and each of them two words

pub first_short : (size x : ℕ) → size ≤ 16 → x < 2 ^ 64 → x / 2 ^ (64 - 2 * size) < 2 ^ 32
first_short size x h l =
    let e : 64 ≡ 2 * size + (64 - 2 * size) = omega arith in
    lt_of_lt_of_le (shr_lt (2 * size) (64 - 2 * size) (subst (λ (m : ℕ). x < 2 ^ m) e l)) (pow_mono {j = 32} (omega arith))

pub second_short : (size x : ℕ) → size ≤ 16 → x % 2 ^ (2 * size) < 2 ^ 32
second_short size x h = lt_of_lt_of_le (mod-lt x (pow_pos (2 * size))) (pow_mono {j = 32} (omega arith))

-- a pair of words in front
pair_words : (size count p : ℕ) (rest : List ℕ) → p < 2 ^ (size + size)
    → words size (suc (suc count)) (bits (size + size) p ++ rest) ≡ p / 2 ^ size ∷ p % 2 ^ size ∷ words size count rest
pair_words size count p rest h =
    words_top size size (suc count) p rest h
    ∙ ap (λ (l : List ℕ). p / 2 ^ size ∷ l) (words_cons size count (p % 2 ^ size) rest (mod-lt p (pow_pos size)))

module _ (size : ℕ) (most : size ≤ 16) where
  -- the halves of a number that holds two pairs
  module _ (p q : ℕ) (hp : p < 2 ^ (size + size)) (hq : q < 2 ^ (size + size)) where
    short : p < 2 ^ 32
    short = lt_of_lt_of_le hp (pow_mono {j = 32} (omega arith))

    -- below 2 ^ 32 only the first pair counts
    first_only : (k : ℕ) → k ≤ 32 → (q * 2 ^ 32 + p) % 2 ^ k ≡ p % 2 ^ k
    first_only k h =
        let e : (32 - k) + k ≡ 32 = omega arith in
        sym (mod-mod-pow (q * 2 ^ 32 + p) (32 - k) k) ∙ ap (λ (m : ℕ). (q * 2 ^ 32 + p) % 2 ^ m % 2 ^ k) e ∙ ap (λ (n : ℕ). n % 2 ^ k) (low q 32 short)

    seconds : low_bits size (q * 2 ^ 32 + p) ≡ q % 2 ^ size * 2 ^ 32 + p % 2 ^ size
    seconds = ap₂ (λ (y z : ℕ). y % 2 ^ size * 2 ^ 32 + z) (high q 32 short) (first_only size (omega arith))

    firsts : low_bits size ((q * 2 ^ 32 + p) / 2 ^ size) ≡ q / 2 ^ size * 2 ^ 32 + p / 2 ^ size
    firsts =
        let n = q * 2 ^ 32 + p in
        ap₂ (λ (y z : ℕ). y * 2 ^ 32 + z)
        (ap (λ (m : ℕ). m % 2 ^ size)
        (shr-shr n size 32 ∙ ap (λ (m : ℕ). n / 2 ^ m) (add_comm size 32) ∙ sym (shr-shr n 32 size) ∙ ap (λ (m : ℕ). m / 2 ^ size) (high q 32 short))
        ∙ mod-eq_of_lt (shr_lt size size hq))
        (sym (field n size size) ∙ ap (λ (m : ℕ). m / 2 ^ size) (first_only (size + size) (omega arith) ∙ mod-eq_of_lt hp))

    pairs_apart : low_bits size ((q * 2 ^ 32 + p) / 2 ^ size) + low_bits size (q * 2 ^ 32 + p) * 2 ^ 16
        ≡ from_digits 16 (p / 2 ^ size ∷ p % 2 ^ size ∷ q / 2 ^ size ∷ q % 2 ^ size ∷ [])
    pairs_apart = ap₂ (λ (y z : ℕ). y + z * 2 ^ 16) firsts seconds ∙ sum (p / 2 ^ size) (p % 2 ^ size) (q / 2 ^ size) (q % 2 ^ size)
      where
        sum : (a b c d : ℕ) → c * 2 ^ 32 + a + (d * 2 ^ 32 + b) * 2 ^ 16 ≡ from_digits 16 (a ∷ b ∷ c ∷ d ∷ [])
        sum a b c d = omega arith

  pub four_words : (x : ℕ) → x < 2 ^ 64 → (p q : ℕ) → p ≡ x / 2 ^ (64 - 2 * size) → q ≡ x / 2 ^ (64 - 4 * size) % 2 ^ (2 * size)
      → digits 65536 4 (low_bits size ((q * 2 ^ 32 + p) / 2 ^ size) + low_bits size (q * 2 ^ 32 + p) * 2 ^ 16) ≡ words size 4 (bits 64 x)
  unfolding words
  four_words x h p q ep eq =
      let two = size + size in
      let k = 64 - 4 * size in
      let w : 64 ≡ two + (two + k) = omega arith in
      let t : 2 * size ≡ two = omega arith in
      let u : 64 - 2 * size ≡ two + k = omega arith in
      let p' : p ≡ x / 2 ^ (two + k) = ep ∙ ap (λ (m : ℕ). x / 2 ^ m) u in
      let q' : q ≡ x % 2 ^ (two + k) / 2 ^ k = eq ∙ ap (λ (m : ℕ). x / 2 ^ k % 2 ^ m) t ∙ sym (field x two k) in
      let hp : p < 2 ^ two = subst (λ (n : ℕ). n < 2 ^ two) (sym p') (shr_lt two (two + k) (subst (λ (m : ℕ). x < 2 ^ m) w h)) in
      let hq : q < 2 ^ two = subst (λ (n : ℕ). n < 2 ^ two) (sym q') (shr_lt two k (mod-lt x (pow_pos (two + k)))) in
      let rest = bits k (x % 2 ^ (two + k) % 2 ^ k) in
      let said : bits 64 x ≡ bits two p ++ (bits two q ++ rest) =
      ap (λ (m : ℕ). bits m x) w ∙ bits_split two (two + k) x
      ∙ ap₂ (λ (n : ℕ) (l : List ℕ). bits two n ++ l) (sym p')
      (bits_split two k (x % 2 ^ (two + k)) ∙ ap (λ (n : ℕ). bits two n ++ rest) (sym q')) in
      ap (digits 65536 4) (pairs_apart p q hp hq)
      ∙ digits_from 16 (p / 2 ^ size ∷ p % 2 ^ size ∷ q / 2 ^ size ∷ q % 2 ^ size ∷ []) (top hp, (rem p, (top hq, (rem q, tt))))
      ∙ sym (ap (words size 4) said ∙ pair_words size 2 p (bits two q ++ rest) hp ∙ ap (λ (l : List ℕ). p / 2 ^ size ∷ p % 2 ^ size ∷ l) (pair_words size 0 q rest hq))
    where
      word : {n : ℕ} → n < 2 ^ size → n < 2 ^ 16
      word l = lt_of_lt_of_le l (pow_mono {j = 16} most)

      top : {n : ℕ} → n < 2 ^ (size + size) → n / 2 ^ size < 2 ^ 16
      top l = word (shr_lt size size l)

      rem : (n : ℕ) → n % 2 ^ size < 2 ^ 16
      rem n = word (mod-lt n (pow_pos size))
