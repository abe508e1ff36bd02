-- Numbers that hold others side by side, and the bytes of a number from either end.
-- Assumes nothing.
use mathlib.Core.Path.{◌≡◌, refl, sym, ap, ap₂, ◌∙◌, subst}
use mathlib.Core.List.{List, [], ◌∷◌, ◌++◌, append-nil}
use Prim.Native.Nat.{ℕ, zero, suc, ◌+◌, ◌*◌, ◌/◌, ◌%◌, ◌^◌, ◌<◌}
use native.Mathlib.Nat.{suc-mul, add-zero, mod-lt, mod-eq_of_lt, div-one}
use native.Mathlib.Omega.{arith}
use lib.ListN.{length, get_or}
use lib.Seq.{take_all}
use lib.Pow.{pow_pos, high, low, shr-shr}
use Rattle.std.specs.Int.{w64, from_le_bytes}
use Rattle.bits.specs.Bits.{bits, value, words, sent, Below}
use Rattle.bits.specs.Digits.{digits}
use Rattle.bits.proofs.LawsBits.{value_bits, intake}
use Rattle.bits.proofs.LawsElements.{part_eight}
use Rattle.bits.proofs.LawsWords.{spell_nil, spell_cons, words_next}

-- ---- digits, the lowest first

-- the number that has these digits of k bits
abbrev pub from_digits : ℕ → List ℕ → ℕ
from_digits k [] = 0
from_digits k (d ∷ ds) = from_digits k ds * 2 ^ k + d

pub digits_from : (k : ℕ) (ds : List ℕ) → Below (2 ^ k) ds → digits (2 ^ k) (length ds) (from_digits k ds) ≡ ds
unfolding digits
digits_from k [] h = refl
digits_from k (d ∷ ds) h =
    ap₂ (λ (x y : ℕ). x ∷ digits (2 ^ k) (length ds) y) (low (from_digits k ds) k h.0) (high (from_digits k ds) k h.0)
    ∙ ap (λ (l : List ℕ). d ∷ l) (digits_from k ds h.1)

digits_below : (k count x : ℕ) → Below (2 ^ k) (digits (2 ^ k) count x)
unfolding digits
digits_below k zero x = tt
digits_below k (suc count) x = (mod-lt x (pow_pos k), digits_below k count (x / 2 ^ k))

-- ---- eight bytes

-- the number n, and behind it these bytes
abbrev behind : ℕ → List ℕ → ℕ
behind n [] = n
behind n (b ∷ bytes) = behind (n * 256 + b) bytes

bits_behind_bytes : (size n : ℕ) (bytes : List ℕ) → Below 256 bytes → bits size n ++ sent bytes ≡ bits (size + length bytes * 8) (behind n bytes)
bits_behind_bytes size n [] h =
    ap (λ (l : List ℕ). bits size n ++ l) (spell_nil 8) ∙ append-nil (bits size n) ∙ ap (λ (m : ℕ). bits m n) (sym (add-zero size))
bits_behind_bytes size n (b ∷ bytes) h =
    let e : size + 8 + length bytes * 8 ≡ size + suc (length bytes) * 8 = omega (arith, suc-mul (length bytes) 8) in
    ap (λ (l : List ℕ). bits size n ++ l) (spell_cons 8 b bytes)
    ∙ intake size 8 n b (sent bytes) h.0
    ∙ bits_behind_bytes (size + 8) (n * 256 + b) bytes h.1
    ∙ ap (λ (m : ℕ). bits m (behind (n * 256 + b) bytes)) e

bits_bytes : (bytes : List ℕ) → Below 256 bytes → sent bytes ≡ bits (0 + length bytes * 8) (behind 0 bytes)
unfolding bits
bits_bytes bytes h = bits_behind_bytes 0 0 bytes h

-- the number of eight bytes, the first one lowest, as the library has it
pub bytes_low_first : (bytes : List ℕ) → length bytes ≡ 8 → Below 256 bytes → digits 256 8 (from_le_bytes w64 bytes) ≡ bytes
bytes_low_first bytes l below =
    let byte : ℕ → ℕ = λ i. get_or bytes i 0 in
    let eight = byte 0 ∷ byte 1 ∷ byte 2 ∷ byte 3 ∷ byte 4 ∷ byte 5 ∷ byte 6 ∷ byte 7 ∷ [] in
    let all : bytes ≡ eight = sym (take_all 8 bytes (omega arith)) ∙ part_eight bytes 0 (omega arith) in
    let same : from_le_bytes w64 bytes ≡ from_digits 8 eight = omega arith in
    ap (digits 256 8) same ∙ digits_from 8 eight (subst (Below 256) all below) ∙ sym all

eight_sum : (a b c d e f g h : ℕ)
    → (a * 2 ^ 24 + b * 2 ^ 16 + c * 256 + d) * 2 ^ 32 + (e * 2 ^ 24 + f * 2 ^ 16 + g * 256 + h)
    ≡ behind 0 (a ∷ b ∷ c ∷ d ∷ e ∷ f ∷ g ∷ h ∷ [])
eight_sum a b c d e f g h = omega arith

-- its bytes the other way round, two halves of four bytes
abbrev pub eight_turned : ℕ → ℕ
eight_turned x =
    (x % 256 * 2 ^ 24 + x / 256 % 256 * 2 ^ 16 + x / 2 ^ 16 % 256 * 256 + x / 2 ^ 24 % 256) * 2 ^ 32
    + (x / 2 ^ 32 % 256 * 2 ^ 24 + x / 2 ^ 40 % 256 * 2 ^ 16 + x / 2 ^ 48 % 256 * 256 + x / 2 ^ 56 % 256)

eight_bits : (x : ℕ) → bits 64 (eight_turned x) ≡ sent (digits 256 8 x)
unfolding digits
eight_bits x =
    ap (bits 64) (eight_sum (x % 256) (x / 256 % 256) (x / 2 ^ 16 % 256) (x / 2 ^ 24 % 256) (x / 2 ^ 32 % 256) (x / 2 ^ 40 % 256) (x / 2 ^ 48 % 256) (x / 2 ^ 56 % 256))
    ∙ rw (sym (shr-shr x 48 8), sym (shr-shr x 40 8), sym (shr-shr x 32 8), sym (shr-shr x 24 8), sym (shr-shr x 16 8), sym (shr-shr x 8 8))
    (sym (bits_bytes (digits 256 8 x) (digits_below 8 8 x)))

-- ---- the number turned: its bits are the digits, the lowest first, and its digits the bytes, the highest first

eight_turned_is : (a b c d e f g h : ℕ)
    → (a * 2 ^ 24 + b * 2 ^ 16 + c * 256 + d) * 2 ^ 32 + (e * 2 ^ 24 + f * 2 ^ 16 + g * 256 + h)
    ≡ from_digits 8 (h ∷ g ∷ f ∷ e ∷ d ∷ c ∷ b ∷ a ∷ [])
eight_turned_is a b c d e f g h = omega arith

high_first : (x : ℕ)
    → words 8 8 (bits 64 x)
    ≡ x / 2 ^ 56 % 256 ∷ x / 2 ^ 48 % 256 ∷ x / 2 ^ 40 % 256 ∷ x / 2 ^ 32 % 256 ∷ x / 2 ^ 24 % 256 ∷ x / 2 ^ 16 % 256 ∷ x / 2 ^ 8 % 256 ∷ x / 2 ^ 0 % 256 ∷ []
unfolding words
high_first x =
    words_next 8 56 7 x ∙ next 56 (words_next 8 48 6 x ∙ next 48 (words_next 8 40 5 x ∙ next 40 (words_next 8 32 4 x
    ∙ next 32 (words_next 8 24 3 x ∙ next 24 (words_next 8 16 2 x ∙ next 16 (words_next 8 8 1 x ∙ next 8 (words_next 8 0 0 x)))))))
  where
    next : (k : ℕ) {l m : List ℕ} → l ≡ m → x / 2 ^ k % 256 ∷ l ≡ x / 2 ^ k % 256 ∷ m
    next k e = ap (λ (t : List ℕ). x / 2 ^ k % 256 ∷ t) e

eight_words : (x : ℕ) → digits 256 8 (eight_turned x) ≡ words 8 8 (bits 64 x)
eight_words x =
    let byte : (n : ℕ) → n % 256 < 256 = λ n. mod-lt n (pow_pos 8) in
    let bytes = x / 2 ^ 56 % 256 ∷ x / 2 ^ 48 % 256 ∷ x / 2 ^ 40 % 256 ∷ x / 2 ^ 32 % 256 ∷ x / 2 ^ 24 % 256 ∷ x / 2 ^ 16 % 256 ∷ x / 2 ^ 8 % 256 ∷ x % 256 ∷ [] in
    ap (digits 256 8) (eight_turned_is (x % 256) (x / 256 % 256) (x / 2 ^ 16 % 256) (x / 2 ^ 24 % 256) (x / 2 ^ 32 % 256) (x / 2 ^ 40 % 256) (x / 2 ^ 48 % 256) (x / 2 ^ 56 % 256))
    ∙ digits_from 8 bytes (byte _, (byte _, (byte _, (byte _, (byte _, (byte _, (byte _, (byte _, tt))))))))
    ∙ sym (high_first x ∙ simp div-one)

pub turned_value : (x : ℕ) → eight_turned x ≡ value (sent (digits 256 8 x))
turned_value x =
    let small : eight_turned x < 2 ^ 64 = omega arith in
    sym (mod-eq_of_lt small) ∙ sym (value_bits 64 (eight_turned x)) ∙ ap value (eight_bits x)

pub turned_bits : (x : ℕ) → bits 64 (value (sent (digits 256 8 x))) ≡ sent (digits 256 8 x)
turned_bits x = ap (bits 64) (sym (turned_value x)) ∙ eight_bits x

pub turned_digits : (x : ℕ) → digits 256 8 (value (sent (digits 256 8 x))) ≡ words 8 8 (bits 64 x)
turned_digits x = ap (digits 256 8) (sym (turned_value x)) ∙ eight_words x
