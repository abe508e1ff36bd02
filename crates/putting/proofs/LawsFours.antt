-- Four words joined in a number, with zeros behind them, and a number's eight bytes.
-- Assumes nothing.
use mathlib.Core.Path.{◌≡◌, refl, sym, ap, ap₂, ◌∙◌, subst}
use mathlib.Core.List.{List, [], ◌∷◌, ◌++◌, append_assoc, append-nil}
use Prim.Native.Nat.{ℕ, ◌+◌, ◌-◌, ◌*◌, ◌/◌, ◌%◌, ◌^◌, ◌≤◌, ◌<◌}
use native.Mathlib.Nat.{add-zero}
use native.Mathlib.Omega.{arith}
use lib.ListN.{replicate}
use lib.Pow.{pow_pos, shl_exact, shr-shr}
use Rattle.bits.specs.Bits.{bits, spell}
use Rattle.bits.specs.Digits.{digits}
use Rattle.bits.proofs.LawsBits.{bits_zero, intake, intake_lt}
use Rattle.bits.proofs.LawsWords.{spell_nil, spell_cons}

pub eight_digits : (x : ℕ)
    → digits 256 8 x
    ≡ x % 256 ∷ x / 2 ^ 8 % 256 ∷ x / 2 ^ 16 % 256 ∷ x / 2 ^ 24 % 256 ∷ x / 2 ^ 32 % 256 ∷ x / 2 ^ 40 % 256 ∷ x / 2 ^ 48 % 256 ∷ x / 2 ^ 56 % 256 ∷ []
unfolding digits
eight_digits x = rw (sym (shr-shr x 48 8), sym (shr-shr x 40 8), sym (shr-shr x 32 8), sym (shr-shr x 24 8), sym (shr-shr x 16 8), sym (shr-shr x 8 8)) refl

-- ---- four words joined, one behind the other: nothing is shifted out of 64 bits

-- one word more, as the code has it
abbrev pub joined_to : ℕ → ℕ → ℕ → ℕ
joined_to size acc w = acc * 2 ^ size % 2 ^ 64 + w

module _ (size : ℕ) (most : size ≤ 16) where
  kept : (have : ℕ) {acc : ℕ} → have ≤ 48 → acc < 2 ^ have → acc * 2 ^ size % 2 ^ 64 ≡ acc * 2 ^ size
  kept have h l = shl_exact have size 64 l (omega arith)

  joined_lt : (have : ℕ) {acc w : ℕ} → have ≤ 48 → acc < 2 ^ have → w < 2 ^ size → joined_to size acc w < 2 ^ (have + size)
  joined_lt have {acc} {w} h l lw = subst (λ (n : ℕ). n + w < 2 ^ (have + size)) (sym (kept have h l)) (intake_lt have size l lw)

  word_joined : (have acc w : ℕ) (rest : List ℕ) → have ≤ 48 → acc < 2 ^ have → w < 2 ^ size
      → bits have acc ++ (bits size w ++ rest) ≡ bits (have + size) (joined_to size acc w) ++ rest
  word_joined have acc w rest h l lw =
      intake have size acc w rest lw ∙ ap (λ (n : ℕ). bits (have + size) (n + w) ++ rest) (sym (kept have h l))

  module _ {a b c d : ℕ} (la : a < 2 ^ size) (lb : b < 2 ^ size) (lc : c < 2 ^ size) (ld : d < 2 ^ size) where
    pub two_lt : joined_to size a b < 2 ^ (size + size)
    two_lt = joined_lt size (omega arith) la lb

    pub three_lt : joined_to size (joined_to size a b) c < 2 ^ (size + size + size)
    three_lt = joined_lt (size + size) (omega arith) two_lt lc

    pub four_lt : joined_to size (joined_to size (joined_to size a b) c) d < 2 ^ (size + size + size + size)
    four_lt = joined_lt (size + size + size) (omega arith) three_lt ld

    pub joined_bits : bits 64 (joined_to size (joined_to size (joined_to size a b) c) d * 2 ^ (64 - 4 * size) % 2 ^ 64)
        ≡ spell size (a ∷ b ∷ c ∷ d ∷ []) ++ replicate (64 - 4 * size) 0
    joined_bits =
        let k = 64 - 4 * size in
        let all = size + size + size + size in
        let four = joined_to size (joined_to size (joined_to size a b) c) d in
        let zeros : List ℕ = replicate k 0 in
        let w : all + k ≡ 64 = omega arith in
        sym
        (ap (λ (l : List ℕ). l ++ zeros) spelled
        ∙ append_assoc (bits size a) (bits size b ++ (bits size c ++ bits size d)) zeros
        ∙ ap (λ (l : List ℕ). bits size a ++ l)
        (append_assoc (bits size b) (bits size c ++ bits size d) zeros ∙ ap (λ (l : List ℕ). bits size b ++ l) (append_assoc (bits size c) (bits size d) zeros))
        ∙ word_joined size a b (bits size c ++ (bits size d ++ zeros)) (omega arith) la lb
        ∙ word_joined (size + size) (joined_to size a b) c (bits size d ++ zeros) (omega arith) two_lt lc
        ∙ word_joined (size + size + size) (joined_to size (joined_to size a b) c) d zeros (omega arith) three_lt ld
        ∙ ap (λ (l : List ℕ). bits all four ++ l) (sym (bits_zero k) ∙ sym (append-nil (bits k 0)))
        ∙ intake all k four 0 [] (pow_pos k)
        ∙ append-nil (bits (all + k) (four * 2 ^ k + 0))
        ∙ ap₂ bits w (add-zero (four * 2 ^ k) ∙ sym (shl_exact all k 64 four_lt (omega arith))))
      where
        spelled : spell size (a ∷ b ∷ c ∷ d ∷ []) ≡ bits size a ++ (bits size b ++ (bits size c ++ bits size d))
        spelled =
            spell_cons size a (b ∷ c ∷ d ∷ []) ∙ ap (λ (l : List ℕ). bits size a ++ l)
            (spell_cons size b (c ∷ d ∷ []) ∙ ap (λ (l : List ℕ). bits size b ++ l)
            (spell_cons size c (d ∷ []) ∙ ap (λ (l : List ℕ). bits size c ++ l)
            (spell_cons size d [] ∙ ap (λ (l : List ℕ). bits size d ++ l) (spell_nil size) ∙ append-nil (bits size d))))
