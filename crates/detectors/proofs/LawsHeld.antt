-- The bits of ten bytes in two numbers: the whole, one bit of them, and what they count.
-- Assumes nothing.
use mathlib.Core.Path.{◌≡◌, sym, ap, ap₂, ◌∙◌, subst}
use mathlib.Core.List.{List, [], ◌∷◌, ◌++◌, append_assoc, append-nil}
use Prim.Native.Nat.{ℕ, zero, suc, ◌+◌, ◌-◌, ◌*◌, ◌/◌, ◌%◌, ◌^◌, ◌≤◌, ◌<◌}
use native.Mathlib.Nat.{le_of_eq, mod-lt, zero-lt-suc}
use native.Mathlib.Omega.{arith}
use lib.Dec.{eqb}
use lib.Count.{ones, count_leading_zeros, leading_of_zero, leading_le}
use lib.ListN.{length, get_or, take, drop, length-append, take-append-drop, drop_of_length-le, get_or-append}
use lib.Seq.{take_at, drop-cons, get_or-append-add}
use Rattle.bits.specs.Bits.{bits, sent, Below}
use Rattle.bits.specs.Fields.{all_zero}
use Rattle.bits.proofs.LawsBelow.{below_take, below_drop}
use Rattle.bits.proofs.LawsElements.{part_eight}
use Rattle.bits.proofs.LawsFill.{fill_inside, zero_bits}
use Rattle.bits.proofs.LawsBits.{length_bits, bits_join, bits_split, intake}
use Rattle.bits.proofs.LawsWords.{spell_append, spell_cons, spell_nil}
use Rattle.detectors.specs.Status.{detectors, spare_zero, set_in, before_set}
use Rattle.detectors.proofs.LawsCounts.{set_append, set_bits, before_bits, first_here, first_later}

-- ---- the whole

-- the number n, and behind it these bytes
abbrev pub behind : ℕ → List ℕ → ℕ
behind n [] = n
behind n (b ∷ bytes) = behind (n * 256 + b) bytes

bits_behind : (k n : ℕ) (bytes : List ℕ) → Below 256 bytes → bits (k + length bytes * 8) (behind n bytes) ≡ bits k n ++ sent bytes
bits_behind k n [] h = ap (λ (m : ℕ). bits m n) (omega arith) ∙ sym (append-nil (bits k n)) ∙ ap (λ (l : List ℕ). bits k n ++ l) (sym (spell_nil 8))
bits_behind k n (b ∷ bytes) h =
    let more = behind (n * 256 + b) bytes in
    let e : k + suc (length bytes) * 8 ≡ k + 8 + length bytes * 8 = omega arith in
    ap (λ (m : ℕ). bits m more) e
    ∙ bits_behind (k + 8) (n * 256 + b) bytes h.1
    ∙ sym (intake k 8 n b (sent bytes) h.0)
    ∙ ap (λ (l : List ℕ). bits k n ++ l) (sym (spell_cons 8 b bytes))

-- the number of bytes that are known one by one
spelt : {part : List ℕ} → Below 256 part → (bytes : List ℕ) → part ≡ bytes → bits (0 + length bytes * 8) (behind 0 bytes) ≡ sent part
unfolding bits
spelt below bytes e = bits_behind 0 0 bytes (subst (Below 256) e below) ∙ ap sent (sym e)

-- its first eight bytes, and the last two of ten
abbrev pub eight_of : List ℕ → List ℕ
eight_of s = get_or s 0 0 ∷ get_or s 1 0 ∷ get_or s 2 0 ∷ get_or s 3 0 ∷ get_or s 4 0 ∷ get_or s 5 0 ∷ get_or s 6 0 ∷ get_or s 7 0 ∷ []

abbrev pub two_of : List ℕ → List ℕ
two_of s = get_or s 8 0 ∷ get_or s 9 0 ∷ []

last_two : (s : List ℕ) → length s ≡ 10 → drop 8 s ≡ two_of s
last_two s ten =
    drop-cons s 8 0 (omega arith)
    ∙ ap (λ (l : List ℕ). get_or s 8 0 ∷ l) (drop-cons s 9 0 (omega arith) ∙ ap (λ (l : List ℕ). get_or s 9 0 ∷ l) (drop_of_length-le s (le_of_eq ten)))

module _ (status : List ℕ) (ten : length status ≡ 10) (below : Below 256 status)
    (high low : ℕ) (a : high ≡ behind 0 (eight_of status)) (b : low ≡ behind 0 (two_of status) / 16) where
  last : ℕ
  last = behind 0 (two_of status)

  eight : bits 64 high ≡ sent (take 8 status)
  eight = ap (bits 64) a ∙ spelt (below_take 256 8 status below) (eight_of status) (part_eight status 0 (omega arith))

  two : bits 12 low ++ bits 4 (last % 16) ≡ sent (drop 8 status)
  unfolding last
  two =
      ap (λ (n : ℕ). bits 12 n ++ bits 4 (last % 16)) b ∙ sym (bits_split 12 4 last)
      ∙ spelt (below_drop 256 8 status below) (two_of status) (last_two status ten)

  whole : sent status ≡ (bits 64 high ++ bits 12 low) ++ bits 4 (last % 16)
  whole =
      ap sent (sym (take-append-drop 8 status)) ∙ spell_append 8 (take 8 status) (drop 8 status)
      ∙ ap₂ (λ (x y : List ℕ). x ++ y) (sym eight) (sym two)
      ∙ sym (append_assoc (bits 64 high) (bits 12 low) (bits 4 (last % 16)))

  pub held_bits : detectors status ≡ bits 64 high ++ bits 12 low
  unfolding detectors
  held_bits =
      ap (take 76) whole
      ∙ take_at (bits 64 high ++ bits 12 low) (bits 4 (last % 16)) 76
      (length-append (bits 64 high) (bits 12 low) ∙ ap₂ (λ (x y : ℕ). x + y) (length_bits 64 high) (length_bits 12 low))

pub spare_bits : (status : List ℕ) → length status ≡ 10 → spare_zero status ≡ eqb (get_or status 9 0 % 16) 0
unfolding spare_zero
spare_bits status ten =
    let last = get_or status 9 0 % 16 in
    ap all_zero (fill_inside status 9 4 (omega arith) (omega arith))
    ∙ ap (λ (l : List ℕ). all_zero (bits 4 last ++ l)) (ap sent (drop_of_length-le status (le_of_eq ten)) ∙ spell_nil 8)
    ∙ ap all_zero (append-nil (bits 4 last))
    ∙ zero_bits 4 last (mod-lt (get_or status 9 0) (zero-lt-suc 15))

-- ---- one bit

-- bit i of k, with r behind it
bit_of : (k i r n : ℕ) → suc i + r ≡ k → get_or (bits k n) i 0 ≡ n / 2 ^ r % 2
unfolding bits
bit_of zero i r n e = absurd (omega arith)
bit_of (suc k) zero r n e = let same : k ≡ r = omega arith in ap (λ (m : ℕ). n / 2 ^ m % 2) same
bit_of (suc k) (suc i) r n e = bit_of k i r n (omega arith)

pub bit_high : (high low i : ℕ) → i < 64 → get_or (bits 64 high ++ bits 12 low) i 0 ≡ high / 2 ^ (63 - i) % 2
bit_high high low i h =
    get_or-append (bits 64 high) (bits 12 low) 0 i (omega (arith, length_bits 64 high)) ∙ bit_of 64 i (63 - i) high (omega arith)

pub bit_low : (high low i : ℕ) → 64 ≤ i → i < 76 → get_or (bits 64 high ++ bits 12 low) i 0 ≡ low / 2 ^ (75 - i) % 2
bit_low high low i h k =
    ap (λ (n : ℕ). get_or (bits 64 high ++ bits 12 low) n 0) (omega (arith, length_bits 64 high))
    ∙ get_or-append-add (bits 64 high) (bits 12 low) (i - 64) 0
    ∙ bit_of 12 (i - 64) (75 - i) low (omega arith)

-- ---- what two numbers count

module _ (high low : ℕ) (h : high < 2 ^ 64) (l : low < 2 ^ 12) where
  pub set_two : set_in (bits 64 high ++ bits 12 low) ≡ ones high + ones low
  set_two = set_append (bits 64 high) (bits 12 low) ∙ ap₂ (λ (x y : ℕ). x + y) (set_bits 64 high h) (set_bits 12 low l)

  pub first_high : count_leading_zeros 64 high < 64 → before_set (bits 64 high ++ bits 12 low) ≡ count_leading_zeros 64 high
  first_high f =
      let e = before_bits 64 high h in
      first_here (bits 64 high) (bits 12 low) (omega (arith, e, length_bits 64 high)) ∙ e

  -- in 64 bits the low number has 52 zeros before its 12
  padded : before_set (bits 64 low) ≡ 52 + before_set (bits 12 low)
  padded =
      ap (λ (n : ℕ). before_set (bits 64 n)) (omega arith)
      ∙ ap before_set (bits_join 52 12 0 low l)
      ∙ first_later (bits 52 0) (bits 12 low) (before_bits 52 0 (omega arith) ∙ leading_of_zero 52 ∙ sym (length_bits 52 0))
      ∙ ap (λ (n : ℕ). n + before_set (bits 12 low)) (length_bits 52 0)

  pub first_low : 64 ≤ count_leading_zeros 64 high → before_set (bits 64 high ++ bits 12 low) ≡ 12 + count_leading_zeros 64 low
  first_low f =
      let none : before_set (bits 64 high) ≡ length (bits 64 high) = omega (arith, before_bits 64 high h, leading_le 64 high, length_bits 64 high) in
      let wide : low < 2 ^ 64 = omega arith in
      first_later (bits 64 high) (bits 12 low) none ∙ omega (arith, length_bits 64 high, padded, before_bits 64 low wide)
