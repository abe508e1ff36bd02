-- A word of 64 bits stands for a register, and `folded` and `finished` do to it what 64 zeros and the end do to that. Both sides are
-- linear, so each law is a test at the 64 powers of two.
-- Assumes nothing.
use mathlib.Core.Path.{◌≡◌, refl, sym, ap, ◌∙◌, subst, subst⁻¹}
use mathlib.Core.List.{List, [], ◌∷◌, ◌++◌}
use Prim.Native.Nat.{ℕ, zero, suc, ◌+◌, ◌*◌, ◌/◌, ◌%◌, ◌^◌, ◌<◌, ◌≤◌}
use native.Mathlib.Nat.{mod-lt, zero-mul, suc-mul, lt_of_le_of_lt, lt_of_lt_of_le, le_of_eq, zero-lt-suc}
use native.Mathlib.Omega.{arith}
use lib.Dec.{T, lit<}
use lib.Arith.{digits_lt}
use lib.ListN.{length, get_or, take, drop, take-append-drop}
use Rattle.std.specs.Int.{from_be_bytes, w64}
use Rattle.std.specs.Simd.{first_chunks}
use Rattle.std.proofs.lemmas.List.{drop-drop}
use lib.Pow.{pow_pos, pow-add, shr_le}
use lib.Bits.{bit_xor, xor_lt, xor_zero_r}
use Rattle.bits.specs.Bits.{bits, spell, sent, Below}
use Rattle.bits.proofs.LawsBelow.{below_take, below_drop}
use Rattle.bits.proofs.LawsBits.{bits_below, bits_join}
use Rattle.bits.proofs.LawsElements.{part_eight}
use Rattle.bits.proofs.LawsWords.{spell_append}
use Rattle.check_rule.specs.Check.{generator, fed, feed, check_by, check_word}
use Rattle.check_eight.specs.Eight.{after, big, down1, down2, down3, up2, folded, finished, joined, Stands, check_from}
use Rattle.check_eight.proofs.LawsLinear.{LinearOn, Linear, by_basis, agree, agree_at, id_linear, shr_linear, shl_linear, mod_linear, sum_linear, then_linear}
use Rattle.check_rule.proofs.LawsFeed.{feed_lt, feed_linear, feed_from, feed_append, feed_part}

hg : generator < 65536
hg = lit< tt

-- ---- the register after the digits of a word

after_lt : (r n w : ℕ) → r < 65536 → after r n w < 65536
unfolding after
after_lt r n w hr = feed_lt generator hg r (bits n w) hr (bits_below n w)

after_linear : (n a c x y : ℕ) → a < 65536 → c < 65536 → after (bit_xor a c) n (bit_xor x y) ≡ bit_xor (after a n x) (after c n y)
unfolding after
after_linear n a c x y ha hc = feed_linear generator hg n a c x y ha hc

-- ---- the words

down1_linear : (j : ℕ) → Linear (down1 j)
down1_linear j = sum_linear (λ s. s) (λ s. s / 2 ^ j) id_linear (shr_linear j)

down2_linear : (j k : ℕ) → Linear (down2 j k)
down2_linear j k =
    sum_linear (λ s. s) (λ s. bit_xor (s / 2 ^ j) (s / 2 ^ k)) id_linear
    (sum_linear (λ s. s / 2 ^ j) (λ s. s / 2 ^ k) (shr_linear j) (shr_linear k))

down3_linear : (j k l : ℕ) → Linear (down3 j k l)
down3_linear j k l =
    sum_linear (λ s. s) (λ s. bit_xor (s / 2 ^ j) (bit_xor (s / 2 ^ k) (s / 2 ^ l))) id_linear
    (sum_linear (λ s. s / 2 ^ j) (λ s. bit_xor (s / 2 ^ k) (s / 2 ^ l)) (shr_linear j)
    (sum_linear (λ s. s / 2 ^ k) (λ s. s / 2 ^ l) (shr_linear k) (shr_linear l)))

up2_linear : (j k : ℕ) → Linear (up2 j k)
up2_linear j k =
    sum_linear (λ s. s) (λ s. bit_xor (s * 2 ^ j % 2 ^ 64) (s * 2 ^ k % 2 ^ 64)) id_linear
    (sum_linear (λ s. s * 2 ^ j % 2 ^ 64) (λ s. s * 2 ^ k % 2 ^ 64) (shl_linear 64 j) (shl_linear 64 k))

pub folded_linear : Linear folded
unfolding folded
folded_linear =
    then_linear (λ s. bit_xor (down1 32 (down1 16 s)) (s / 2 ^ 44)) (up2 20 48)
    (sum_linear (λ s. down1 32 (down1 16 s)) (λ s. s / 2 ^ 44) (then_linear (down1 16) (down1 32) (down1_linear 16) (down1_linear 32)) (shr_linear 44)) (up2_linear 20 48)

finished_linear : Linear finished
unfolding finished
finished_linear =
    then_linear (λ s. up2 5 12 (down1 32 (down2 16 44 (down3 8 22 32 (down3 4 11 16 s))))) (λ s. s % 2 ^ 16)
    (then_linear (λ s. down1 32 (down2 16 44 (down3 8 22 32 (down3 4 11 16 s)))) (up2 5 12)
    (then_linear (λ s. down2 16 44 (down3 8 22 32 (down3 4 11 16 s))) (down1 32)
    (then_linear (λ s. down3 8 22 32 (down3 4 11 16 s)) (down2 16 44)
    (then_linear (down3 4 11 16) (down3 8 22 32) (down3_linear 4 11 16) (down3_linear 8 22 32)) (down2_linear 16 44)) (down1_linear 32)) (up2_linear 5 12))
    (mod_linear 16)

shr_word : (j s : ℕ) → s < 2 ^ 64 → s / 2 ^ j < 2 ^ 64
shr_word j s h = lt_of_le_of_lt (shr_le s j) h

pub folded_lt : (s : ℕ) → s < 2 ^ 64 → folded s < 2 ^ 64
unfolding folded
folded_lt s h =
    let a = down1 16 s in
    let ha : a < 2 ^ 64 = xor_lt 64 s (s / 2 ^ 16) h (shr_word 16 s h) in
    let x = bit_xor (down1 32 a) (s / 2 ^ 44) in
    let hx : x < 2 ^ 64 = xor_lt 64 (down1 32 a) (s / 2 ^ 44) (xor_lt 64 a (a / 2 ^ 32) ha (shr_word 32 a ha)) (shr_word 44 s h) in
    xor_lt 64 x _ hx (xor_lt 64 (x * 2 ^ 20 % 2 ^ 64) (x * 2 ^ 48 % 2 ^ 64) (mod-lt (x * 2 ^ 20) (pow_pos 64)) (mod-lt (x * 2 ^ 48) (pow_pos 64)))

-- ---- the two laws

zeros : ℕ → ℕ
zeros s = after (after 0 64 s) 64 0

of_folded : ℕ → ℕ
of_folded s = after 0 64 (folded s)

of_folded_linear : LinearOn 64 of_folded
unfolding of_folded
of_folded_linear a b ha hb = ap (after 0 64) (folded_linear a b) ∙ after_linear 64 0 0 (folded a) (folded b) (lit< tt) (lit< tt)

zeros_linear : LinearOn 64 zeros
unfolding zeros
zeros_linear a b ha hb =
    ap (λ (r : ℕ). after r 64 0) (after_linear 64 0 0 a b (lit< tt) (lit< tt))
    ∙ after_linear 64 (after 0 64 a) (after 0 64 b) 0 0 (after_lt 0 64 a (lit< tt)) (after_lt 0 64 b (lit< tt))

fold_test : T (agree (λ i. of_folded (2 ^ i)) (λ i. zeros (2 ^ i)) 0 64)
unfolding bits fed feed of_folded zeros after folded
fold_test = tt

folds : (s : ℕ) → s < 2 ^ 64 → after 0 64 (folded s) ≡ after (after 0 64 s) 64 0
unfolding of_folded zeros
folds = by_basis 64 of_folded zeros of_folded_linear zeros_linear fold_test

finish_test : T (agree (λ i. finished (2 ^ i)) (λ i. after 0 64 (2 ^ i)) 0 64)
unfolding bits fed feed after finished
finish_test = tt

pub finishes : (s : ℕ) → s < 2 ^ 64 → finished s ≡ after 0 64 s
finishes =
    by_basis 64 finished (after 0 64) (λ a b ha hb. finished_linear a b) (λ a b ha hb. after_linear 64 0 0 a b (lit< tt) (lit< tt)) finish_test

-- a word more
folds_on : (s w : ℕ) → s < 2 ^ 64 → after 0 64 (bit_xor (folded s) w) ≡ after (after 0 64 s) 64 w
folds_on s w hs =
    let r = after 0 64 s in
    let hr : r < 65536 = after_lt 0 64 s (lit< tt) in
    after_linear 64 0 0 (folded s) w (lit< tt) (lit< tt)
    ∙ ap (λ (x : ℕ). bit_xor x (after 0 64 w)) (folds s hs)
    ∙ sym (after_linear 64 r 0 0 w hr (lit< tt))
    ∙ ap (λ (x : ℕ). after x 64 w) (xor_zero_r r)

-- where a word stands for a register, and the one that stands for a register with all its bits set
pub begins : (s : List ℕ) (t : ℕ) → t < 2 ^ 64 → Stands (after 0 64 t) s 0 t
unfolding spell feed
begins s t h = (h, refl)

pub starts : (s : List ℕ) → Stands 0xFFFF s 0 33999
unfolding bits spell fed feed after
starts s = (lit< tt, refl)

-- what is left is fed behind the word that stands
pub checks_behind : (r : ℕ) (s : List ℕ) (i t : ℕ) → Stands r s i t → check_from t (drop i s) ≡ bit_xor (feed generator r (sent s)) 0xFFFF
unfolding check_from
checks_behind r s i t st =
    ap (λ (x : ℕ). bit_xor (feed generator x (sent (drop i s))) 0xFFFF) st.1
    ∙ ap (λ (x : ℕ). bit_xor x 0xFFFF)
    (sym (feed_append generator r (sent (take i s)) (sent (drop i s)))
    ∙ ap (feed generator r) (sym (spell_append 8 (take i s) (drop i s)) ∙ ap sent (take-append-drop i s)))

-- the check word is known from the word that stands and the bytes that are left
pub checks : (s : List ℕ) (i t : ℕ) → Stands 0xFFFF s i t → check_from t (drop i s) ≡ check_word s
unfolding check_by
checks s i t st = checks_behind 0xFFFF s i t st

-- ---- one byte

-- what the byte k leaves in the empty register, by shifts
abbrev pub quick : ℕ → ℕ
quick k = bit_xor (bit_xor k (k / 16) * 4096 % 65536) (bit_xor (bit_xor k (k / 16) * 32 % 65536) (bit_xor k (k / 16)))

quick_test : T (agree quick (λ k. feed generator 0 (bits 8 k)) 0 256)
unfolding bits fed feed
quick_test = tt

-- one byte more: its bits are added to the register's top byte, and that byte alone decides what is added to the rest
pub feed_byte : (r b : ℕ) → r < 65536 → bit_xor (r / 256) b < 256 → feed generator r (bits 8 b) ≡ bit_xor (r * 256 % 65536) (quick (bit_xor (r / 256) b))
feed_byte r b hr h =
    feed_from generator hg 8 8 refl r b hr
    ∙ ap (bit_xor (r * 256 % 65536)) (sym (agree_at quick (λ k. feed generator 0 (bits 8 k)) 256 quick_test (bit_xor (r / 256) b) h))

-- ---- strings of bytes

pub big_lt : (xs : List ℕ) → Below 256 xs → big xs < 2 ^ (8 * length xs)
big_lt [] h = zero-lt-suc zero
big_lt (x ∷ xs) h =
    let e : 8 + 8 * length xs ≡ 8 * suc (length xs) = omega arith in
    lt_of_lt_of_le (digits_lt h.0 (big_lt xs h.1)) (le_of_eq (sym (pow-add 2 8 (8 * length xs)) ∙ ap (λ (n : ℕ). 2 ^ n) e))

bits_big : (xs : List ℕ) → Below 256 xs → bits (8 * length xs) (big xs) ≡ sent xs
unfolding bits spell
bits_big [] h = refl
bits_big (x ∷ xs) h =
    let e : 8 * suc (length xs) ≡ 8 + 8 * length xs = omega arith in
    ap (λ (n : ℕ). bits n (big (x ∷ xs))) e ∙ bits_join 8 (8 * length xs) x (big xs) (big_lt xs h.1)
    ∙ ap (λ (l : List ℕ). bits 8 x ++ l) (bits_big xs h.1)

pub after_big : (r : ℕ) (xs : List ℕ) → length xs ≡ 8 → Below 256 xs → after r 64 (big xs) ≡ feed generator r (sent xs)
unfolding after
after_big r xs e h =
    let e' : 64 ≡ 8 * length xs = omega arith in
    ap (λ (n : ℕ). feed generator r (bits n (big xs))) e' ∙ ap (feed generator r) (bits_big xs h)

-- the eight bytes that the library reads as one number
pub from_bytes : (s : List ℕ) (i : ℕ) → i + 8 ≤ length s → from_be_bytes w64 (take 8 (drop i s)) ≡ big (take 8 (drop i s))
from_bytes s i h = subst⁻¹ (λ (p : List ℕ). from_be_bytes w64 p ≡ big p) (part_eight s i h) (omega arith)

-- a chunk is a part of the string
pub chunk_at : (n k : ℕ) (s : List ℕ) (i : ℕ) → i < k → get_or (first_chunks n k s) i [] ≡ take n (drop (i * n) s)
chunk_at n zero s i h = absurd (omega arith)
chunk_at n (suc k) s zero h = ap (λ (j : ℕ). take n (drop j s)) (sym (zero-mul n))
chunk_at n (suc k) s (suc i) h =
    let e : n + i * n ≡ suc i * n = omega (arith, suc-mul i n) in
    chunk_at n k (drop n s) i (omega arith) ∙ ap (take n) (drop-drop (i * n) n s) ∙ ap (λ (j : ℕ). take n (drop j s)) e

-- eight bytes more
pub joined_lt : (s w : ℕ) → s < 2 ^ 64 → w < 2 ^ 64 → joined s w < 2 ^ 64
unfolding joined
joined_lt s w hs hw = xor_lt 64 (folded s) w (folded_lt s hs) hw

pub eight_lt : (s : List ℕ) (i : ℕ) → Below 256 s → i + 8 ≤ length s → big (take 8 (drop i s)) < 2 ^ 64
eight_lt s i low h =
    subst (λ (n : ℕ). big (take 8 (drop i s)) < 2 ^ (8 * n)) (ap length (part_eight s i h))
    (big_lt (take 8 (drop i s)) (below_take 256 8 (drop i s) (below_drop 256 i s low)))

pub stands_next : (r : ℕ) (s : List ℕ) (i t : ℕ) → Below 256 s → i + 8 ≤ length s → Stands r s i t → Stands r s (i + 8) (joined t (big (take 8 (drop i s))))
unfolding joined
stands_next r s i t low h st =
    let p = take 8 (drop i s) in
    let hp : big p < 2 ^ 64 = eight_lt s i low h in (
      joined_lt t (big p) st.0 hp,
      folds_on t (big p) st.0 ∙ ap (λ (x : ℕ). after x 64 (big p)) st.1
          ∙ after_big (feed generator r (sent (take i s))) p (ap length (part_eight s i h)) (below_take 256 8 (drop i s) (below_drop 256 i s low))
          ∙ sym (feed_part generator r s i 8),
    )
