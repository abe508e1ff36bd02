-- A window after a word more stands for the same as the window with the word behind it: a word z with 16 shown behind it is z 4, 11 and
-- 16 shown further on, x^1024 = x^768 + x^320 + 1, tested at the 64 powers of two.
-- Assumes nothing.
use mathlib.Core.Path.{◌≡◌, refl, sym, ap, ap₂, ◌∙◌, subst, subst⁻¹}
use mathlib.Core.List.{List, [], ◌∷◌, ◌++◌, map}
use Prim.Native.Nat.{ℕ, zero, suc, ◌+◌, ◌-◌, ◌*◌, ◌/◌, ◌%◌, ◌^◌, ◌<◌, ◌≤◌}
use native.Mathlib.Nat.{mod-lt, add-zero, zero-add, lt_of_lt_of_le}
use native.Mathlib.Omega.{arith}
use lib.Dec.{T}
use Rattle.std.specs.Int.{to_le_bytes, from_le_bytes, swap_bytes, w64}
use Rattle.std.specs.Simd.{first_chunks}
use Rattle.std.proofs.lemmas.Nat.{le_bytes_8}
use Rattle.std.proofs.lemmas.List.{drop-drop, drop-take, take-take}
use Rattle.std.proofs.lemmas.List.FromFn.{fill_by_all}
use Rattle.std.specs.List.{range_with_len}
use lib.ListN.{length, get_or, take, drop}
use Rattle.std.specs.Prelude.{slice_index}
use lib.Pow.{pow_pos, pow_mono}
use lib.Bits.{bit_xor, xor_lt, xor_comm, xor_zero_r, xor_shifted}
use Rattle.bits.specs.Bits.{Below}
use Rattle.check_eight.specs.Eight.{big, folded, joined, Stands}
use Rattle.check_window.specs.Turn.{byte_at, mirror, mirrors, push, pushes, horner, chunks}
use Rattle.check_rule.proofs.LawsXor.{xor_assoc}
use Rattle.check_eight.proofs.LawsLinear.{Linear, by_basis, agree, id_linear, then_linear, sum_linear, shr_linear, mod_linear, shl_linear}
use Rattle.check_eight.proofs.LawsEight.{folded_linear, starts, big_lt, chunk_at, stands_next}

-- ---- shown as one

-- z with n shown of zeros behind it
times : ℕ → ℕ → ℕ
times zero z = z
times (suc n) z = times n (folded z)

times_linear : (n : ℕ) → Linear (times n)
unfolding times
times_linear zero = id_linear
times_linear (suc n) = then_linear folded (times n) folded_linear (times_linear n)

-- a sum's second part may move to the end
move : (a b w : ℕ) → bit_xor (bit_xor a b) w ≡ bit_xor (bit_xor a w) b
move a b w = xor_assoc a b w ∙ ap (bit_xor a) (xor_comm b w) ∙ sym (xor_assoc a w b)

horner_sum : (a z : ℕ) (ws : List ℕ) → horner (bit_xor a z) ws ≡ bit_xor (horner a ws) (times (length ws) z)
unfolding times joined
horner_sum a z [] = refl
horner_sum a z (w ∷ ws) =
    ap (λ (x : ℕ). horner x ws) (ap (λ (x : ℕ). bit_xor x w) (folded_linear a z) ∙ move (folded a) (folded z) w) ∙ horner_sum (joined a w) (folded z) ws

-- z added to a word
bump : (a : ℕ) (xs : List ℕ) (w z : ℕ) (ys : List ℕ) → horner a (xs ++ (bit_xor w z ∷ ys)) ≡ bit_xor (horner a (xs ++ (w ∷ ys))) (times (length ys) z)
unfolding joined
bump a [] w z ys = ap (λ (x : ℕ). horner x ys) (sym (xor_assoc (folded a) w z)) ∙ horner_sum (joined a w) z ys
bump a (x ∷ xs) w z ys = bump (joined a x) xs w z ys

first : (z : ℕ) (ws : List ℕ) → horner 0 (z ∷ ws) ≡ bit_xor (horner 0 ws) (times (length ws) z)
unfolding joined folded
first z ws = horner_sum 0 z ws

-- ---- the power

ahead : ℕ → ℕ
ahead z = bit_xor (times 12 z) (bit_xor (times 5 z) z)

ahead_linear : Linear ahead
unfolding ahead times
ahead_linear =
    sum_linear (times 12) (λ z. bit_xor (times 5 z) z) (times_linear 12) (sum_linear (times 5) (λ z. z) (times_linear 5) id_linear)

power_test : T (agree (λ i. times 16 (2 ^ i)) (λ i. ahead (2 ^ i)) 0 64)
unfolding times ahead folded
power_test = tt

power : (z : ℕ) → z < 2 ^ 64 → times 16 z ≡ ahead z
power = by_basis 64 (times 16) ahead (λ a b ha hb. times_linear 16 a b) (λ a b ha hb. ahead_linear a b) power_test

-- ---- the turn

gather : (h a b z : ℕ) → bit_xor (bit_xor (bit_xor h z) b) a ≡ bit_xor h (bit_xor a (bit_xor b z))
gather h a b z =
    xor_assoc (bit_xor h z) b a ∙ xor_assoc h z (bit_xor b a)
    ∙ ap (bit_xor h) (xor_comm z (bit_xor b a) ∙ ap (λ (x : ℕ). bit_xor x z) (xor_comm b a) ∙ xor_assoc a b z)

push_list : (z m1 m2 m3 m4 m5 m6 m7 m8 m9 m10 m11 m12 m13 m14 m15 e : ℕ) → z < 2 ^ 64
    → horner 0 (m1 ∷ m2 ∷ m3 ∷ bit_xor m4 z ∷ m5 ∷ m6 ∷ m7 ∷ m8 ∷ m9 ∷ m10 ∷ bit_xor m11 z ∷ m12 ∷ m13 ∷ m14 ∷ m15 ∷ bit_xor e z ∷ []) ≡ horner 0 (z ∷ m1 ∷ m2 ∷ m3 ∷ m4 ∷ m5 ∷ m6 ∷ m7 ∷ m8 ∷ m9 ∷ m10 ∷ m11 ∷ m12 ∷ m13 ∷ m14 ∷ m15 ∷ e ∷ [])
unfolding ahead times
push_list z m1 m2 m3 m4 m5 m6 m7 m8 m9 m10 m11 m12 m13 m14 m15 e h =
    bump 0 (m1 ∷ m2 ∷ m3 ∷ []) m4 z (m5 ∷ m6 ∷ m7 ∷ m8 ∷ m9 ∷ m10 ∷ bit_xor m11 z ∷ m12 ∷ m13 ∷ m14 ∷ m15 ∷ bit_xor e z ∷ [])
    ∙ ap (λ (x : ℕ). bit_xor x (times 12 z))
    (bump 0 (m1 ∷ m2 ∷ m3 ∷ m4 ∷ m5 ∷ m6 ∷ m7 ∷ m8 ∷ m9 ∷ m10 ∷ []) m11 z (m12 ∷ m13 ∷ m14 ∷ m15 ∷ bit_xor e z ∷ [])
    ∙ ap (λ (x : ℕ). bit_xor x (times 5 z)) (bump 0 (m1 ∷ m2 ∷ m3 ∷ m4 ∷ m5 ∷ m6 ∷ m7 ∷ m8 ∷ m9 ∷ m10 ∷ m11 ∷ m12 ∷ m13 ∷ m14 ∷ m15 ∷ []) e z []))
    ∙ gather (horner 0 (m1 ∷ m2 ∷ m3 ∷ m4 ∷ m5 ∷ m6 ∷ m7 ∷ m8 ∷ m9 ∷ m10 ∷ m11 ∷ m12 ∷ m13 ∷ m14 ∷ m15 ∷ e ∷ [])) (times 12 z) (times 5 z) z
    ∙ ap (bit_xor (horner 0 (m1 ∷ m2 ∷ m3 ∷ m4 ∷ m5 ∷ m6 ∷ m7 ∷ m8 ∷ m9 ∷ m10 ∷ m11 ∷ m12 ∷ m13 ∷ m14 ∷ m15 ∷ e ∷ []))) (sym (power z h))
    ∙ sym (first z (m1 ∷ m2 ∷ m3 ∷ m4 ∷ m5 ∷ m6 ∷ m7 ∷ m8 ∷ m9 ∷ m10 ∷ m11 ∷ m12 ∷ m13 ∷ m14 ∷ m15 ∷ e ∷ []))

-- ---- the order of the bytes

byte_at_linear : (j k : ℕ) → Linear (byte_at j k)
byte_at_linear j k =
    then_linear (λ x. x / 2 ^ j % 2 ^ 8) (λ x. x * 2 ^ k % 2 ^ 64) (then_linear (λ x. x / 2 ^ j) (λ x. x % 2 ^ 8) (shr_linear j) (mod_linear 8)) (shl_linear 64 k)

mirror_linear : Linear mirror
unfolding mirror
mirror_linear =
    sum_linear (λ x. x * 2 ^ 56 % 2 ^ 64) (λ x. bit_xor (byte_at 8 48 x) (bit_xor (byte_at 16 40 x) (bit_xor (byte_at 24 32 x) (bit_xor (byte_at 32 24 x) (bit_xor (byte_at 40 16 x) (bit_xor (byte_at 48 8 x) (x / 2 ^ 56 % 2 ^ 8))))))) (shl_linear 64 56)
    (sum_linear (byte_at 8 48) (λ x. bit_xor (byte_at 16 40 x) (bit_xor (byte_at 24 32 x) (bit_xor (byte_at 32 24 x) (bit_xor (byte_at 40 16 x) (bit_xor (byte_at 48 8 x) (x / 2 ^ 56 % 2 ^ 8)))))) (byte_at_linear 8 48)
    (sum_linear (byte_at 16 40) (λ x. bit_xor (byte_at 24 32 x) (bit_xor (byte_at 32 24 x) (bit_xor (byte_at 40 16 x) (bit_xor (byte_at 48 8 x) (x / 2 ^ 56 % 2 ^ 8))))) (byte_at_linear 16 40)
    (sum_linear (byte_at 24 32) (λ x. bit_xor (byte_at 32 24 x) (bit_xor (byte_at 40 16 x) (bit_xor (byte_at 48 8 x) (x / 2 ^ 56 % 2 ^ 8)))) (byte_at_linear 24 32)
    (sum_linear (byte_at 32 24) (λ x. bit_xor (byte_at 40 16 x) (bit_xor (byte_at 48 8 x) (x / 2 ^ 56 % 2 ^ 8))) (byte_at_linear 32 24)
    (sum_linear (byte_at 40 16) (λ x. bit_xor (byte_at 48 8 x) (x / 2 ^ 56 % 2 ^ 8)) (byte_at_linear 40 16)
    (sum_linear (byte_at 48 8) (λ x. x / 2 ^ 56 % 2 ^ 8) (byte_at_linear 48 8)
    (then_linear (λ x. x / 2 ^ 56) (λ x. x % 2 ^ 8) (shr_linear 56) (mod_linear 8))))))))

mirror_lt : (x : ℕ) → mirror x < 2 ^ 64
unfolding mirror
mirror_lt x =
    xor_lt 64 (x * 2 ^ 56 % 2 ^ 64) (bit_xor (byte_at 8 48 x) (bit_xor (byte_at 16 40 x) (bit_xor (byte_at 24 32 x) (bit_xor (byte_at 32 24 x) (bit_xor (byte_at 40 16 x) (bit_xor (byte_at 48 8 x) (x / 2 ^ 56 % 2 ^ 8))))))) (mod-lt (x * 2 ^ 56) (pow_pos 64))
    (xor_lt 64 (byte_at 8 48 x) (bit_xor (byte_at 16 40 x) (bit_xor (byte_at 24 32 x) (bit_xor (byte_at 32 24 x) (bit_xor (byte_at 40 16 x) (bit_xor (byte_at 48 8 x) (x / 2 ^ 56 % 2 ^ 8)))))) (mod-lt (x / 2 ^ 8 % 2 ^ 8 * 2 ^ 48) (pow_pos 64))
    (xor_lt 64 (byte_at 16 40 x) (bit_xor (byte_at 24 32 x) (bit_xor (byte_at 32 24 x) (bit_xor (byte_at 40 16 x) (bit_xor (byte_at 48 8 x) (x / 2 ^ 56 % 2 ^ 8))))) (mod-lt (x / 2 ^ 16 % 2 ^ 8 * 2 ^ 40) (pow_pos 64))
    (xor_lt 64 (byte_at 24 32 x) (bit_xor (byte_at 32 24 x) (bit_xor (byte_at 40 16 x) (bit_xor (byte_at 48 8 x) (x / 2 ^ 56 % 2 ^ 8)))) (mod-lt (x / 2 ^ 24 % 2 ^ 8 * 2 ^ 32) (pow_pos 64))
    (xor_lt 64 (byte_at 32 24 x) (bit_xor (byte_at 40 16 x) (bit_xor (byte_at 48 8 x) (x / 2 ^ 56 % 2 ^ 8))) (mod-lt (x / 2 ^ 32 % 2 ^ 8 * 2 ^ 24) (pow_pos 64))
    (xor_lt 64 (byte_at 40 16 x) (bit_xor (byte_at 48 8 x) (x / 2 ^ 56 % 2 ^ 8)) (mod-lt (x / 2 ^ 40 % 2 ^ 8 * 2 ^ 16) (pow_pos 64))
    (xor_lt 64 (byte_at 48 8 x) (x / 2 ^ 56 % 2 ^ 8) (mod-lt (x / 2 ^ 48 % 2 ^ 8 * 2 ^ 8) (pow_pos 64))
    (lt_of_lt_of_le (mod-lt (x / 2 ^ 56) (pow_pos 8)) (pow_mono {i = 8} {j = 64} (omega arith)))))))))

sum : List ℕ → ℕ
sum [] = 0
sum (x ∷ xs) = bit_xor (x * 2 ^ (8 * length xs)) (sum xs)

sum_big : (xs : List ℕ) → Below 256 xs → sum xs ≡ big xs
unfolding sum
sum_big [] h = refl
sum_big (x ∷ xs) h = ap (bit_xor (x * 2 ^ (8 * length xs))) (sum_big xs h.1) ∙ xor_shifted x (8 * length xs) (big xs) (big_lt xs h.1)

-- the other order of the bytes is that of the library
spread : (x : ℕ) → mirror x ≡ sum (to_le_bytes w64 x)
unfolding sum mirror
spread x =
    let e0 : x * 2 ^ 56 % 2 ^ 64 ≡ x % 256 * 2 ^ 56 = omega arith in
    let e1 : byte_at 8 48 x ≡ x / 256 % 256 * 2 ^ 48 = omega arith in
    let e2 : byte_at 16 40 x ≡ x / 65536 % 256 * 2 ^ 40 = omega arith in
    let e3 : byte_at 24 32 x ≡ x / 16777216 % 256 * 2 ^ 32 = omega arith in
    let e4 : byte_at 32 24 x ≡ x / 4294967296 % 256 * 2 ^ 24 = omega arith in
    let e5 : byte_at 40 16 x ≡ x / 1099511627776 % 256 * 2 ^ 16 = omega arith in
    let e6 : byte_at 48 8 x ≡ x / 281474976710656 % 256 * 2 ^ 8 = omega arith in
    let e7 : x / 2 ^ 56 % 2 ^ 8 ≡ bit_xor (x / 72057594037927936 % 256 * 2 ^ 0) 0 = omega arith ∙ sym (xor_zero_r (x / 72057594037927936 % 256 * 2 ^ 0)) in
    λ i. bit_xor (e0 i) (bit_xor (e1 i) (bit_xor (e2 i) (bit_xor (e3 i) (bit_xor (e4 i) (bit_xor (e5 i) (bit_xor (e6 i) (e7 i)))))))

byte_lt : (n : ℕ) → n % 256 < 256
byte_lt n = omega arith

mirror_big : (x : ℕ) → mirror x ≡ big (to_le_bytes w64 x)
mirror_big x =
    spread x ∙ sum_big (to_le_bytes w64 x)
    (byte_lt x, (byte_lt (x / 256), (byte_lt (x / 65536), (byte_lt (x / 16777216), (byte_lt (x / 4294967296), (byte_lt (x / 1099511627776), (byte_lt (x / 281474976710656), (byte_lt (x / 72057594037927936), tt))))))))

pub swapped : (x : ℕ) → swap_bytes w64 x ≡ mirror x
swapped x = omega (arith, mirror_big x)

pub mirror_bytes : (p : List ℕ) (r : ℕ) → length p ≡ 8 → ((i : ℕ) → get_or p i 0 < 256) → r ≡ from_le_bytes w64 p → mirror r ≡ big p
mirror_bytes p r n low e = mirror_big r ∙ ap big (le_bytes_8 p r n low e)

-- ---- the turn

-- a list of n elements, written out
pub written : (n : ℕ) (w : List ℕ) → length w ≡ n → w ≡ map (slice_index w) (range_with_len 0 n)
written n w long = fill_by_all (slice_index w) w n 0 long (λ k lt. refl)

push_step : (w : List ℕ) (d : ℕ) → horner 0 (mirrors (push w d)) ≡ horner (horner 0 (mirrors (map (slice_index w) (range_with_len 0 16)))) (mirrors (d ∷ []))
push_step w d =
    rw (mirror_linear (slice_index w 4) (slice_index w 0), mirror_linear (slice_index w 11) (slice_index w 0), mirror_linear d (slice_index w 0))
    (push_list (mirror (slice_index w 0)) (mirror (slice_index w 1)) (mirror (slice_index w 2)) (mirror (slice_index w 3)) (mirror (slice_index w 4)) (mirror (slice_index w 5)) (mirror (slice_index w 6)) (mirror (slice_index w 7)) (mirror (slice_index w 8)) (mirror (slice_index w 9)) (mirror (slice_index w 10)) (mirror (slice_index w 11)) (mirror (slice_index w 12)) (mirror (slice_index w 13)) (mirror (slice_index w 14)) (mirror (slice_index w 15)) (mirror d) (mirror_lt (slice_index w 0)))

pub pushes_long : (w ds : List ℕ) → length w ≡ 16 → length (pushes w ds) ≡ 16
pushes_long w [] long = long
pushes_long w (d ∷ ds) long = pushes_long (push w d) ds refl

pub turns : (w ds : List ℕ) → length w ≡ 16 → horner 0 (mirrors (pushes w ds)) ≡ horner (horner 0 (mirrors w)) (mirrors ds)
turns w [] long = refl
turns w (d ∷ ds) long =
    turns (push w d) ds refl
    ∙ ap (λ (x : ℕ). horner x (mirrors ds)) (push_step w d ∙ ap (λ (l : List ℕ). joined (horner 0 (mirrors l)) (mirror d)) (sym (written 16 w long)))

-- ---- the bytes

pub stands_on : (s : List ℕ) (i k n t : ℕ) → Below 256 s → i + 8 * (k + n) ≤ length s → Stands 0xFFFF s (i + 8 * k) t → Stands 0xFFFF s (i + 8 * (k + n)) (horner t (chunks s i k n))
stands_on s i k zero t low h st =
    let e : i + 8 * k ≡ i + 8 * (k + zero) = omega arith in
    subst (λ (j : ℕ). Stands 0xFFFF s j t) e st
stands_on s i k (suc n) t low h st =
    let w = big (take 8 (drop (i + 8 * k) s)) in
    let e : i + 8 * k + 8 ≡ i + 8 * suc k = omega arith in
    let f : i + 8 * (suc k + n) ≡ i + 8 * (k + suc n) = omega arith in
    subst (λ (j : ℕ). Stands 0xFFFF s j (horner (joined t w) (chunks s i (suc k) n))) f
    (stands_on s i (suc k) n (joined t w) low (omega arith)
    (subst (λ (j : ℕ). Stands 0xFFFF s j (joined t w)) e (stands_next 0xFFFF s (i + 8 * k) t low (omega arith) st)))

-- ---- the loop

-- the window w stands for the register after the first i bytes of s
abbrev pub Holds : List ℕ → ℕ → List ℕ → Type 0
Holds s i w = (length w ≡ 16) × Stands 0xFFFF s i (horner 0 (mirrors w))

pub begins : (s : List ℕ) → Holds s 0 (0 ∷ 0 ∷ 0 ∷ 0 ∷ 0 ∷ 0 ∷ 0 ∷ 0 ∷ 0 ∷ 0 ∷ 0 ∷ 0 ∷ 0 ∷ 0 ∷ 0 ∷ 14953076662776889344 ∷ [])
unfolding joined folded mirror
begins s = (refl, starts s)

pub goes_on : (n : ℕ) (s : List ℕ) (i : ℕ) (w ds : List ℕ) → Below 256 s → i + 8 * (0 + n) ≤ length s → Holds s i w → mirrors ds ≡ chunks s i 0 n
    → Holds s (i + 8 * (0 + n)) (pushes w ds)
goes_on n s i w ds low h st e = (
  pushes_long w ds st.0,
  subst⁻¹ (Stands 0xFFFF s (i + 8 * (0 + n))) (turns w ds st.0 ∙ ap (horner (horner 0 (mirrors w))) e)
      (stands_on s i 0 n (horner 0 (mirrors w)) low h (subst⁻¹ (λ (j : ℕ). Stands 0xFFFF s j (horner 0 (mirrors w))) (add-zero i) st.1)),
)

pub cons : {x y : ℕ} {l m : List ℕ} → x ≡ y → l ≡ m → x ∷ l ≡ y ∷ m
cons p q = ap₂ (λ (x : ℕ) (l : List ℕ). x ∷ l) p q

-- a word more of those that are taken as one
pub word_more : (ws : List ℕ) (k t : ℕ) → k < length ws → horner t (mirrors (take (suc k) ws)) ≡ joined (horner t (mirrors (take k ws))) (mirror (get_or ws k 0))
word_more [] k t h = absurd (omega arith)
word_more (w ∷ ws) zero t h = refl
word_more (w ∷ ws) (suc k) t h = word_more ws k (joined t (mirror w)) (omega arith)

-- ---- chunks of the string

word_in : (m : ℕ) (s : List ℕ) (i j : ℕ) → j + 8 ≤ m → take 8 (drop j (take m (drop i s))) ≡ take 8 (drop (i + j) s)
word_in m s i j h =
    let r = m - j in
    let e : m ≡ j + r = omega arith in
    ap (λ (k : ℕ). take 8 (drop j (take k (drop i s)))) e ∙ ap (take 8) (drop-take j r (drop i s)) ∙ take-take 8 r (drop j (drop i s)) (omega arith)
    ∙ ap (take 8) (drop-drop j i s)

-- the words of a chunk are those of the string there
pub chunks_in : (m : ℕ) (s : List ℕ) (i k n : ℕ) → 8 * (k + n) ≤ m → chunks (take m (drop i s)) 0 k n ≡ chunks s i k n
chunks_in m s i k zero h = refl
chunks_in m s i k (suc n) h =
    let z : 0 + 8 * k ≡ 8 * k = omega arith in
    cons (ap big (ap (λ (j : ℕ). take 8 (drop j (take m (drop i s)))) z ∙ word_in m s i (8 * k) (omega arith))) (chunks_in m s i (suc k) n (omega arith))

-- a word of a chunk, where the chunk is taken as eights
pub word_at : (p : List ℕ) (ws : List (List ℕ)) (k : ℕ) → ws ≡ first_chunks 8 (length p / 8) p → k < length p / 8 → big (get_or ws k []) ≡ big (take 8 (drop (k * 8) p))
word_at p ws k e h = ap big (ap (λ (l : List (List ℕ)). get_or l k []) e ∙ chunk_at 8 (length p / 8) p k h)

next : (k j : ℕ) → k + suc j ≡ suc k + j
next k j = omega arith

-- words that are those of a string, one by one
words_are : (n k : ℕ) (s ws : List ℕ) → length ws ≡ n → ((j : ℕ) → j < n → mirror (slice_index ws j) ≡ big (take 8 (drop ((k + j) * 8) s))) → mirrors ws ≡ chunks s 0 k n
words_are zero k s [] long h = refl
words_are zero k s (w ∷ ws) long h = absurd (omega (arith, long))
words_are (suc n) k s [] long h = absurd (omega (arith, long))
words_are (suc n) k s (w ∷ ws) long h =
    let here : (k + 0) * 8 ≡ 0 + 8 * k = omega arith in
    cons (h 0 (omega arith) ∙ ap (λ (j : ℕ). big (take 8 (drop j s))) here)
    (words_are n (suc k) s ws (omega (arith, long)) (λ j lt. h (suc j) (omega (arith, lt)) ∙ ap (λ (i : ℕ). big (take 8 (drop (i * 8) s))) (next k j)))

pub words_read : (n : ℕ) (s ws : List ℕ) → length ws ≡ n → ((j : ℕ) → j < n → mirror (slice_index ws j) ≡ big (take 8 (drop (j * 8) s))) → mirrors ws ≡ chunks s 0 0 n
words_read n s ws long h = words_are n 0 s ws long (λ j lt. h j lt ∙ ap (λ (i : ℕ). big (take 8 (drop (i * 8) s))) (sym (zero-add j)))
