-- The register's step is linear, and what stands in the register can be fed to it as bits: the two laws behind the quick ways and
-- behind what the check finds.
-- Assumes nothing.
use mathlib.Core.Path.{◌≡◌, refl, sym, ap, ap₂, ◌∙◌}
use mathlib.Core.List.{List, [], ◌∷◌, ◌++◌, append-nil}
use Prim.Native.Nat.{ℕ, zero, suc, ◌+◌, ◌*◌, ◌/◌, ◌%◌, ◌^◌, ◌<◌}
use native.Mathlib.Nat.{mod-lt, mod-eq_of_lt, mod-mod, mul-one, add-mul, mul_assoc, mul_comm, mul-add-mod_self_right, div-add-mod', mul-div-mul_right, zero-mul, pow-suc, zero-lt-suc}
use native.Mathlib.Omega.{arith}
use native.Mathlib.Numerals.{add-one}
use lib.Dec.{lit<}
use lib.ListN.{length, take, drop, get_or}
use lib.Seq.{take-suc, take-add}
use lib.Pow.{pow_pos, shr-shr, field}
use lib.Bits.{bit_xor, xor_shr, xor_mod, xor_lt, xor_self, xor_zero_r}
use Rattle.bits.specs.Bits.{bits, sent, Below}
use Rattle.bits.proofs.LawsBits.{bits_mod}
use Rattle.bits.proofs.LawsWords.{spell_append, spell_cons, spell_nil}
use Rattle.check_rule.specs.Check.{fed, feed}
use Rattle.check_rule.proofs.LawsXor.{bit, mod2_lt, xor_four, xor_twice, xor_double, xor_times}

pub top_lt : {a : ℕ} → a < 65536 → a / 32768 < 2
top_lt h = omega arith

mod_times : (x y m : ℕ) → x % m * y % m ≡ x * y % m
mod_times x y m =
    sym (mul-add-mod_self_right (x / m * y) m (x % m * y))
    ∙ ap (λ (k : ℕ). (k + x % m * y) % m) (mul_assoc (x / m) y m ∙ ap (λ (k : ℕ). x / m * k) (mul_comm y m) ∙ sym (mul_assoc (x / m) m y))
    ∙ ap (λ (k : ℕ). k % m) (sym (add-mul (x / m * m) (x % m) y))
    ∙ ap (λ (k : ℕ). k * y % m) (div-add-mod' x m)

-- ---- one bit

pub fed_linear : (g a c x y : ℕ) → a < 65536 → c < 65536 → x < 2 → y < 2 → fed g (bit_xor a c) (bit_xor x y) ≡ bit_xor (fed g a x) (fed g c y)
unfolding fed
fed_linear g a c x y ha hc hx hy =
    ap₂ bit_xor
    (ap (λ (k : ℕ). k % 65536) (xor_double a c) ∙ xor_mod (a * 2) (c * 2) 16)
    (ap (λ (k : ℕ). k * g) (ap (λ (k : ℕ). bit_xor k (bit_xor x y)) (xor_shr a c 15) ∙ xor_four (a / 32768) (c / 32768) x y)
    ∙ xor_times g (bit_xor (a / 32768) x) (bit_xor (c / 32768) y) (xor_lt 1 _ _ (top_lt ha) hx) (xor_lt 1 _ _ (top_lt hc) hy))
    ∙ xor_four (a * 2 % 65536) (c * 2 % 65536) (bit_xor (a / 32768) x * g) (bit_xor (c / 32768) y * g)

-- fed with its own top bit the register only moves up
fed_top : (g a : ℕ) → fed g a (a / 32768) ≡ a * 2 % 65536
unfolding fed
fed_top g a =
    ap (λ (k : ℕ). bit_xor (a * 2 % 65536) (k * g)) (xor_self (a / 32768)) ∙ ap (bit_xor (a * 2 % 65536)) (zero-mul g) ∙ xor_zero_r (a * 2 % 65536)

times_lt : (g x : ℕ) → g < 65536 → x < 2 → x * g < 65536
times_lt g x hg hx = bit (λ x. x * g < 65536) (omega arith) (omega arith) x hx

pub fed_lt : (g r b : ℕ) → g < 65536 → r < 65536 → b < 2 → fed g r b < 65536
unfolding fed
fed_lt g r b hg hr hb =
    xor_lt 16 (r * 2 % 65536) (bit_xor (r / 32768) b * g) (mod-lt (r * 2) (pow_pos 16))
    (times_lt g (bit_xor (r / 32768) b) hg (xor_lt 1 (r / 32768) b (top_lt hr) hb))

-- ---- bits

pub feed_append : (g r : ℕ) (xs ys : List ℕ) → feed g r (xs ++ ys) ≡ feed g (feed g r xs) ys
unfolding feed
feed_append g r [] ys = refl
feed_append g r (x ∷ xs) ys = feed_append g (fed g r x) xs ys

bit_of_xor : (x y n : ℕ) → bit_xor x y / 2 ^ n % 2 ≡ bit_xor (x / 2 ^ n % 2) (y / 2 ^ n % 2)
bit_of_xor x y n = ap (λ (k : ℕ). k % 2) (xor_shr x y n) ∙ xor_mod (x / 2 ^ n) (y / 2 ^ n) 1

module _ (g : ℕ) (hg : g < 65536) where
  pub feed_lt : (r : ℕ) (bs : List ℕ) → r < 65536 → Below 2 bs → feed g r bs < 65536
  unfolding feed
  feed_lt r [] hr h = hr
  feed_lt r (b ∷ bs) hr h = feed_lt (fed g r b) bs (fed_lt g r b hg hr h.0) h.1

  pub feed_linear : (n a c x y : ℕ) → a < 65536 → c < 65536 → feed g (bit_xor a c) (bits n (bit_xor x y)) ≡ bit_xor (feed g a (bits n x)) (feed g c (bits n y))
  unfolding feed bits
  feed_linear zero a c x y ha hc = refl
  feed_linear (suc n) a c x y ha hc =
      let p = x / 2 ^ n % 2 in
      let q = y / 2 ^ n % 2 in
      ap (λ (k : ℕ). feed g (fed g (bit_xor a c) k) (bits n (bit_xor x y))) (bit_of_xor x y n)
      ∙ ap (λ (k : ℕ). feed g k (bits n (bit_xor x y))) (fed_linear g a c p q ha hc (mod2_lt (x / 2 ^ n)) (mod2_lt (y / 2 ^ n)))
      ∙ feed_linear n (fed g a p) (fed g c q) x y (fed_lt g a p hg ha (mod2_lt (x / 2 ^ n))) (fed_lt g c q hg hc (mod2_lt (y / 2 ^ n)))

  -- The shift out: n bits of which the register's top n bits are a part leave a register that has lost those.
  pub shift_out : (n m : ℕ) → n + m ≡ 16 → (a c k : ℕ) → a < 65536 → c < 65536
      → feed g (bit_xor a c) (bits n (bit_xor (a / 2 ^ m) k)) ≡ bit_xor (a * 2 ^ n % 65536) (feed g c (bits n k))
  unfolding feed bits
  shift_out zero m e a c k ha hc = ap (λ (x : ℕ). bit_xor x c) (sym (ap (λ (x : ℕ). x % 65536) (mul-one a) ∙ mod-eq_of_lt ha))
  shift_out (suc n) m e a c k ha hc =
      let low : m + n ≡ 15 = omega arith in
      let next : n + suc m ≡ 16 = omega arith in
      let b = k / 2 ^ n % 2 in
      let up = a * 2 % 65536 in
      let top : bit_xor (a / 2 ^ m) k / 2 ^ n % 2 ≡ bit_xor (a / 32768) b =
      bit_of_xor (a / 2 ^ m) k n
      ∙ ap (λ (x : ℕ). bit_xor x b) (ap (λ (x : ℕ). x % 2) (shr-shr a m n ∙ ap (λ (x : ℕ). a / 2 ^ x) low) ∙ mod-eq_of_lt (top_lt ha)) in
      let same : up / 2 ^ suc m ≡ a / 2 ^ m % 2 ^ n =
      ap (λ (x : ℕ). a * 2 % 2 ^ x / 2 ^ suc m) (sym next) ∙ field (a * 2) n (suc m)
      ∙ ap (λ (x : ℕ). x % 2 ^ n) (ap (λ (x : ℕ). a * 2 / x) (pow-suc 2 m) ∙ mul-div-mul_right a (2 ^ m) (zero-lt-suc 1)) in
      let rest : bits n (bit_xor (a / 2 ^ m) k) ≡ bits n (bit_xor (up / 2 ^ suc m) k) =
      sym (bits_mod n (bit_xor (a / 2 ^ m) k))
      ∙ ap (bits n)
      (xor_mod (a / 2 ^ m) k n ∙ ap (λ (x : ℕ). bit_xor x (k % 2 ^ n)) (sym (ap (λ (x : ℕ). x % 2 ^ n) same ∙ mod-mod (a / 2 ^ m) (2 ^ n)))
      ∙ sym (xor_mod (up / 2 ^ suc m) k n))
      ∙ bits_mod n (bit_xor (up / 2 ^ suc m) k) in
      ap₂ (λ (x : ℕ) (l : List ℕ). feed g (fed g (bit_xor a c) x) l) top rest
      ∙ ap (λ (x : ℕ). feed g x (bits n (bit_xor (up / 2 ^ suc m) k)))
      (fed_linear g a c (a / 32768) b ha hc (top_lt ha) (mod2_lt (k / 2 ^ n)) ∙ ap (λ (x : ℕ). bit_xor x (fed g c b)) (fed_top g a))
      ∙ shift_out n (suc m) next up (fed g c b) k (mod-lt (a * 2) (pow_pos 16)) (fed_lt g c b hg hc (mod2_lt (k / 2 ^ n)))
      ∙ ap (λ (x : ℕ). bit_xor x (feed g (fed g c b) (bits n k)))
      (mod_times (a * 2) (2 ^ n) 65536 ∙ ap (λ (x : ℕ). x % 65536) (mul_assoc a 2 (2 ^ n) ∙ ap (λ (x : ℕ). a * x) (mul_comm 2 (2 ^ n) ∙ sym (pow-suc 2 n))))

  -- n bits from a register, by n bits into the empty one
  pub feed_from : (n m : ℕ) → n + m ≡ 16 → (r w : ℕ) → r < 65536
      → feed g r (bits n w) ≡ bit_xor (r * 2 ^ n % 65536) (feed g 0 (bits n (bit_xor (r / 2 ^ m) w)))
  feed_from n m e r w hr =
      sym (ap₂ (λ (x y : ℕ). feed g x (bits n y)) (xor_zero_r r) (xor_twice (r / 2 ^ m) w))
      ∙ shift_out n m e r 0 (bit_xor (r / 2 ^ m) w) hr (lit< tt)

-- ---- bytes

-- one byte more, and n bytes more, of a string
pub feed_next : (g r : ℕ) (s : List ℕ) (i : ℕ) → i < length s → feed g r (sent (take (i + 1) s)) ≡ feed g (feed g r (sent (take i s))) (bits 8 (get_or s i 0))
feed_next g r s i h =
    ap (λ (l : List ℕ). feed g r (sent l)) (ap (λ (n : ℕ). take n s) (add-one i) ∙ take-suc s i 0 h)
    ∙ ap (feed g r) (spell_append 8 (take i s) (get_or s i 0 ∷ [])) ∙ feed_append g r (sent (take i s)) (sent (get_or s i 0 ∷ []))
    ∙ ap (feed g (feed g r (sent (take i s)))) (spell_cons 8 (get_or s i 0) [] ∙ ap (λ (l : List ℕ). bits 8 (get_or s i 0) ++ l) (spell_nil 8) ∙ append-nil (bits 8 (get_or s i 0)))

pub feed_part : (g r : ℕ) (s : List ℕ) (i n : ℕ) → feed g r (sent (take (i + n) s)) ≡ feed g (feed g r (sent (take i s))) (sent (take n (drop i s)))
feed_part g r s i n =
    ap (λ (l : List ℕ). feed g r (sent l)) (take-add i n s)
    ∙ ap (feed g r) (spell_append 8 (take i s) (take n (drop i s)))
    ∙ feed_append g r (sent (take i s)) (sent (take n (drop i s)))
