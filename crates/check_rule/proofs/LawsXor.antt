-- Exclusive or: associative, its own inverse, and a product by a bit passes through it.
-- Assumes nothing.
use mathlib.Core.Path.{◌≡◌, refl, sym, ap, ap₂, ◌∙◌}
use Prim.Native.Nat.{ℕ, zero, suc, ◌+◌, ◌*◌, ◌/◌, ◌%◌, ◌<◌}
use native.Mathlib.Nat.{not-suc-le-zero, le_of_suc-le-suc, mod-lt, zero-mul, one-mul, add-zero, zero-lt-suc}
use lib.Arith.{bin_ind}
use lib.Bits.{bit_xor, differ, xor_step, xor_shr, xor_mod, xor_block, xor_comm, xor_self, xor_zero_r}

-- a statement about a bit is proved at 0 and at 1
pub bit : (P : ℕ → Type 0) → P 0 → P 1 → (x : ℕ) → x < 2 → P x
bit P p q zero h = p
bit P p q (suc zero) h = q
bit P p q (suc (suc x)) h = absurd (not-suc-le-zero (le_of_suc-le-suc (le_of_suc-le-suc h)))

pub mod2_lt : (n : ℕ) → n % 2 < 2
mod2_lt n = mod-lt n (zero-lt-suc 1)

differ_assoc : (x y z : ℕ) → x < 2 → y < 2 → z < 2 → differ (bit_xor x y) z ≡ differ x (bit_xor y z)
differ_assoc x y z hx hy hz =
    bit (λ x. differ (bit_xor x y) z ≡ differ x (bit_xor y z))
    (bit (λ y. differ (bit_xor 0 y) z ≡ differ 0 (bit_xor y z)) refl (bit (λ z. differ (bit_xor 0 1) z ≡ differ 0 (bit_xor 1 z)) refl refl z hz) y hy)
    (bit (λ y. differ (bit_xor 1 y) z ≡ differ 1 (bit_xor y z)) refl (bit (λ z. differ (bit_xor 1 1) z ≡ differ 1 (bit_xor 1 z)) refl refl z hz) y hy)
    x hx

pub xor_assoc : (a b c : ℕ) → bit_xor (bit_xor a b) c ≡ bit_xor a (bit_xor b c)
xor_assoc =
    bin_ind (λ (n : ℕ). (b c : ℕ) → bit_xor (bit_xor n b) c ≡ bit_xor n (bit_xor b c)) (λ b c. refl)
    (λ n ih b c.
    xor_step (bit_xor n b) c
    ∙ ap₂ (λ (x y : ℕ). bit_xor x (c / 2) * 2 + differ y (c % 2)) (xor_shr n b 1) (xor_mod n b 1)
    ∙ ap₂ (λ (x y : ℕ). x * 2 + y) (ih (b / 2) (c / 2)) (differ_assoc (n % 2) (b % 2) (c % 2) (mod2_lt n) (mod2_lt b) (mod2_lt c))
    ∙ sym (ap₂ (λ (x y : ℕ). bit_xor (n / 2) x * 2 + differ (n % 2) y) (xor_shr b c 1) (xor_mod b c 1))
    ∙ sym (xor_step n (bit_xor b c)))

pub xor_four : (a b c d : ℕ) → bit_xor (bit_xor a b) (bit_xor c d) ≡ bit_xor (bit_xor a c) (bit_xor b d)
xor_four a b c d =
    xor_assoc a b (bit_xor c d)
    ∙ ap (bit_xor a) (sym (xor_assoc b c d) ∙ ap (λ (x : ℕ). bit_xor x d) (xor_comm b c) ∙ xor_assoc c b d)
    ∙ sym (xor_assoc a c (bit_xor b d))

-- adding twice changes nothing
pub xor_twice : (a b : ℕ) → bit_xor a (bit_xor a b) ≡ b
xor_twice a b = sym (xor_assoc a a b) ∙ ap (λ (x : ℕ). bit_xor x b) (xor_self a)

pub xor_cancel : (a : ℕ) {b c : ℕ} → bit_xor a b ≡ bit_xor a c → b ≡ c
xor_cancel a {b} {c} e = sym (xor_twice a b) ∙ ap (bit_xor a) e ∙ xor_twice a c

pub xor_double : (a b : ℕ) → bit_xor a b * 2 ≡ bit_xor (a * 2) (b * 2)
xor_double a b =
    sym (add-zero (bit_xor a b * 2)) ∙ sym (xor_block 1 a b 0 0 (zero-lt-suc 1) (zero-lt-suc 1)) ∙ ap₂ bit_xor (add-zero (a * 2)) (add-zero (b * 2))

-- a product by a bit
pub xor_times : (g x y : ℕ) → x < 2 → y < 2 → bit_xor x y * g ≡ bit_xor (x * g) (y * g)
xor_times g x y hx hy =
    let z = zero-mul g in
    let o = one-mul g in
    bit (λ x. bit_xor x y * g ≡ bit_xor (x * g) (y * g))
    (bit (λ y. bit_xor 0 y * g ≡ bit_xor (0 * g) (y * g)) (z ∙ sym (ap₂ bit_xor z z)) (o ∙ sym (ap₂ bit_xor z o)) y hy)
    (bit (λ y. bit_xor 1 y * g ≡ bit_xor (1 * g) (y * g)) (o ∙ sym (xor_zero_r g) ∙ sym (ap₂ bit_xor o z)) (z ∙ sym (xor_self g) ∙ sym (ap₂ bit_xor o o)) y hy)
    x hx
