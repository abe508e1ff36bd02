-- How many words fit, by eights: eight words of `size` bits take `size` bytes, so no product of a count and a size is needed whole. And
-- what groups of four words ask for.
-- Assumes nothing.
use mathlib.Core.Path.{◌≡◌, refl, sym, ap, ◌∙◌}
use mathlib.Core.Bool.{Bool, true, false, ◌||◌}
use mathlib.Core.Logic.{◌⊎◌, ⊎_elim}
use Prim.Native.Nat.{ℕ, zero, ◌+◌, ◌-◌, ◌*◌, ◌/◌, ◌%◌, ◌≤◌, ◌<◌}
use native.Mathlib.Nat.{mod-lt, div-add-mod', add-mul, mul_assoc, mul_comm, suc-mul, mul-le-mul_right, mul-le-mul_left, mul-le-mul}
use native.Mathlib.Omega.{arith}
use borrow.Author.Tests.{le-leb, leb-true, eqb-false, ltb-false}
use lib.Dec.{leb, ltb, eqb}
use Rattle.bits.specs.Fields.{fit, bad_size}
use Rattle.bits.proofs.LawsFill.{same_tests}

leb_same : (a b c d : ℕ) → (a ≤ b → c ≤ d) → (c ≤ d → a ≤ b) → leb a b ≡ leb c d
leb_same a b c d f g = same_tests (leb a b) (leb c d) (λ e. le-leb c d (f (leb-true a b e))) (λ e. le-leb a b (g (leb-true c d e)))

true_is_not : true ≡ false → ⊥
true_is_not e = let z : ◌≡◌ {A = ℕ} 0 1 = cc in omega arith

-- a size that is not bad
pub size_bounds : (size : ℕ) → bad_size size ≡ false → (1 ≤ size) × (size ≤ 16)
size_bounds size h = (least (eqb size 0) refl h, most (eqb size 0) (ltb 16 size) refl h)
  where
    least : (t : Bool) → eqb size 0 ≡ t → t || ltb 16 size ≡ false → 1 ≤ size
    least true e h = absurd (true_is_not h)
    least false e h = omega (arith, eqb-false size 0 e)

    most : (t u : Bool) → ltb 16 size ≡ u → t || u ≡ false → size ≤ 16
    most true u e h = absurd (true_is_not h)
    most false u e h = ltb-false 16 size (e ∙ h)

module _ (count size len : ℕ) where
  -- the bits of the words: eights of them are bytes, and the rest is short
  pub eights : count * size ≡ count / 8 * size * 8 + count % 8 * size
  eights =
      ap (λ (n : ℕ). n * size) (sym (div-add-mod' count 8)) ∙ add-mul (count / 8 * 8) (count % 8) size
      ∙ ap (λ (n : ℕ). n + count % 8 * size) (mul_assoc (count / 8) 8 size ∙ ap (λ (n : ℕ). count / 8 * n) (mul_comm 8 size) ∙ sym (mul_assoc (count / 8) size 8))

  -- the byte in which the last word ends, and the bit inside it
  pub last_byte : count * size ≡ (count / 8 * size + count % 8 * size / 8) * 8 + count % 8 * size % 8
  last_byte = omega (arith, eights)

  -- the bytes that the words need: they are there, and enough
  pub end_fits : count * size ≤ len * 8 → count / 8 * size + (count % 8 * size + 7) / 8 ≤ len
  end_fits h = omega (arith, eights)

  pub end_enough : count * size ≤ (count / 8 * size + (count % 8 * size + 7) / 8) * 8
  end_enough = omega (arith, eights)

  pub rest_short : size ≤ 255 → count % 8 * size ≤ 7 * 255
  rest_short h = let r : count % 8 ≤ 7 = omega arith in mul-le-mul r h

  pub too_many : zero < size → len / size < count / 8 → len * 8 < count * size
  too_many p h = omega (arith, eights, mul-le-mul_right size h, suc-mul (len / size) size, div-add-mod' len size, mod-lt len p)

  pub eights_fit : count / 8 ≤ len / size → count / 8 * size ≤ len
  eights_fit h = omega (arith, mul-le-mul_right size h, div-add-mod' len size)

  pub rest_fits : count / 8 ≤ len / size → leb ((count % 8 * size + 7) / 8) (len - count / 8 * size) ≡ fit count size len
  rest_fits h =
      leb_same ((count % 8 * size + 7) / 8) (len - count / 8 * size) (count * size) (len * 8)
      (λ l. omega (arith, eights, eights_fit h))
      (λ l. omega (arith, eights, eights_fit h))

-- ---- the sizes that go in groups

pub record Grouped (size : ℕ) : Type 0 where
  pub least : 6 ≤ size
  pub most : size ≤ 10
  pub even : size % 2 ≡ 0

pub grouped : {size : ℕ} → (size ≡ 6) ⊎ (size ≡ 10) → Grouped size
grouped {size} h = ⊎_elim (λ e. record { least = omega arith; most = omega arith; even = omega arith }) (λ e. record { least = omega arith; most = omega arith; even = omega arith }) h

-- where so many words are left, these are sixteen, and the bytes of three groups and eight more are there
module _ (size left : ℕ) (g : Grouped size) (h : 13 + 56 / size ≤ left) where
  whole : 56 / size * size + 56 % size ≡ 56
  whole = div-add-mod' 56 size

  rest : 56 % size < size
  rest = mod-lt 56 (omega (arith, g.least))

  pub sixteen_left : 16 ≤ left
  sixteen_left = let l : 56 / size * size ≤ 56 / size * 10 = mul-le-mul_left (56 / size) g.most in omega (arith, whole, rest, l, h, g.most)

  pub enough_left : (bytes : ℕ) → left * size ≤ bytes * 8 → size / 2 * 3 + 8 ≤ bytes
  enough_left bytes fits =
      let m : (13 + 56 / size) * size ≡ 13 * size + 56 / size * size = add-mul 13 (56 / size) size in
      let l : (13 + 56 / size) * size ≤ left * size = mul-le-mul_right size h in
      omega (arith, g.even, whole, rest, m, l, fits)

-- sixteen words more are passed
pub sixteen_fewer : (n i size : ℕ) → i + 16 ≤ n → (n - i) * size ≡ 16 * size + (n - (i + 16)) * size
sixteen_fewer n i size h =
    let e : n - i ≡ 16 + (n - (i + 16)) = omega arith in
    ap (λ (m : ℕ). m * size) e ∙ add-mul 16 (n - (i + 16)) size
