-- The format holds a number in one way only: two floats of it with the same sign and size are equal.
-- Assumes nothing.
use mathlib.Core.Path.{◌≡◌, sym, ap, ◌∙◌}
use Prim.Native.Nat.{ℕ, ◌+◌, ◌-◌, ◌*◌, ◌/◌, ◌^◌, ◌<◌}
use native.Mathlib.Nat.{mul_right_comm, eq_of_mul-eq-mul_right}
use mathlib.Core.Bool.{Bool, cond}
use lib.IntN.{ℤ}
use lib.Dec.{T}
use lib.Ieee.{Float, nan, inf, fin, Format, prec, low, up, down, of_bits, to_bits, fits, size, hid, top}
use lib.Ieee.Bits.{of_bits-to_bits}
use lib.Ieee.Fits.{down_pos}
use lib.Ieee.Exact.{HasValue}
use lib.Ieee.Nearest.{div_same}

-- of two fractions that are equal to a third one, over the denominators
cross : (m n e d a c : ℕ) → 0 < c → m * c ≡ a * e → n * c ≡ a * d → m * d ≡ n * e
cross m n e d a c h p q =
    eq_of_mul-eq-mul_right c h (m * d) (n * e)
    (mul_right_comm m d c ∙ ap (λ (x : ℕ). x * d) p ∙ mul_right_comm a e d ∙ ap (λ (x : ℕ). x * e) (sym q) ∙ mul_right_comm n c e)

module _ (f : Format) where
  -- a float's bits are made from its sign and its size alone
  same_bits : (s t : Bool) (m n : ℕ) (e d : ℤ) → s ≡ t → m * up e * down d ≡ n * up d * down e → to_bits f (fin s m e) ≡ to_bits f (fin t n d)
  unfolding to_bits
  same_bits s t m n e d p q =
      ap (λ (z : ℕ). cond s (top f) 0 + (size z - prec f) * hid f + z / 2 ^ (size z - prec f))
      (div_same (m * up e * 2 ^ low f) (down e) (n * up d * 2 ^ low f) (down d) (down_pos e) (down_pos d)
      (mul_right_comm (m * up e) (2 ^ low f) (down d) ∙ ap (λ (z : ℕ). z * 2 ^ low f) q ∙ mul_right_comm (n * up d) (down e) (2 ^ low f)))
      ∙ ap (λ (b : Bool). to_bits f (fin b n d)) p

  pub one_float : (x y : Float) (s : Bool) (a c : ℕ) → 0 < c → T (fits f x) → T (fits f y) → HasValue x s a c → HasValue y s a c → x ≡ y
  one_float nan y s a c h p q v w = absurd v
  one_float (inf t) y s a c h p q v w = absurd v
  one_float (fin t m e) nan s a c h p q v w = absurd w
  one_float (fin t m e) (inf u) s a c h p q v w = absurd w
  one_float (fin t m e) (fin u n d) s a c h p q v w =
      sym (of_bits-to_bits f (fin t m e) p)
      ∙ ap (of_bits f) (same_bits t u m n e d (v.0 ∙ sym w.0) (cross (m * up e) (n * up d) (down e) (down d) a c h v.1 w.1))
      ∙ of_bits-to_bits f (fin u n d) q
