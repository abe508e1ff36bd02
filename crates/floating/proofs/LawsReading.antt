-- What a word reads as, by the cases of its tests.
-- Assumes nothing.
use mathlib.Core.Path.{◌≡◌, refl, ap, ◌∙◌}
use mathlib.Core.Bool.{Bool, true, false}
use Prim.Native.Nat.{ℕ, ◌-◌, ◌≤◌, ◌<◌}
use native.Mathlib.Omega.{arith}
use borrow.Author.Tests.{ne_eqb, le-leb, lt-leb}
use Rattle.ground.specs.Choice.{pick}
use Rattle.floating.specs.declared.Reading.TheVariants.{Number, Zero, NotNormal}
use Rattle.floating.specs.Floating.{least_normal, number_of, signed_of, reading_of, is_negative, magnitude, fraction, exponent}

pub low_fraction : (s : Bool) (g : ℕ) → fraction g < least_normal → signed_of s g ≡ NotNormal
unfolding signed_of
low_fraction s g h = ap (λ (t : Bool). pick t (Number (number_of s (fraction g) (exponent g))) NotNormal) (lt-leb least_normal (fraction g) h)

pub normal_fraction : (s : Bool) (g : ℕ) → least_normal ≤ fraction g → signed_of s g ≡ Number (number_of s (fraction g) (exponent g))
unfolding signed_of
normal_fraction s g h = ap (λ (t : Bool). pick t (Number (number_of s (fraction g) (exponent g))) NotNormal) (le-leb least_normal (fraction g) h)

pub zero_reads : reading_of 0 ≡ Zero
unfolding reading_of
zero_reads = refl

by_sign : (w : ℕ) (s : Bool) → (w ≡ 0 → ⊥) → is_negative w ≡ s → reading_of w ≡ signed_of s (pick s (0x100000000 - w) w)
unfolding reading_of
by_sign w s h e =
    ap (λ (t : Bool). pick t Zero (signed_of (is_negative w) (magnitude w))) (ne_eqb w 0 h)
    ∙ ap (λ (t : Bool). signed_of t (pick t (0x100000000 - w) w)) e

pub positive_reads : (w : ℕ) → (w ≡ 0 → ⊥) → w < 0x80000000 → reading_of w ≡ signed_of false w
positive_reads w h k = by_sign w false h (lt-leb 0x80000000 w k)

pub negative_reads : (w : ℕ) → 0x80000000 ≤ w → reading_of w ≡ signed_of true (0x100000000 - w)
negative_reads w k =
    let h : w ≡ 0 → ⊥ = (λ e. omega arith) in
    by_sign w true h (le-leb 0x80000000 w k)
