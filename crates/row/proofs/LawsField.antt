-- A field is whole 16-bit units, and has room for the words that suit its block.
-- Assumes nothing.
use Prim.Native.Nat.{ℕ, ◌+◌, ◌*◌, ◌/◌, ◌%◌, ◌≤◌, max}
use mathlib.Core.Path.{◌≡◌, refl, ap₂, subst}
use mathlib.Core.Bool.{false, ◌||◌}
use native.Mathlib.Omega.{arith}
use lib.Dec.{lit≤, eqb}
use borrow.Author.Tests.{ne_eqb}
use Rattle.ground.proofs.LawsChoice.{no, either}
use Rattle.row.specs.Pixels.{image_size}
use Rattle.row.specs.Rows.{fixed_bits}
use Rattle.row.specs.Field.{up_to16, field_bits, field_bytes}
use Rattle.row.specs.Suits.{zeroth, first, second, second3, others, last6, last8, last10}
use Rattle.row.specs.Promises.{WordsAtMost, FieldsEven, longest_field, Held, WordsHeld}

pub bits_whole : (b n : ℕ) → field_bits b n % 16 ≡ 0
unfolding field_bits
bits_whole b n = either (λ k. k % 16 ≡ 0) (eqb b 0 || eqb b 11) (λ _. refl) (λ _. omega arith)

pub fields_even : FieldsEven
unfolding field_bytes
fields_even b n = omega (arith, bits_whole b n)

-- no field is shorter, whatever its block and count
pub field_least : (b n : ℕ) → 2680 ≤ field_bytes b n
unfolding field_bytes field_bits
field_least b n = either (λ (bits : ℕ). 2680 ≤ bits / 8) (eqb b 0 || eqb b 11) (λ _. lit≤ tt) (λ _. omega arith)

-- image words fit the field of blocks 1 to 10
image_held : (b n : ℕ) → (eqb b 0 || eqb b 11) ≡ false → n ≤ 25152 → Held image_size n (field_bytes b n)
unfolding field_bytes field_bits
image_held b n e most =
    let k = no {x = max 21440 (up_to16 (n * image_size))} fixed_bits refl e refl in
    record {
      low = lit≤ tt;
      high = lit≤ tt;
      fits = subst (λ (bits : ℕ). n * image_size ≤ bits / 8 * 8) k (omega arith);
      short = subst (λ (bits : ℕ). bits / 8 ≤ longest_field) k (omega arith);
    }

pub words_at_most : WordsAtMost
words_at_most _ _ _ _ zeroth = lit≤ tt
words_at_most _ _ _ _ (first s) = omega (arith, s.wide)
words_at_most _ _ _ _ (second _ s) = omega (arith, s.wide)
words_at_most _ _ _ _ (second3 s) = omega (arith, s.wide)
words_at_most _ _ _ _ (others l h s) = omega (arith, s.wide)
words_at_most _ _ _ _ last6 = lit≤ tt
words_at_most _ _ _ _ last8 = lit≤ tt
words_at_most _ _ _ _ last10 = lit≤ tt

pub words_held : WordsHeld
unfolding field_bytes field_bits
words_held _ _ _ _ zeroth = record { low = lit≤ tt; high = lit≤ tt; fits = lit≤ tt; short = lit≤ tt }
words_held _ _ _ _ (first {n = n} s) = image_held 1 (4 * (16 + n)) refl (omega (arith, s.wide))
words_held _ _ _ _ (second {n = n} _ s) = image_held 2 (3 * (16 + n)) refl (omega (arith, s.wide))
words_held _ _ _ _ (second3 {n = n} s) = image_held 2 (4 * (16 + n)) refl (omega (arith, s.wide))
words_held _ _ _ _ (others {b = b} {n = n} l h s) =
    image_held b (16 + 4 * n) (ap₂ ◌||◌ (ne_eqb b 0 (λ e. omega arith)) (ne_eqb b 11 (λ e. omega arith))) (omega (arith, s.wide))
words_held _ _ _ _ last6 = record { low = lit≤ tt; high = lit≤ tt; fits = lit≤ tt; short = lit≤ tt }
words_held _ _ _ _ last8 = record { low = lit≤ tt; high = lit≤ tt; fits = lit≤ tt; short = lit≤ tt }
words_held _ _ _ _ last10 = record { low = lit≤ tt; high = lit≤ tt; fits = lit≤ tt; short = lit≤ tt }
