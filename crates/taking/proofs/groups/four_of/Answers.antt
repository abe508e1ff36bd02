-- `taking::groups::four_of` meets its contract: two pairs side by side, then their words.
-- Assumes nothing.
use mathlib.Core.Path.{◌≡◌, refl, ap, ap₂, ◌∙◌}
use Prim.Native.Nat.{ℕ, ◌+◌, ◌-◌, ◌*◌, ◌/◌, ◌%◌, ◌^◌, ◌≤◌}
use native.Mathlib.Omega.{arith}
use lib.Pow.{pow_pos}
use Rattle.bits.specs.Digits.{digits}
use Rattle.bits.proofs.LawsTurns.{one_shl}
use Rattle.taking.proofs.LawsFours.{low_short, first_short, second_short, four_words}
use Rattle.taking.proofs.groups.four_of.Goals as goal

-- the divisor is a power of two
shifted : (size : ℕ) → size ≤ 16 → 1 * 2 ^ (2 * size) % 2 ^ 64 ≡ 2 ^ (2 * size)
shifted size h = one_shl 64 (2 * size) (omega arith)

pub nonzero_rem-second : goal.nonzero_rem-second
nonzero_rem-second c = rw (shifted c.args.size c.requires.1) (pow_pos (2 * c.args.size))

pub overflow_mul-pairs : goal.overflow_mul-pairs
overflow_mul-pairs c =
    rw (shifted c.args.size c.requires.1) (omega (arith, second_short c.args.size (c.args.x / 2 ^ (64 - 4 * c.args.size)) c.requires.1))

pub overflow_add-pairs : goal.overflow_add-pairs
overflow_add-pairs c =
    rw (shifted c.args.size c.requires.1)
    (omega (
      arith,
      second_short c.args.size (c.args.x / 2 ^ (64 - 4 * c.args.size)) c.requires.1,
      first_short c.args.size c.args.x c.requires.1 (omega arith),
    ))

-- both pairs, side by side, as the code has them
pairs : (size x : ℕ) → ℕ
pairs size x = x / 2 ^ (64 - 4 * size) % (1 * 2 ^ (2 * size) % 2 ^ 64) * 2 ^ 32 + x / 2 ^ (64 - 2 * size)

pub overflow_mul-result : goal.overflow_mul-result
unfolding pairs
overflow_mul-result c = omega (arith, low_short c.args.size (pairs c.args.size c.args.x) c.requires.1 c.low_bits-2.ensures)

pub overflow_add-result : goal.overflow_add-result
unfolding pairs
overflow_add-result c =
    let n = pairs c.args.size c.args.x in
    omega (
      arith,
      low_short c.args.size n c.requires.1 c.low_bits-2.ensures,
      low_short c.args.size
          (n / 2 ^ c.args.size) c.requires.1 c.low_bits.ensures,
    )

pub returns : goal.returns
returns c =
    let size = c.args.size in
    let x = c.args.x in
    ap (digits 65536 4) (ap₂ (λ (y z : ℕ). y + z * 2 ^ 16) c.low_bits.ensures c.low_bits-2.ensures)
    ∙ four_words size c.requires.1 x (omega arith) (x / 2 ^ (64 - 2 * size)) (x / 2 ^ (64 - 4 * size) % (1 * 2 ^ (2 * size) % 2 ^ 64)) refl
    (ap (λ (m : ℕ). x / 2 ^ (64 - 4 * size) % m) (shifted c.args.size c.requires.1))
