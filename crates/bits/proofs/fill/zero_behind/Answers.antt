-- `bits::fill::zero_behind` meets its contract: the fill begins at a byte's first bit, or inside a byte.
-- Assumes nothing.
use Prim.Native.Nat.{ℕ, ◌<◌, ◌+◌, ◌-◌, ◌*◌, ◌/◌, ◌%◌, ◌≤◌}
use mathlib.Core.Path.{◌≡◌, sym, ap, ◌∙◌}
use native.Mathlib.Omega.{arith}
use lib.Pow.{pow_pos}
use lib.ListN.{length}
use Rattle.bits.specs.Fields.{all_zero}
use Rattle.bits.proofs.LawsFill.{fill_at, fill_stops, fill_goes_on}
use Rattle.bits.proofs.LawsFitting.{last_byte, rest_short}
use Rattle.bits.proofs.LawsTurns.{one_shl}
use Rattle.bits.proofs.fill.zero_behind.Goals as goal

-- the byte in which the last word ends, and the bit inside it
ends : (count size : ℕ) → count * size ≡ (count / 8 * size + count % 8 * size / 8) * 8 + count % 8 * size % 8
ends count size = last_byte count size 0

-- the byte in which the last word ends lies inside the field
inside : (count size len : ℕ) → count * size ≤ len * 8 → (count % 8 * size % 8 ≡ 0 → ⊥) → count / 8 * size + count % 8 * size / 8 < len
inside count size len h ne = omega (arith, ends count size, ne)

pub overflow_mul-rest : goal.overflow_mul-rest
overflow_mul-rest c = omega (arith, rest_short c.args.count c.args.size 0 c.requires.size_bound)

pub overflow_mul-k : goal.overflow_mul-k
overflow_mul-k c = omega (arith, ends c.args.count c.args.size)

pub overflow_add-k : goal.overflow_add-k
overflow_add-k c = omega (arith, ends c.args.count c.args.size)

pub zero_from-requires : goal.zero_from-requires
zero_from-requires c = omega (arith, ends c.args.count c.args.size)

pub returns-then-inside-eq0 : goal.returns-then-inside-eq0
returns-then-inside-eq0 c =
    let k = c.args.count / 8 * c.args.size + c.args.count % 8 * c.args.size / 8 in
    c.zero_from.ensures ∙ ap all_zero (sym (fill_at c.args.size c.args.count k c.args.field.now (omega (arith, ends c.args.count c.args.size, c.if-inside-eq0.true))))

pub bounds-field-k : goal.bounds-field-k
bounds-field-k c = inside c.args.count c.args.size (length c.args.field.now) c.requires.size_in_bounds c.if-inside-eq0.false

pub overflow_cast-low : goal.overflow_cast-low
overflow_cast-low c = omega (arith, c.type_inv.field (c.args.count / 8 * c.args.size + c.args.count % 8 * c.args.size / 8))

pub nonzero_rem-low : goal.nonzero_rem-low
nonzero_rem-low c = rw (one_shl 64 (8 - c.args.count % 8 * c.args.size % 8) (omega arith)) (pow_pos _)

pub returns-then-low-ne0 : goal.returns-then-low-ne0
returns-then-low-ne0 c = sym (fill_stops c.args.size c.args.count _ _ c.args.field.now (ends c.args.count c.args.size) (inside c.args.count c.args.size (length c.args.field.now) c.requires.size_in_bounds c.if-inside-eq0.false) (omega arith) (rw (one_shl 64 (8 - c.args.count % 8 * c.args.size % 8) (omega arith)) at c.if-low-ne0.true))

pub overflow_add-k-2 : goal.overflow_add-k-2
overflow_add-k-2 c = omega (arith, inside c.args.count c.args.size (length c.args.field.now) c.requires.size_in_bounds c.if-inside-eq0.false)

pub zero_from-requires-2 : goal.zero_from-requires-2
zero_from-requires-2 c = omega (arith, inside c.args.count c.args.size (length c.args.field.now) c.requires.size_in_bounds c.if-inside-eq0.false)

pub returns : goal.returns
returns c =
    c.zero_from-2.ensures
    ∙ sym (fill_goes_on c.args.size c.args.count _ _ c.args.field.now (ends c.args.count c.args.size) (inside c.args.count c.args.size (length c.args.field.now) c.requires.size_in_bounds c.if-inside-eq0.false) (omega arith) (rw (one_shl 64 (8 - c.args.count % 8 * c.args.size % 8) (omega arith)) at c.if-low-ne0.false))
