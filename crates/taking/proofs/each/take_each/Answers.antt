-- `taking::each::take_each` meets its contract: each turn keeps the state of EachTurns, by a byte read or a word written.
-- Assumes nothing.
use Prim.Native.Nat.{ℕ, ◌-◌, ◌^◌, ◌≤◌, ◌<◌}
use native.Mathlib.Omega.{arith}
use lib.Pow.{pow_mono, pow_pos}
use Rattle.bits.proofs.LawsBelow.{below_all}
use Rattle.bits.proofs.LawsTurns.{one_shl, top_lt}
use Rattle.taking.proofs.EachTurns.{start, within, read_turn, write_turn, finish}
use Rattle.taking.proofs.each.take_each.Goals as goal

pub loop-i-init : goal.loop-i-init
loop-i-init c = start _ _ _ _ c.args.source.size_in_bounds c.args.source.le_size.0

-- in the first arm fewer than 16 bits are in hand
acc_lt : (have size acc : ℕ) → have < size → size ≤ 16 → acc < 2 ^ have → acc < 65536
acc_lt have size acc h m l = omega (arith, pow_mono {i = have} {j = 16} (omega arith))

pub overflow_mul-acc : goal.overflow_mul-acc
overflow_mul-acc c = omega (arith, acc_lt c.loop-i.have c.args.source.size _ c.if-have-size.true c.args.source.le_size.1 c.loop-i.invariant.small)

pub bounds-field-at : goal.bounds-field-at
bounds-field-at c = within c.loop-i.invariant c.loop-i-test.true c.if-have-size.true

pub overflow_cast-acc : goal.overflow_cast-acc
overflow_cast-acc c = omega (arith, c.type_inv.field c.loop-i.at)

pub overflow_add-acc : goal.overflow_add-acc
overflow_add-acc c =
    omega (
      arith,
      acc_lt c.loop-i.have c.args.source.size _ c.if-have-size.true c.args.source.le_size.1 c.loop-i.invariant.small,
      c.type_inv.field c.loop-i.at,
    )

pub overflow_add-at : goal.overflow_add-at
overflow_add-at c = omega (arith, within c.loop-i.invariant c.loop-i-test.true c.if-have-size.true)

pub loop-i-smaller-then-have-size : goal.loop-i-smaller-then-have-size
loop-i-smaller-then-have-size c = omega (arith, within c.loop-i.invariant c.loop-i-test.true c.if-have-size.true)

pub loop-i-preserved-then-have-size : goal.loop-i-preserved-then-have-size
loop-i-preserved-then-have-size c =
    read_turn c.loop-i.invariant c.loop-i-test.true (below_all 256 c.args.source.field.now (λ i. (c.type_inv.field i).fits)) c.if-have-size.true

pub overflow_cast-room : goal.overflow_cast-room
overflow_cast-room c =
    omega (arith, top_lt c.args.source.size _ _ c.if-have-size.false c.loop-i.invariant.small, pow_mono {j = 16} c.args.source.le_size.1)

pub nonzero_rem-acc : goal.nonzero_rem-acc
nonzero_rem-acc c = rw (one_shl 64 (c.loop-i.have - c.args.source.size) (omega arith)) (pow_pos _)

pub loop-i-preserved : goal.loop-i-preserved
loop-i-preserved c =
    rw (one_shl 64 (c.loop-i.have - c.args.source.size) (omega arith))
    (write_turn c.loop-i.invariant c.loop-i-test.true c.requires.count_in_bounds c.if-have-size.false)

pub shape_of-room : goal.shape_of-room
shape_of-room c = c.loop-i.invariant.long

pub returns : goal.returns
returns c = finish c.loop-i.invariant c.loop-i-test.false
