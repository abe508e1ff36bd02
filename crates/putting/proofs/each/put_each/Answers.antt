-- `putting::each::put_each` meets its contract: each turn keeps the state of EachTurns. The measure falls by 9 for a
-- byte, by 1 for a word.
-- Assumes nothing.
use mathlib.Core.List.{List}
use Rattle.bits.specs.Bits.{Below}
use Prim.Native.Nat.{ℕ, ◌≤◌, ◌+◌, ◌-◌, ◌*◌, ◌^◌, ◌<◌}
use native.Mathlib.Omega.{arith}
use lib.ListN.{get_or}
use native.Mathlib.Nat.{lt_of_lt_of_le}
use lib.Pow.{pow_mono, pow_pos, shl_exact}
use Rattle.bits.proofs.LawsBelow.{below_at}
use Rattle.bits.proofs.LawsBits.{intake_lt}
use Rattle.bits.proofs.LawsTurns.{one_shl, top_lt}
use Rattle.bits.proofs.LawsFill.{fit_below}
use Rattle.putting.proofs.EachTurns.{start, write_turn, take_turn, fill_turn, finish}
use Rattle.putting.proofs.each.put_each.Goals as goal

pub loop-at-init : goal.loop-at-init
loop-at-init c = start _ _ _ c.requires.size_in_bounds c.args.fitting.le_size.0

-- where a word is taken in, fewer than 24 bits are in hand
acc_lt : (words : List ℕ) (acc have i size : ℕ) → acc < 2 ^ have → Below (2 ^ size) words → have < 8 → size ≤ 16
    → acc * 2 ^ size + get_or words i 0 < 2 ^ 24
acc_lt words acc have i size small below h m =
    lt_of_lt_of_le (intake_lt have size small (below_at _ words (pow_pos _) below i)) (pow_mono {j = 24} (omega arith))

pub overflow_cast-field : goal.overflow_cast-field
overflow_cast-field c = record { fits = top_lt 8 _ _ c.if-have-ge8.true c.loop-at.invariant.small }

pub nonzero_rem-acc : goal.nonzero_rem-acc
nonzero_rem-acc c = rw (one_shl 64 (c.loop-at.have - 8) (omega arith)) (pow_pos _)

pub loop-at-preserved-then-have-ge8 : goal.loop-at-preserved-then-have-ge8
loop-at-preserved-then-have-ge8 c =
    rw (one_shl 64 (c.loop-at.have - 8) (omega arith)) (write_turn c.loop-at.invariant (omega arith) c.if-have-ge8.true)

pub overflow_cast-acc : goal.overflow_cast-acc
overflow_cast-acc c = omega (arith, c.type_inv.words c.loop-at.i)

pub overflow_add-acc : goal.overflow_add-acc
overflow_add-acc c =
    let l = c.loop-at in
    let size = c.args.fitting.size in
    rw (shl_exact l.have size 64 l.invariant.small (omega arith))
    (omega (
      arith,
      acc_lt c.args.fitting.words.now l.acc l.have l.i size l.invariant.small (fit_below _ _ c.args.fitting.fits) c.if-have-ge8.false c.args.fitting.le_size.1,
    ))

pub loop-at-preserved-then-i-words : goal.loop-at-preserved-then-i-words
loop-at-preserved-then-i-words c =
    rw (shl_exact c.loop-at.have c.args.fitting.size 64 c.loop-at.invariant.small (omega arith))
    (take_turn c.loop-at.invariant (omega arith) (fit_below _ _ c.args.fitting.fits) c.if-have-ge8.false c.if-i-words.true)

pub loop-at-preserved : goal.loop-at-preserved
loop-at-preserved c =
    rw (shl_exact c.loop-at.have (8 - c.loop-at.have) 64 c.loop-at.invariant.small (omega arith))
    (fill_turn c.loop-at.invariant (omega arith) c.args.fitting.le_size.0 c.if-have-ge8.false c.if-i-words.false)

pub shape_of-field : goal.shape_of-field
shape_of-field c = c.loop-at.invariant.long

pub returns : goal.returns
returns c = finish c.loop-at.invariant c.loop-at-test.false
