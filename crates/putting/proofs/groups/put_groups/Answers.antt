-- `putting::groups::put_groups` meets its contract: each turn keeps the state of GroupTurns, and `put_plain` puts what is left.
-- Assumes nothing.
use mathlib.Core.Path.{◌∙◌}
use Prim.Native.Nat.{ℕ, ◌+◌, ◌-◌, ◌*◌, ◌/◌, ◌≤◌}
use native.Mathlib.Nat.{div-le_self}
use native.Mathlib.Omega.{arith}
use lib.ListN.{length, length-drop}
use borrow.Rule.Slice.PartMut.{same_len_mid}
use Rattle.bits.proofs.LawsBelow.{below_drop}
use Rattle.bits.proofs.LawsElements.{to_end}
use Rattle.bits.proofs.LawsFitting.{Grouped, grouped, sixteen_left}
use Rattle.bits.proofs.LawsFill.{fit_below, below_fit}
use Rattle.putting.proofs.GroupTurns.{start, inside, enough, within, turn, ends}
use Rattle.putting.proofs.groups.put_groups.Goals as goal

pub nonzero_div-least : goal.nonzero_div-least
nonzero_div-least g c = omega (arith, (grouped c.requires.fact).least)

pub overflow_add-least : goal.overflow_add-least
overflow_add-least g c = omega (arith, div-le_self 56 g.row.SIZE)

pub loop-i-init : goal.loop-i-init
loop-i-init g c = start _ _ _

pub overflow_sub-words : goal.overflow_sub-words
overflow_sub-words g c = c.loop-i.invariant.done

-- the bytes of a turn are there
after : (at size n : ℕ) → Grouped size → at + size / 2 * 3 + 8 ≤ n → at + size * 2 ≤ n
after at size n g h = omega (arith, g.most, g.even)

pub invariant_of-fitting : goal.invariant_of-fitting
invariant_of-fitting g c =
    let sizes = grouped c.requires.fact in
    record {
      le_size = (omega (arith, sizes.least), omega (arith, sizes.most));
      fits = c.requires.fits;
    }

pub put_sixteen-requires : goal.put_sixteen-requires
put_sixteen-requires g c =
    let sizes = grouped c.requires.fact in
    record {
      size_value = sizes.even;
      i_in_bounds = omega (arith, sixteen_left g.row.SIZE _ sizes c.loop-i-test.true);
      size_in_bounds = within c.loop-i.invariant c.requires.size_in_bounds sizes c.loop-i-test.true;
    }

pub overflow_add-i : goal.overflow_add-i
overflow_add-i g c = omega (arith, sixteen_left g.row.SIZE _ (grouped c.requires.fact) c.loop-i-test.true)

pub overflow_mul-at : goal.overflow_mul-at
overflow_mul-at g c =
    omega (
      arith,
      after c.loop-i.at g.row.SIZE _ (grouped c.requires.fact)
          (within c.loop-i.invariant c.requires.size_in_bounds (grouped c.requires.fact) c.loop-i-test.true),
    )

pub overflow_add-at : goal.overflow_add-at
overflow_add-at g c =
    omega (
      arith,
      after c.loop-i.at g.row.SIZE _ (grouped c.requires.fact)
          (within c.loop-i.invariant c.requires.size_in_bounds (grouped c.requires.fact) c.loop-i-test.true),
    )

pub loop-i-smaller : goal.loop-i-smaller
loop-i-smaller g c = omega (arith, sixteen_left g.row.SIZE _ (grouped c.requires.fact) c.loop-i-test.true)

pub loop-i-preserved : goal.loop-i-preserved
loop-i-preserved g c =
    turn c.loop-i.invariant c.requires.size_in_bounds (grouped c.requires.fact) c.loop-i-test.true c.put_sixteen.ensures

pub slice_bounds-put_plain-count : goal.slice_bounds-put_plain-count
slice_bounds-put_plain-count g c = omega (arith, c.loop-i.invariant.long, inside c.loop-i.invariant c.requires.size_in_bounds)

pub invariant_of-left : goal.invariant_of-left
invariant_of-left g c =
    let sizes = grouped c.requires.fact in
    record {
      le_size = (omega (arith, sizes.least), omega (arith, sizes.most));
      fits = simp to_end (below_fit g.row.SIZE _ (below_drop _ c.loop-i.i c.args.words.now (fit_below _ _ c.requires.fits)));
    }

pub put_plain-requires : goal.put_plain-requires
put_plain-requires g c =
    let left = enough c.loop-i.invariant c.requires.size_in_bounds in
    record { size_in_bounds = simp (to_end, length-drop) (omega (arith, c.loop-i.invariant.long, left)) }

pub shape_of-field : goal.shape_of-field
shape_of-field g c =
    let l = c.loop-i in
    same_len_mid l.at (length l.field - l.at) l.field c.put_plain.new.field c.put_plain.auto.field ∙ l.invariant.long

pub returns : goal.returns
returns g c = ends c.loop-i.invariant c.requires.size_in_bounds _ c.put_plain.ensures
