-- `taking::groups::take_groups` meets its contract: each turn keeps the state of EachTurns, and `take_each` takes what is left.
-- Assumes nothing.
use mathlib.Core.Path.{◌∙◌}
use Prim.Native.Nat.{ℕ, ◌+◌, ◌-◌, ◌*◌, ◌/◌, ◌≤◌}
use native.Mathlib.Nat.{div-le_self}
use native.Mathlib.Omega.{arith}
use lib.ListN.{length, length-drop}
use borrow.Rule.Slice.PartMut.{same_len_mid}
use Rattle.bits.proofs.LawsElements.{to_end}
use Rattle.bits.proofs.LawsFitting.{Grouped, grouped, sixteen_left}
use Rattle.taking.proofs.EachTurns.{start}
use Rattle.taking.proofs.GroupTurns.{within, turn, ends}
use Rattle.taking.proofs.groups.take_groups.Goals as goal

pub nonzero_div-least : goal.nonzero_div-least
nonzero_div-least g c = omega (arith, (grouped c.requires.fact).least)

pub overflow_add-least : goal.overflow_add-least
overflow_add-least g c = omega (arith, div-le_self 56 g.row.SIZE)

pub loop-i-init : goal.loop-i-init
loop-i-init g c = start _ _ _ _ c.requires.size_in_bounds (omega (arith, (grouped c.requires.fact).least))

pub overflow_sub-count : goal.overflow_sub-count
overflow_sub-count g c = c.loop-i.invariant.done

-- the bytes of a turn are there
after : (at size n : ℕ) → Grouped size → at + size / 2 * 3 + 8 ≤ n → at + size * 2 ≤ n
after at size n g h = omega (arith, g.most, g.even)

pub invariant_of-source : goal.invariant_of-source
invariant_of-source g c =
    let sizes = grouped c.requires.fact in
    record {
      le_size = (omega (arith, sizes.least), omega (arith, sizes.most));
      size_in_bounds = c.requires.size_in_bounds;
    }

pub take_sixteen-requires : goal.take_sixteen-requires
take_sixteen-requires g c =
    let sizes = grouped c.requires.fact in
    record {
      size_value = sizes.even;
      size_in_bounds = within c.loop-i.invariant sizes c.loop-i-test.true;
      i_in_bounds = omega (
        arith,
        c.loop-i.invariant.long,
        c.requires.count_in_bounds,
        sixteen_left g.row.SIZE _ sizes c.loop-i-test.true,
      );
    }

pub overflow_mul-at : goal.overflow_mul-at
overflow_mul-at g c =
    omega (
      arith,
      after c.loop-i.at g.row.SIZE _ (grouped c.requires.fact)
          (within c.loop-i.invariant (grouped c.requires.fact) c.loop-i-test.true),
    )

pub overflow_add-at : goal.overflow_add-at
overflow_add-at g c =
    omega (
      arith,
      after c.loop-i.at g.row.SIZE _ (grouped c.requires.fact)
          (within c.loop-i.invariant (grouped c.requires.fact) c.loop-i-test.true),
    )

pub overflow_add-i : goal.overflow_add-i
overflow_add-i g c = omega (arith, sixteen_left g.row.SIZE _ (grouped c.requires.fact) c.loop-i-test.true)

pub loop-i-smaller : goal.loop-i-smaller
loop-i-smaller g c = omega (arith, sixteen_left g.row.SIZE _ (grouped c.requires.fact) c.loop-i-test.true)

pub loop-i-preserved : goal.loop-i-preserved
loop-i-preserved g c =
    turn c.loop-i.invariant (grouped c.requires.fact) c.loop-i-test.true c.requires.count_in_bounds c.take_sixteen.ensures

pub invariant_of-left : goal.invariant_of-left
invariant_of-left g c =
    let sizes = grouped c.requires.fact in
    record {
      le_size = (omega (arith, sizes.least), omega (arith, sizes.most));
      size_in_bounds = simp (to_end, length-drop) (omega arith);
    }

pub take_each-requires : goal.take_each-requires
take_each-requires g c = record { count_in_bounds = simp (to_end, length-drop) (omega arith) }

pub shape_of-room : goal.shape_of-room
shape_of-room g c =
    let l = c.loop-i in
    same_len_mid l.i (length l.room - l.i) l.room c.take_each.new.room c.take_each.auto.room ∙ l.invariant.long

pub returns : goal.returns
returns g c = ends c.loop-i.invariant _ c.requires.count_in_bounds c.take_each.ensures
