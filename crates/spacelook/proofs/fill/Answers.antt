-- `spacelook::fill` meets its contract: after k turns the numbers of the first k arrays stand at the front of the rooms.
-- Assumes nothing.
use mathlib.Core.Path.{refl, sym, subst}
use mathlib.Core.List.{List}
use Prim.Native.Nat.{ℕ, ◌≤◌, ◌<◌}
use native.Mathlib.Omega.{arith}
use lib.ListN.{length}
use Rattle.floating.specs.Cases.{case_of, value_of}
use Rattle.spacelook.specs.declared.Array.{Array}
use Rattle.spacelook.specs.Arrays.{arrays_in, size_of, Inside}
use Rattle.spacelook.proofs.LawsArrays.{next_is, inside}
use Rattle.spacelook.proofs.LawsNumbers.{none_fronted, one_fronted, all_fronted, numbers_more, room_for_one}
use Rattle.spacelook.proofs.fill.Goals as goal

pub loop-row-init : goal.loop-row-init
loop-row-init c =
    let a = c.args in (
      c.arrays_in-arrays.ensures,
      refl,
      none_fronted value_of a.words.now a.layout a.numbers.now,
      none_fronted case_of a.words.now a.layout a.cases.now,
    )

pub fill_array-requires : goal.fill_array-requires
fill_array-requires c =
    let l = c.loop-row in
    let is_row = next_is c.args.layout l.invariant.0 l.row-index in
    let there : l.row-index < length (arrays_in c.args.layout) = subst (λ (s : List Array). l.row-index < length s) l.invariant.0 c.loop-row-test.true in
    let room = room_for_one c.args.layout there is_row l.invariant.1 in record {
      words_value = (c.requires.words_value, subst Inside (sym is_row) (inside c.args.layout l.row-index there));
      row_in_bounds = (
        room (length l.numbers) (subst (λ (n : ℕ). (size_of c.args.layout).1 ≤ n) (sym l.invariant.2.same) c.requires.layout_in_bounds.0),
        room (length l.cases) (subst (λ (n : ℕ). (size_of c.args.layout).1 ≤ n) (sym l.invariant.3.same) c.requires.layout_in_bounds.1),
      );
    }

pub overflow_add-at : goal.overflow_add-at
overflow_add-at c =
    let l = c.loop-row in
    let there : l.row-index < length (arrays_in c.args.layout) = subst (λ (s : List Array). l.row-index < length s) l.invariant.0 c.loop-row-test.true in
    omega (arith, room_for_one c.args.layout there (next_is c.args.layout l.invariant.0 l.row-index) l.invariant.1 (length c.args.numbers.now) c.requires.layout_in_bounds.0)

pub loop-row-preserved : goal.loop-row-preserved
loop-row-preserved c =
    let l = c.loop-row in
    let is_row = next_is c.args.layout l.invariant.0 l.row-index in
    let there : l.row-index < length (arrays_in c.args.layout) = subst (λ (s : List Array). l.row-index < length s) l.invariant.0 c.loop-row-test.true in
    let room = room_for_one c.args.layout there is_row l.invariant.1 in (
      l.invariant.0,
      numbers_more c.args.layout there is_row l.invariant.1,
      one_fronted value_of c.args.words.now c.args.layout l.invariant.2 there is_row l.invariant.1 (room _ c.requires.layout_in_bounds.0) c.fill_array.ensures.numbers_after,
      one_fronted case_of c.args.words.now c.args.layout l.invariant.3 there is_row l.invariant.1 (room _ c.requires.layout_in_bounds.1) c.fill_array.ensures.cases_after,
    )

pub returns : goal.returns
returns c =
    let l = c.loop-row in
    let a = c.args in
    let all : length (arrays_in a.layout) ≤ l.row-index = subst (λ (s : List Array). length s ≤ l.row-index) l.invariant.0 c.loop-row-test.false in record { numbers_after = all_fronted value_of a.words.now a.layout l.invariant.2 all; cases_after = all_fronted case_of a.words.now a.layout l.invariant.3 all }
