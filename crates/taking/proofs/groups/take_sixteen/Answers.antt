-- `taking::groups::take_sixteen` meets its contract: four groups, each behind the one before.
-- Assumes nothing.
use mathlib.Core.Path.{◌≡◌, ap, ◌∙◌}
use Prim.Native.Nat.{◌*◌, ◌/◌, ◌≤◌}
use native.Mathlib.Omega.{arith}
use lib.ListN.{length}
use Rattle.room.specs.Laid.{laid}
use Rattle.taking.proofs.GroupTurns.{four_more}
use Rattle.taking.proofs.groups.take_sixteen.Goals as goal

pub returns : goal.returns
returns c =
    let field = c.args.source.field.now in
    let room = c.args.room.now in
    let at = c.args.at in
    let size = c.args.source.size in
    let half = size / 2 in
    let i = c.args.i in
    let inside : i ≤ length room = omega (arith, c.requires.i_in_bounds) in
    let one : 4 * size ≡ half * 8 = omega (arith, c.requires.size_value) in
    let two : 8 * size ≡ half * 2 * 8 = omega (arith, c.requires.size_value) in
    let three : 12 * size ≡ half * 3 * 8 = omega (arith, c.requires.size_value) in
    four_more size 12 (half * 3) at i field room three inside
    (four_more size 8 (half * 2) at i field room two inside
    (four_more size 4 half at i field room one inside
    (c.put_four.ensures ∙ ap (laid room i) c.four_from-first.ensures)
    c.four_from-second.ensures c.put_four-2.ensures)
    c.four_from-third.ensures c.put_four-3.ensures)
    c.four_from-fourth.ensures c.put_four-4.ensures
