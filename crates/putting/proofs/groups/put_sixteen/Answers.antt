-- `putting::groups::put_sixteen` meets its contract: four groups, each over what the one before wrote too far.
-- Assumes nothing.
use mathlib.Core.Path.{◌≡◌, sym, ap, ◌∙◌}
use mathlib.Core.List.{List}
use Prim.Native.Nat.{ℕ, ◌+◌, ◌-◌, ◌*◌, ◌/◌, ◌≤◌}
use native.Mathlib.Omega.{arith}
use lib.ListN.{length, take, drop, length-drop}
use lib.Seq.{drop-drop}
use Rattle.room.specs.Laid.{laid}
use Rattle.bits.specs.Fields.{field_of}
use Rattle.putting.proofs.GroupTurns.{four_more}
use Rattle.putting.proofs.groups.put_sixteen.Goals as goal

pub returns : goal.returns
returns c =
    let room = c.args.field.now in
    let at = c.args.at in
    let size = c.args.fitting.size in
    let half = size / 2 in
    let ws = drop c.args.i c.args.fitting.words.now in
    let even = c.requires.size_value in
    let most = c.args.fitting.le_size.1 in
    let enough : 16 ≤ length ws = omega (arith, c.requires.i_in_bounds, length-drop c.args.i c.args.fitting.words.now) in
    let inside : at + half * 3 + 8 ≤ length room = c.requires.size_in_bounds in
    let behind : (n : ℕ) → field_of size 8 (take 4 (drop (c.args.i + n) c.args.fitting.words.now)) ≡ field_of size 8 (take 4 (drop n ws)) =
    λ n. ap (λ (l : List ℕ). field_of size 8 (take 4 l)) (sym (drop-drop n c.args.i c.args.fitting.words.now)) in
    four_more size 12 (half * 3) (8 - half) (half * 2 + 8) at ws room (omega (arith, even)) (omega (arith, most)) (omega arith)
    (omega (arith, most)) (omega arith) (omega arith)
    (four_more size 8 (half * 2) (8 - half) (half + 8) at ws room (omega (arith, even)) (omega (arith, most)) (omega arith)
    (omega (arith, most)) (omega arith) (omega arith)
    (four_more size 4 half (8 - half) 8 at ws room (omega (arith, even)) (omega (arith, most)) (omega arith) (omega (arith, most))
    (omega arith) (omega arith)
    (c.put_eight.ensures ∙ ap (laid room at) c.group_from-first.ensures)
    (c.group_from-second.ensures ∙ behind 4) c.put_eight-2.ensures)
    (c.group_from-third.ensures ∙ behind 8) c.put_eight-3.ensures)
    (c.group_from-fourth.ensures ∙ behind 12) c.put_eight-4.ensures
