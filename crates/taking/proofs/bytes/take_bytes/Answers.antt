-- `taking::bytes::take_bytes` meets its contract: the bytes passed stand at the front of the room.
-- Assumes nothing.
use mathlib.Core.Path.{◌≡◌, sym, ap, ap₂, ◌∙◌, subst}
use mathlib.Core.List.{List, ◌++◌}
use Prim.Native.Nat.{ℕ, ◌+◌, ◌≤◌}
use native.Mathlib.Omega.{arith}
use lib.ListN.{length, take, drop, set}
use lib.Seq.{length-take-le, get_or-take}
use Rattle.room.specs.Laid.{laid}
use Rattle.room.proofs.LawsLaid.{laid_nil, laid_front, front_turn}
use Rattle.bits.specs.Bits.{Below}
use Rattle.bits.proofs.LawsBelow.{below_take, below_all}
use Rattle.bits.proofs.LawsFields.{bytes_taken}
use Rattle.taking.proofs.bytes.take_bytes.Goals as goal

pub loop-i-init : goal.loop-i-init
loop-i-init c = (sym (laid_nil _ 0), tt)

pub loop-i-preserved : goal.loop-i-preserved
loop-i-preserved c =
    let l = c.loop-i in
    let a = c.args in
    let long = length-take-le a.count a.field.now c.requires.count_in_bounds in (
      ap₂ (λ (r : List ℕ) (w : ℕ). set r l.i w) l.invariant.0 (c.from.ensures ∙ get_or-take a.count a.field.now l.i 0 (omega arith)) ∙ front_turn a.field.now a.room.now l.i (omega arith) (omega arith),
      below_take 256 (l.i + 1) a.field.now (below_all 256 a.field.now (λ k. (c.type_inv.field k).fits)),
    )

pub returns : goal.returns
returns c =
    let l = c.loop-i in
    let field = c.args.field.now in
    let count = c.args.count in
    let fits : count ≤ length field = c.requires.count_in_bounds in
    let long : length (take count field) ≡ count = length-take-le count field fits in
    let e : l.i ≡ count = omega arith in
    l.invariant.0
    ∙ ap (λ (n : ℕ). laid c.args.room.now 0 (take n field)) e
    ∙ laid_front c.args.room.now (take count field) count long
    ∙ ap (λ (ws : List ℕ). ws ++ drop count c.args.room.now)
    (sym (bytes_taken count field (subst (λ (n : ℕ). Below 256 (take n field)) e l.invariant.1) fits))
