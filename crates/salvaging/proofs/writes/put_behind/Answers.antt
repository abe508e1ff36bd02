-- `put_behind` meets its contract: after i turns the first i bytes are laid.
-- Assumes nothing.
use mathlib.Core.Path.{sym, ap, ◌∙◌}
use mathlib.Core.List.{List}
use Prim.Native.Nat.{ℕ, ◌+◌}
use native.Mathlib.Omega.{arith}
use lib.ListN.{get_or, set}
use lib.Seq.{take_all}
use Rattle.room.specs.Laid.{laid}
use Rattle.room.proofs.LawsLaid.{laid_nil, lay_turn}
use Rattle.salvaging.proofs.writes.put_behind.Goals as goal

pub loop-i-init : goal.loop-i-init
loop-i-init c = sym (laid_nil c.args.recording.now c.args.at)

pub loop-i-preserved : goal.loop-i-preserved
loop-i-preserved c =
    let l = c.loop-i in
    let a = c.args in
    ap (λ (r : List ℕ). set r (a.at + l.i) (get_or a.bytes.now l.i 0)) l.invariant ∙ lay_turn a.bytes.now a.recording.now a.at l.i (omega arith) (omega arith)

pub returns : goal.returns
returns c =
    let l = c.loop-i in
    let a = c.args in
    l.invariant ∙ ap (laid a.recording.now a.at) (take_all l.i a.bytes.now (omega arith))
