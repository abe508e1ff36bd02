-- `bits::fill::zero_from` meets its contract: the bits of the bytes joined are zero where those of each byte are.
-- Assumes nothing.
use mathlib.Core.Path.{◌∙◌, ap}
use Prim.Native.Nat.{ℕ}
use lib.Dec.{eqb}
use lib.ListN.{drop}
use Rattle.std.specs.Prelude.{fold, bit_or}
use Rattle.bits.proofs.LawsBelow.{below_all, below_drop}
use Rattle.bits.proofs.LawsElements.{to_end}
use Rattle.bits.proofs.LawsFill.{zero_joined}
use Rattle.bits.proofs.fill.zero_from.Goals as goal

pub returns : goal.returns
returns c =
    let field = c.args.field.now in
    let behind = drop c.args.start field in
    ap (λ (n : ℕ). eqb n 0) (c.joined.ensures ∙ ap (fold bit_or 0) (to_end c.args.start field))
    ∙ zero_joined 0 behind (below_drop 256 c.args.start field (below_all 256 field (λ k. (c.type_inv.field k).fits)))
