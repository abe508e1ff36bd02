-- `watch_bounds::bad_fill` compares the set with 1 moved up to the bounding block, which is 10 at most, so that no bit is lost.
-- Assumes nothing.
use mathlib.Core.Path.{sym, ap, ◌∙◌, subst}
use Prim.Native.Nat.{ℕ, ◌*◌, ◌%◌, ◌^◌, ◌≤◌}
use native.Mathlib.Omega.{arith}
use mathlib.Core.Bool.{not}
use lib.Dec.{ltb}
use Rattle.watch_bounds.proofs.LawsBounds.{bounding_to_ten}
use Rattle.watch_bounds.proofs.LawsSets.{moved}
use Rattle.watch_bounds.proofs.bad_fill.Goals as goal

pub overflow_shl-result : goal.overflow_shl-result
overflow_shl-result c =
    let ten : c.bounding.result ≤ 10 = subst (λ (k : ℕ). k ≤ 10) (sym c.bounding.ensures) (bounding_to_ten c.args.w c.requires) in
    omega arith

pub returns : goal.returns
returns c =
    let w = c.args.w in
    ap (λ (k : ℕ). not (ltb w.fill ((1 * 2 ^ k) % 2 ^ 32))) c.bounding.ensures ∙ ap (λ (m : ℕ). not (ltb w.fill m)) (moved _ (bounding_to_ten w c.requires))
