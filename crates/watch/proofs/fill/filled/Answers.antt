-- `watch::fill::filled` adds the block's bit where its word says fill: 1 moved up by the block's number, which is above the set, so that
-- the sum has room.
-- Assumes nothing.
use mathlib.Core.Path.{refl, sym, ap, subst}
use Prim.Native.Nat.{ℕ, suc, ◌+◌, ◌^◌, ◌<◌, ◌≤◌}
use native.Mathlib.Nat.{lt_of_lt_of_le}
use native.Mathlib.Omega.{arith}
use lib.Pow.{pow_mono}
use mir.Syntax.{w32}
use mir.Val.{Fits}
use Rattle.ground.proofs.LawsChoice.{yes, no}
use Rattle.watch_bounds.proofs.LawsSets.{moved, grown}
use Rattle.watch.specs.Fills.{filled}
use Rattle.watch.proofs.fill.filled.Goals as goal

has_room : (set b : ℕ) → set < 2 ^ b → b ≤ 10 → set + 2 ^ b < 2 ^ 32
has_room set b h k = lt_of_lt_of_le (grown set b h) (pow_mono {i = suc b} {j = 32} (omega arith))

pub overflow_add-result : goal.overflow_add-result
overflow_add-result c =
    let a = c.args in
    subst (λ (n : ℕ). Fits w32 (a.set + n)) (sym (moved a.block c.requires.1)) (record { fits = has_room a.set a.block c.requires.0 c.requires.1 })

pub returns-then-is_fill : goal.returns-then-is_fill
unfolding filled
returns-then-is_fill c = yes _ c.is_fill.ensures c.if-is_fill.true (ap (λ (n : ℕ). c.args.set + n) (moved c.args.block c.requires.1))

pub returns : goal.returns
unfolding filled
returns c = no _ c.is_fill.ensures c.if-is_fill.false refl
