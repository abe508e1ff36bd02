-- `calendar::leaps::listed_before` counts in the first 64 days, which are the whole list where it is no longer.
-- Assumes nothing.
use mathlib.Core.Path.{◌≡◌, ap, ◌∙◌}
use Prim.Native.Nat.{ℕ}
use native.Mathlib.Omega.{arith}
use lib.ListN.{length, take}
use Rattle.std.proofs.lemmas.List.{take_min, length-take}
use Rattle.calendar.specs.Leaps.{listed_before}
use Rattle.calendar.proofs.leaps.listed_before.Goals as goal

pub returns : goal.returns
returns c =
    let leaps = c.args.leaps.now in
    let count = c.count_before.ensures in
    let first : take c.min-first.result leaps ≡ take 64 leaps = ap (λ (n : ℕ). take n leaps) c.min-first.ensures ∙ take_min 64 leaps in
    (count.0 ∙ (λ i. listed_before (first i) (c.number_of.ensures i)), omega (arith, count.1, ap length first, length-take 64 leaps))
