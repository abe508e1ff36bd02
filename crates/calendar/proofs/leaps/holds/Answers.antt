-- `calendar::leaps::holds` folds the list by `or`.
-- Assumes nothing.
use mathlib.Core.Path.{◌≡◌, ◌∙◌}
use mathlib.Core.Bool.{Bool, false, ◌||◌}
use mathlib.Core.List.{foldl}
use Prim.Native.Nat.{ℕ}
use lib.Dec.{eqb}
use Rattle.std.proofs.lemmas.Grind.{common_steps}
use native.Mathlib.Omega.{arith}
use Rattle.calendar.proofs.LawsLeaps.{find_all}
use Rattle.calendar.proofs.leaps.holds.Goals as goal

pub returns : goal.returns
returns c =
    let n = c.args.number in
    let found : c.fold.result ≡ foldl (λ (t : Bool) (d : ℕ). t || eqb d n) false c.args.leaps.now = grind (arith, common_steps) in
    found ∙ find_all n false c.args.leaps.now
