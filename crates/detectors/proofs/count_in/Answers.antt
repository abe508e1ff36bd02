-- `detectors::count_in` meets its contract: `count_ones` counts the bits of each number.
-- Assumes nothing.
use mathlib.Core.Path.{sym}
use native.Mathlib.Omega.{arith}
use lib.Count.{ones-le}
use Rattle.detectors.proofs.LawsHeld.{set_two}
use Rattle.detectors.proofs.count_in.Goals as goal

pub overflow_add-result : goal.overflow_add-result
overflow_add-result c =
    let held = c.args.held in
    omega (arith, ones-le 64 held.high (omega arith), ones-le 64 held.low (omega arith))

pub returns : goal.returns
returns c = let held = c.args.held in sym (set_two held.high held.low (omega arith) c.requires)
