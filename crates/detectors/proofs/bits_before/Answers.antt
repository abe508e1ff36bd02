-- `detectors::bits_before` meets its contract: of a detector that there is, nothing goes below 0 and the sum stays below 76.
-- Assumes nothing.
use mathlib.Core.Path.{refl}
use native.Mathlib.Omega.{arith}
use Rattle.detectors.proofs.LawsInside.{within}
use Rattle.detectors.proofs.bits_before.Goals as goal

pub overflow_sub-result : goal.overflow_sub-result
overflow_sub-result c = let w = within c.args.channel c.args.detector c.requires in omega (arith, w.0, w.2)

pub overflow_mul-result : goal.overflow_mul-result
overflow_mul-result c = let w = within c.args.channel c.args.detector c.requires in omega (arith, w.1, w.3)

pub overflow_sub-result-2 : goal.overflow_sub-result-2
overflow_sub-result-2 c = let w = within c.args.channel c.args.detector c.requires in omega (arith, w.0, w.2)

pub overflow_add-result : goal.overflow_add-result
overflow_add-result c = let w = within c.args.channel c.args.detector c.requires in omega (arith, w.1, w.3)

pub returns : goal.returns
returns c = let w = within c.args.channel c.args.detector c.requires in (refl, omega (arith, w.1, w.3))
