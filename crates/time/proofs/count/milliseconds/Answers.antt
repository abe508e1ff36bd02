-- `time::count::milliseconds` adds a second for each listed day before; no sum is too large.
-- Assumes nothing.
use native.Mathlib.Omega.{arith}
use Rattle.time.specs.Times.{time_of}
use Rattle.time.proofs.count.milliseconds.Goals as goal

pub overflow_mul-result : goal.overflow_mul-result
overflow_mul-result c = omega (arith, c.listed_before-leap_seconds.ensures.1)

pub overflow_add-result : goal.overflow_add-result
overflow_add-result c = omega (arith, c.listed_before-leap_seconds.ensures.1, c.counted-count.ensures.1)

pub returns : goal.returns
unfolding time_of
returns c = (omega (arith, c.listed_before-leap_seconds.ensures.0, c.counted-count.ensures.0), omega (arith, c.listed_before-leap_seconds.ensures.1, c.counted-count.ensures.1))
