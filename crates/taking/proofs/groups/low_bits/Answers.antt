-- `taking::groups::low_bits` meets its contract: the mask keeps the low bits of each half.
-- Assumes nothing.
use native.Mathlib.Omega.{arith}
use lib.Pow.{pow_pos, pow_mono}
use Rattle.bits.proofs.LawsTurns.{one_shl}
use Rattle.taking.proofs.LawsFours.{low_bits_is}
use Rattle.taking.proofs.groups.low_bits.Goals as goal

pub overflow_sub-low : goal.overflow_sub-low
overflow_sub-low c = rw (one_shl 64 c.args.size (omega arith)) (pow_pos c.args.size)

pub overflow_mul-result : goal.overflow_mul-result
overflow_mul-result c = rw (one_shl 64 c.args.size (omega arith)) (omega (arith, pow_mono {i = c.args.size} {j = 16} c.requires))

pub returns : goal.returns
returns c = rw (one_shl 64 c.args.size (omega arith)) (low_bits_is c.args.size c.args.x c.requires)
