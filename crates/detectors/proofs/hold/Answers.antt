-- `detectors::hold` meets its contract: the two numbers spell the ten bytes, but for the last 4 bits.
-- Assumes nothing.
use native.Mathlib.Omega.{arith}
use Rattle.bits.proofs.LawsBelow.{below_all}
use Rattle.detectors.proofs.LawsHeld.{held_bits}
use Rattle.detectors.proofs.hold.Goals as goal

pub returns : goal.returns
returns c =
    let status = c.args.status.now in
    (omega arith, held_bits status c.told-status (below_all 256 status c.fits-status) _ _ (omega arith) (omega arith))
