-- `detectors::bit_in` meets its contract: a shift brings the bit to the end.
-- Assumes nothing.
use mathlib.Core.Path.{sym, ap}
use Prim.Native.Nat.{ℕ}
use lib.Dec.{eqb}
use Rattle.detectors.proofs.LawsHeld.{bit_high, bit_low}
use Rattle.detectors.proofs.bit_in.Goals as goal

pub returns-then-i-lt64 : goal.returns-then-i-lt64
returns-then-i-lt64 c =
    let a = c.args in
    ap (λ (b : ℕ). eqb b 1) (sym (bit_high a.held.high a.held.low a.i c.if-i-lt64.true))

pub returns : goal.returns
returns c =
    let a = c.args in
    ap (λ (b : ℕ). eqb b 1) (sym (bit_low a.held.high a.held.low a.i c.if-i-lt64.false c.requires))
