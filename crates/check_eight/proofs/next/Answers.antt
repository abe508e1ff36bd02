-- `check_eight::next` meets its contract, by the law of one byte more.
-- Assumes nothing.
use mathlib.Core.Path.{sym}
use Prim.Native.Nat.{◌/◌}
use native.Mathlib.Omega.{arith}
use lib.Bits.{xor_lt}
use Rattle.check_eight.proofs.LawsEight.{feed_byte}
use Rattle.check_eight.proofs.next.Goals as goal

pub returns : goal.returns
returns c =
    let a = c.args in
    sym (feed_byte a.r a.b (omega arith) (xor_lt 8 (a.r / 256) a.b (omega arith) (omega arith)))
