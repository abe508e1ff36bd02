-- `check_eight::word_behind` meets its contract: a word more behind what stands so far.
-- Assumes nothing.
use mathlib.Core.Path.{ap}
use Prim.Native.Nat.{ℕ}
use lib.Bits.{bit_xor}
use Rattle.check_eight.specs.Eight.{joined}
use Rattle.check_eight.proofs.word_behind.Goals as goal

pub returns : goal.returns
unfolding joined
returns c = ap (λ (x : ℕ). bit_xor x c.args.w) c.fold.ensures
