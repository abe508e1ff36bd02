-- `check_eight::check_from` meets its contract: the word stands for the register behind the eights so far, then the register for the bytes
-- behind them.
-- Assumes nothing.
use mathlib.Core.Path.{◌≡◌}
use Prim.Native.Nat.{◌*◌}
use lib.ListN.{take}
use Rattle.bits.specs.Bits.{sent}
use Rattle.check_rule.specs.Check.{generator, feed}
use Rattle.check_eight.specs.Eight.{after, Stands}
use Rattle.check_eight.proofs.check_from.Given as goal

abbrev pub invariant-loop-eight : goal.invariant-loop-eight
invariant-loop-eight l = Stands (after 0 64 l.t) l.rest (l.eight-index * 8) l.w

abbrev pub invariant-loop-byte : goal.invariant-loop-byte
invariant-loop-byte l = l.r ≡ feed generator (after 0 64 l.w) (sent (take l.byte-index l.tail))
