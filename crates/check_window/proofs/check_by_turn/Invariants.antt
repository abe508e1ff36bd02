-- `check_window::check_by_turn` meets its contract: the window stands for the register behind the turns so far, then behind the fours.
-- Assumes nothing.
use Prim.Native.Nat.{◌+◌, ◌*◌, ◌/◌}
use lib.ListN.{length}
use Rattle.check_window.proofs.LawsTurn.{Holds}
use Rattle.check_window.proofs.check_by_turn.Given as goal

abbrev pub invariant-loop-bytes : goal.invariant-loop-bytes
invariant-loop-bytes l = Holds l.message (l.bytes-index * 128) l.w

abbrev pub invariant-loop-bytes-2 : goal.invariant-loop-bytes-2
invariant-loop-bytes-2 l = Holds l.message (length l.message / 128 * 128 + l.bytes-index * 32) l.w
