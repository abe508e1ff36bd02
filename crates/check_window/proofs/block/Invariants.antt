-- `check_window::block` meets its contract: the words so far, eight bytes apart.
-- Assumes nothing.
use mathlib.Core.Path.{◌≡◌}
use mathlib.Core.List.{[]}
use Prim.Native.Nat.{ℕ, ◌<◌}
use lib.ListN.{length, get_or}
use Rattle.check_eight.specs.Eight.{big}
use Rattle.check_window.specs.Turn.{mirror}
use Rattle.check_window.proofs.block.Given as goal

abbrev pub invariant-loop-i : goal.invariant-loop-i
invariant-loop-i l = (length l.w ≡ 16) × ((k : ℕ) → k < l.i → mirror (get_or l.w k 0) ≡ big (get_or l.words k []))
