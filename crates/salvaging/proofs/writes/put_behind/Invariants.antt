-- `put_behind` meets its contract: after i turns the first i bytes are laid.
-- Assumes nothing.
use mathlib.Core.Path.{◌≡◌}
use lib.ListN.{take}
use Rattle.room.specs.Laid.{laid}
use Rattle.salvaging.proofs.writes.put_behind.Given as goal

abbrev pub invariant-loop-i : goal.invariant-loop-i
invariant-loop-i l = l.recording ≡ laid l.initial.recording l.at (take l.i l.bytes)
