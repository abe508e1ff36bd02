-- `taking::bytes::take_bytes` meets its contract: the bytes passed stand at the front of the room.
-- Assumes nothing.
use mathlib.Core.Path.{◌≡◌}
use lib.ListN.{take}
use Rattle.room.specs.Laid.{laid}
use Rattle.bits.specs.Bits.{Below}
use Rattle.taking.proofs.bytes.take_bytes.Given as goal

abbrev pub invariant-loop-i : goal.invariant-loop-i
invariant-loop-i l = (l.room ≡ laid l.initial.room 0 (take l.i l.field)) × Below 256 (take l.i l.field)
