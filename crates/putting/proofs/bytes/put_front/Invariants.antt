-- `putting::bytes::put_front` meets its contract: the words passed stand at the front of the field.
-- Assumes nothing.
use mathlib.Core.Path.{◌≡◌}
use lib.ListN.{take}
use Rattle.room.specs.Laid.{laid}
use Rattle.putting.proofs.bytes.put_front.Given as goal

abbrev pub invariant-loop-i : goal.invariant-loop-i
invariant-loop-i l = l.field ≡ laid l.initial.field 0 (take l.i l.words)
