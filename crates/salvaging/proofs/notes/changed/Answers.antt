-- `changed` adds up its three calls.
-- Assumes nothing.
use Prim.Native.Nat.{◌+◌, ◌*◌}
use Rattle.salvaging.specs.Pieces.{changed_by}
use Rattle.salvaging.proofs.notes.changed.Goals as goal

pub returns : goal.returns
unfolding changed_by
returns c = λ i. c.differs.ensures.value i + c.differs-2.ensures.value i * 2 + c.differs-3.ensures.value i * 4
