-- `copy_at` cuts out thirty bytes.
-- Assumes nothing.
use Prim.Native.Nat.{◌*◌}
use Rattle.copies.specs.Copies.{copy_length}
use Rattle.made.proofs.LawsMade.{part_is}
use Rattle.salvaging.proofs.copy_at.Goals as goal

pub returns : goal.returns
returns c = part_is (c.args.copy * copy_length) copy_length c.args.rest.now
