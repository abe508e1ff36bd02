-- `writer::parts::put_copies` meets its contract: a copy, and one behind it, and one behind both.
-- Assumes nothing.
use native.Mathlib.Omega.{arith}
use Rattle.writer.proofs.LawsParts.{copies_made}
use Rattle.writer.proofs.parts.put_copies.Goals as goal

pub returns : goal.returns
returns c =
    copies_made c.args.header.now c.args.room.now (omega arith) c.requires
    c.copy_of-copy.ensures
    c.lay.ensures.room_after
    c.lay-2.ensures.room_after
    c.lay-3.ensures.room_after
