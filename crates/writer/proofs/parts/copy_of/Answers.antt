-- `writer::parts::copy_of` meets its contract: the header, then its check behind it, fill the thirty bytes.
-- Assumes nothing.
use native.Mathlib.Omega.{arith}
use Rattle.writer.proofs.LawsParts.{copy_made}
use Rattle.writer.proofs.parts.copy_of.Goals as goal

pub returns : goal.returns
returns c =
    copy_made c.args.header.now
    (omega arith)
    c.lay.ensures.room_after
    c.lay-2.ensures.room_after
    c.check_bytes-check.ensures
