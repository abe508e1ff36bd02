-- `writer::parts::put_check` meets its contract: the check word of the field as it stands, behind it.
-- Assumes nothing.
use mathlib.Core.Path.{ap, ◌∙◌}
use Prim.Native.Nat.{◌-◌}
use lib.ListN.{take, drop}
use Rattle.check_rule.specs.Check.{check_word, bytes_of}
use Rattle.room.specs.Laid.{laid_inside}
use Rattle.room.proofs.LawsLaid.{laid_inside_is}
use Rattle.writer.proofs.parts.put_check.Goals as goal

pub returns : goal.returns
returns c =
    let room = c.args.room.now in
    c.lay.ensures.room_after ∙ ap (laid_inside room c.args.end) c.check_bytes-check.ensures ∙ laid_inside_is room c.args.end (bytes_of (check_word (take (c.args.end - 90) (drop 90 room)))) c.requires.1
