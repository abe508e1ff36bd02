-- `put_copy` lays thirty bytes that lie one behind the other.
-- Assumes nothing.
use mathlib.Core.Path.{ap, ◌∙◌}
use native.Mathlib.Omega.{arith}
use Rattle.room.specs.Laid.{laid_inside}
use Rattle.room.proofs.LawsLaid.{laid_inside_is}
use Rattle.copies.specs.Copies.{copy_at}
use Rattle.copies.proofs.LawsAgreed.{copy_long}
use Rattle.salvaging.proofs.writes.put_copy.Goals as goal

pub returns : goal.returns
returns c =
    let a = c.args in
    let l = copy_long a.rest.now c.requires.copy_bound.1 a.copy c.requires.copy_bound.0 in
    c.lay.ensures.room_after
    ∙ ap (laid_inside a.recording.now a.at) c.copy_at.ensures
    ∙ laid_inside_is a.recording.now a.at (copy_at a.copy a.rest.now) (omega (arith, c.requires.copy_length_in_bounds, l))
