-- `put_block` lays a front, three times the copy, and what lies behind the copies.
-- Assumes nothing.
use mathlib.Core.Path.{refl}
use native.Mathlib.Omega.{arith}
use Rattle.salvaging.proofs.LawsWrites.{block_put}
use Rattle.salvaging.proofs.writes.put_block.Goals as goal

pub overflow_add-result : goal.overflow_add-result
overflow_add-result c = omega (arith, c.well_formed, c.requires.bytes_in_bounds)

pub returns : goal.returns
returns c =
    let p = c.requires.copy_bound in record {
      value = refl;
      recording_after = block_put c.args.copy c.args.bytes c.args.rest.now p.0 p.1 p.2 c.args.recording.now c.args.at c.requires.bytes_in_bounds
          c.front_of-front.ensures
          c.lay.ensures.room_after c.put_copy.ensures c.put_copy-2.ensures c.put_copy-3.ensures c.put_behind.ensures;
    }
