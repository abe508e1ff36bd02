-- `front` copies the first bytes of a copy, which has more.
-- Assumes nothing.
use mathlib.Core.Path.{sym}
use native.Mathlib.Omega.{arith}
use lib.Seq.{length-take-le}
use Rattle.copies.specs.Copies.{header_length}
use Rattle.copies.proofs.compare.front.Goals as goal

pub slice_bounds-copy_from_slice-end-2 : goal.slice_bounds-copy_from_slice-end-2
slice_bounds-copy_from_slice-end-2 c = sym (length-take-le header_length c.args.copy (omega (arith, c.well_formed.0.1.0.1)))

pub copy_from_slice-requires : goal.copy_from_slice-requires
copy_from_slice-requires c = sym (length-take-le header_length c.args.copy (omega (arith, c.well_formed.0.1.0.1)))
