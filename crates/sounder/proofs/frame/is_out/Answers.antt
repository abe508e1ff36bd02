-- `sounder::frame::is_out` meets its contract.
-- Assumes nothing.
use mathlib.Core.Path.{ap}
use mathlib.Core.Bool.{Bool, ◌&&◌, ◌||◌}
use lib.Dec.{eqb, ltb}
use lib.ListN.{get_or}
use Rattle.sounder.specs.Frame.{western, eastern}
use Rattle.sounder.proofs.frame.is_out.Goals as goal

pub returns : goal.returns
returns c =
    let a = c.args in
    ap (λ (t : Bool). t || (eqb a.i eastern && ltb (get_or a.frame eastern 0) (get_or a.frame western 0))) c.is_outside.ensures
