-- How the code's tables are read: what an entry says.
-- Assumes nothing.
use Rattle.std.specs.Prelude.{eqb}
use Rattle.ground.specs.Choice.{pick}
use Rattle.placement.specs.declared.Held.{Held}
use Rattle.placement.specs.Placement.{PlacedAnswer}
use Rattle.placement.specs.Placement.{accepted, refused_by}

-- 0/0 is no record, and no channel is 0
unfoldable pub named_by : Held → PlacedAnswer
named_by h = pick (eqb h.0 0) (refused_by 13) (accepted h)
