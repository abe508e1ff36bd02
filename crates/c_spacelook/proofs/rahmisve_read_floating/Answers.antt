-- `c_spacelook::rahmisve_read_floating` meets its contract: the case and the value of what the library reads.
-- Assumes nothing.
use mathlib.Core.Path.{ap, ◌∙◌}
use Rattle.floating.specs.Cases.{case_of, value_of}
use Rattle.c_spacelook.proofs.rahmisve_read_floating.Goals as goal

pub returns : goal.returns
returns c = record { value = c.case_of.ensures ∙ ap case_of c.read-reading.ensures; number_after = c.value_of.ensures ∙ ap value_of c.read-reading.ensures }
