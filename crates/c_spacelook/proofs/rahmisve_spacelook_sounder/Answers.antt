-- `c_spacelook::rahmisve_spacelook_sounder` meets its contract: what the library found, as its numbers.
-- Assumes nothing.
use mathlib.Core.Path.{ap, ◌∙◌}
use Rattle.spacelook.specs.Answers.{answer_in, case_in, value_in}
use Rattle.c_spacelook.proofs.rahmisve_spacelook_sounder.Goals as goal

pub returns : goal.returns
returns c =
    let e = c.read-found.ensures in
    let t = c.tell.ensures in
    record { value = t.value ∙ ap answer_in e; reading_after = t.reading_after ∙ ap case_in e; number_after = t.number_after ∙ ap value_in e }
