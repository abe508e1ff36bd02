-- `detectors::suspects_of` meets its contract: what is counted of the two numbers is so of the detectors' bits.
-- Assumes nothing.
use mathlib.Core.Path.{ap, sym, ◌∙◌}
use Rattle.detectors.specs.Status.{set_in, before_set, place_at, suspects_of}
use Rattle.detectors.proofs.suspects_of.Goals as goal

pub returns : goal.returns
unfolding suspects_of
returns c =
    let same = sym c.hold-held.ensures.1 in
    λ i. record { count = (c.count_in.ensures ∙ ap set_in same) i; first = (c.first_in.ensures ∙ ap (λ bs. place_at (before_set bs)) same) i }
