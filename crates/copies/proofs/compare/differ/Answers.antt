-- `differ` joins its tests as its definition does.
-- Assumes nothing.
use mathlib.Core.Path.{ap, ◌∙◌}
use mathlib.Core.Bool.{Bool, not, ◌&&◌}
use Rattle.copies.proofs.LawsSame.{slices_same}
use Rattle.copies.proofs.compare.differ.Goals as goal

pub returns : goal.returns
returns c = let a = c.args in ap (λ (t : Bool). a.p && (a.q && t)) (c.ne.ensures ∙ ap not (slices_same a.a a.b))
