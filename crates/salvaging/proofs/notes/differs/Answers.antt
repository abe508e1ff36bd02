-- `differs` is 0 or 1, by the library's comparison.
-- Assumes nothing.
use mathlib.Core.Path.{ap₂, ◌∙◌}
use native.Mathlib.Omega.{arith}
use Rattle.copies.specs.Copies.{same_as}
use Rattle.copies.proofs.LawsSame.{slices_same}
use Rattle.salvaging.proofs.LawsNotes.{same_0, differ_1}
use Rattle.salvaging.proofs.notes.differs.Goals as goal

pub returns-then-eq : goal.returns-then-eq
returns-then-eq c = let a = c.args in record { value = same_0 a.one a.copy a.rest.now (c.eq.ensures ∙ slices_same _ _ ∙ ap₂ same_as c.copy_at.ensures c.copy_at-2.ensures) c.if-eq.true; upper_bound = omega arith }

pub returns : goal.returns
returns c = let a = c.args in record { value = differ_1 a.one a.copy a.rest.now (c.eq.ensures ∙ slices_same _ _ ∙ ap₂ same_as c.copy_at.ensures c.copy_at-2.ensures) c.if-eq.false; upper_bound = omega arith }
