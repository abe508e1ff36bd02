-- `permits` goes by whether the row is of a scan, as its definition does.
-- Assumes nothing.
use mathlib.Core.Path.{refl, ap, ◌∙◌}
use borrow.Author.Tests.{eq-eqb, ne_eqb}
use Rattle.ground.proofs.LawsChoice.{yes, no}
use Rattle.row.specs.Pixels.{is_scan}
use Rattle.row.specs.Rows.{permits}
use Rattle.row.proofs.permits.Goals as goal

pub returns-then-row-eq0 : goal.returns-then-row-eq0
unfolding permits
returns-then-row-eq0 c = yes _ refl (eq-eqb _ 0 c.if-row-eq0.true) refl

pub returns : goal.returns
unfolding permits
returns c = no _ refl (ne_eqb _ 0 c.if-row-eq0.false) (c.is_scan.ensures ∙ ap is_scan c.scan_of.ensures)
