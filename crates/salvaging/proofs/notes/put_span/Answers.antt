-- `put_span` puts an entry where the span is not empty.
-- Assumes nothing.
use Prim.Native.Nat.{◌+◌, ◌*◌}
use mathlib.Core.Path.{sym, ap, ◌∙◌}
use mathlib.Core.List.{List}
use native.Mathlib.Omega.{arith}
use lib.ListN.{length}
use Rattle.room.specs.Laid.{laid}
use Rattle.room.proofs.LawsLaid.{laid_nil}
use Rattle.salvaging.specs.Pieces.{Piece}
use Rattle.salvaging.proofs.LawsNotes.{gap_some, gap_none, entry_some, entry_none}
use Rattle.salvaging.proofs.notes.put_span.Goals as goal

pub returns-then-from-to : goal.returns-then-from-to
returns-then-from-to c =
    let a = c.args in
    let h = c.if-from-to.true in record { value = c.put.ensures.value ∙ ap (λ (l : List Piece). a.entries + length l) (sym (gap_some a.from a.to h)); report_after = c.put.ensures.report_after ∙ ap (laid a.report.now (a.entries * 3)) (sym (entry_some a.from a.to h)) }

pub returns : goal.returns
returns c =
    let a = c.args in
    let h = c.if-from-to.false in record { value = omega (arith, ap length (gap_none a.from a.to h)); report_after = sym (laid_nil a.report.now (a.entries * 3)) ∙ ap (laid a.report.now (a.entries * 3)) (sym (entry_none a.from a.to h)) }
