-- `c_sounder::rows_of` meets its contract: so many rows are filled so far.
-- Assumes nothing.
use Rattle.std.specs.Prelude.{Ok, Result}
use Rattle.ground.specs.declared.Refusal.{Refusal}
use Rattle.ground.proofs.LawsFilling.{Filling}
use Rattle.tag.specs.Tags.{told_tag, zero_tag}
use Rattle.tag.specs.declared.Tag.{Tag}
use Rattle.c_sounder.specs.Rows.{row_of}
use Rattle.c_sounder.proofs.rows_of.Given as goal

abbrev pub none : Result Tag Refusal
none = Ok zero_tag

abbrev pub invariant-loop-i : goal.invariant-loop-i
invariant-loop-i l = Filling (λ read. row_of (told_tag read)) none l.tags l.rows l.i
