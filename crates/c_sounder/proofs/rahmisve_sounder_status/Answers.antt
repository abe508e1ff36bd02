-- `rahmisve_sounder_status` gives what judging the block does, in rows.
-- Assumes nothing.
use mathlib.Core.Path.{sym, ap, ◌∙◌}
use mathlib.Core.List.{map}
use Rattle.std.proofs.lemmas.Simd.{map-map}
use Rattle.tag.specs.Tags.{told_tag}
use Rattle.sounder.specs.Judging.{StatusAnswer}
use Rattle.c_sounder.specs.Rows.{row_of}
use Rattle.c_sounder.proofs.rahmisve_sounder_status.Goals as goal

pub returns-in-Ok-clause-tags_after : goal.returns-in-Ok-clause-tags_after
returns-in-Ok-clause-tags_after c =
    c.rows_of.ensures ∙ sym (map-map row_of told_tag c.in-Ok.judged.tags) ∙ ap (λ (s : StatusAnswer). map row_of s.tags) c.in-Ok.ensures
