-- `c_tags::rahmisve_write_tag` meets its contract: the bytes of the tag that the numbers make, or zeros.
-- Assumes nothing.
use mathlib.Core.Path.{ap, ◌∙◌}
use Rattle.tag.specs.Tags.{TagBytes, write_tag}
use Rattle.c_tags.proofs.rahmisve_write_tag.Goals as goal

pub returns-in-Ok : goal.returns-in-Ok
returns-in-Ok c = let e = c.in-Ok.ensures ∙ ap (write_tag _) c.tag_of-numbers.ensures in record { value = ap (λ (w : TagBytes). w.number) e; tag_after = ap (λ (w : TagBytes). w.bytes) e }

pub returns-in-Err : goal.returns-in-Err
returns-in-Err c = let e = c.in-Err.ensures ∙ ap (write_tag _) c.tag_of-numbers.ensures in record { value = c.number.ensures ∙ ap (λ (w : TagBytes). w.number) e; tag_after = ap (λ (w : TagBytes). w.bytes) e }
