-- `tag::digits::bytes_of` lays the digits of a tag two to a byte: each byte is the definition's.
-- Assumes nothing.
use mathlib.Core.Path.{ap, ◌∙◌}
use mathlib.Core.List.{[], ◌∷◌}
use Prim.Native.Nat.{ℕ, ◌+◌}
use Rattle.ground.specs.Choice.{pick}
use Rattle.tag.proofs.LawsTags.{spells_out}
use Rattle.tag.proofs.digits.bytes_of.Goals as goal

pub returns : goal.returns
returns c =
    let t = c.args.tag in
    (λ i.
    c.packed-a.ensures i ∷ c.packed-b.ensures i ∷ (c.with_mark-c.ensures ∙ ap (λ (n : ℕ). pick t.flywheel 128 0 + n) c.packed.ensures) i
    ∷ c.joined-d.ensures i ∷ c.joined-e.ensures i ∷ c.joined-f.ensures i ∷ c.joined-g.ensures i ∷ c.packed-h.ensures i ∷ [])
    ∙ spells_out t
