-- `tag::write_tag` tests the list, then the bounds, as the definition does.
-- Assumes nothing.
use mathlib.Core.Path.{refl, ap, sym, ◌∙◌}
use mathlib.Core.Bool.{not}
use mathlib.Core.List.{List}
use Prim.Native.Nat.{ℕ}
use Rattle.ground.proofs.LawsChoice.{yes, no}
use Rattle.tag.specs.Tags.{write_tag}
use Rattle.tag.proofs.LawsTags.{written}
use Rattle.tag.proofs.LawsBounds.{day_below}
use Rattle.tag.proofs.write_tag.Goals as goal

pub returns-then-not-is_good_list : goal.returns-then-not-is_good_list
unfolding write_tag
returns-then-not-is_good_list c = yes _ (ap not c.is_good_list.ensures) (ap not c.if-not-is_good_list.true) refl

pub returns-then-not-in_bounds : goal.returns-then-not-in_bounds
unfolding write_tag
returns-then-not-in_bounds c =
    no _ (ap not c.is_good_list.ensures) (ap not c.if-not-is_good_list.false)
    (yes _ (ap not c.in_bounds.ensures) (ap not c.if-not-in_bounds.true) refl)

pub bytes_of-requires : goal.bytes_of-requires
bytes_of-requires c =
    let a = c.args in
    day_below a.leaps.now a.tag (sym c.in_bounds.ensures ∙ c.if-not-in_bounds.false)

pub returns : goal.returns
unfolding write_tag
returns c =
    no _ (ap not c.is_good_list.ensures) (ap not c.if-not-is_good_list.false)
    (no _ (ap not c.in_bounds.ensures) (ap not c.if-not-in_bounds.false) (ap (λ (s : List ℕ). written 0 s) c.bytes_of.ensures))
