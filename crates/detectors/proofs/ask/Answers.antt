-- `detectors::ask` meets its contract: the bit of a detector that there is, and 13 for one that there is not.
-- Assumes nothing.
use mathlib.Core.Path.{refl, sym, ap, ap₂, ◌∙◌}
use mathlib.Core.Bool.{Bool}
use mathlib.Core.List.{List}
use Prim.Native.Nat.{ℕ}
use lib.Dec.{eqb}
use lib.ListN.{get_or}
use Rattle.ground.proofs.LawsChoice.{yes, no}
use Rattle.detectors.specs.Status.{Asked, asked_of}
use Rattle.detectors.proofs.ask.Goals as goal

pub returns-then-not-is_inside : goal.returns-then-not-is_inside
unfolding asked_of
returns-then-not-is_inside c = no _ c.is_inside.ensures c.if-not-is_inside.true refl

pub bits_before-requires : goal.bits_before-requires
bits_before-requires c = sym c.is_inside.ensures ∙ c.if-not-is_inside.false

pub returns : goal.returns
unfolding asked_of
returns c =
    yes _ c.is_inside.ensures c.if-not-is_inside.false
    (ap {B = Asked} (λ (t : Bool). record { number = 0; suspect = t })
    (c.bit_in.ensures ∙ ap₂ (λ (bs : List ℕ) (i : ℕ). eqb (get_or bs i 0) 1) (sym c.hold.ensures.1) c.bits_before.ensures.0))
