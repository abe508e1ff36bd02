-- What follows a header's plan: where it is refused its number decides before any other ground, and where it is granted the other
-- grounds do; and the words that a granted plan asks for fit its field, which is no longer than the longest.
-- Assumes nothing.
use mathlib.Core.Path.{◌≡◌, refl, sym, ap, ◌∙◌, subst}
use mathlib.Core.List.{List, ◌++◌}
use Prim.Native.Nat.{ℕ, ◌≤◌}
use borrow.Author.Tests.{ne_eqb}
use lib.Dec.{eqb}
use lib.ListN.{length}
use Rattle.ground.specs.Choice.{pick}
use Rattle.ground.specs.Grounds.{Ground, first_of}
use Rattle.ground.proofs.LawsChoice.{no}
use Rattle.ground.proofs.LawsGrounds.{first_then}
use Rattle.row.specs.Promises.{longest_field, Held}
use Rattle.copies.specs.Copies.{header_length}
use Rattle.header.specs.Says.{size_in, words_in, bytes_in}
use Rattle.header.specs.Plans.{plan_grounds, plan_of, granted_plan, PlanAnswer}
use Rattle.header.proofs.KeepsHeader.{plan_number, plan_granted, granted_held, plan_short, grants_asked}

module _ (h : List ℕ) {p : PlanAnswer} (e : p ≡ plan_of h) where
  number_is : p.number ≡ (plan_of h).number
  number_is = ap (λ (q : PlanAnswer). q.number) e

  -- so that the length of its block does not overflow
  pub plan_brief : p.bytes ≤ longest_field
  plan_brief = subst (λ (q : PlanAnswer). q.bytes ≤ longest_field) (sym e) (plan_short h)

  module _ (gs : List Ground) where
    plan_then : first_of (plan_grounds h ++ gs) ≡ pick (eqb p.number 0) (first_of gs) p.number
    plan_then = first_then (plan_grounds h) gs refl ∙ ap (λ (n : ℕ). pick (eqb n 0) (first_of gs) n) (sym (plan_number h) ∙ sym number_is)

    pub header_decides : (p.number ≡ 0 → ⊥) → first_of (plan_grounds h ++ gs) ≡ p.number
    header_decides f = plan_then ∙ sym (no _ refl (ne_eqb p.number 0 f) refl)

    pub others_decide : p.number ≡ 0 → first_of (plan_grounds h ++ gs) ≡ first_of gs
    others_decide z = plan_then ∙ ap (λ (n : ℕ). pick (eqb n 0) (first_of gs) n) z

  module _ (z : p.number ≡ 0) where
    pub plan_is : p ≡ granted_plan h
    plan_is = e ∙ plan_granted h (sym (plan_number h) ∙ sym number_is ∙ z)

    pub plan_long : length h ≡ header_length
    plan_long = (grants_asked.only h (sym number_is ∙ z)).0

    pub plan_held : Held (size_in h) (words_in h) (bytes_in h)
    plan_held = granted_held h (sym number_is ∙ z)
