-- `field_bits` gives the field's length: each return picks one side of its test, and the last one the larger of two numbers.
-- Assumes nothing.
use Rattle.std.proofs.Common.{rules}
use mathlib.Core.Path.{◌≡◌, refl, sym, ap, ap₂, ◌∙◌}
use mathlib.Core.Bool.{true, false, ◌||◌}
use mathlib.Core.Logic.{◌⊎◌, inl, inr}
use Prim.Native.Nat.{ℕ, ◌*◌, max}
use native.Mathlib.Omega.{arith}
use lib.Dec.{eqb}
use borrow.Author.Tests.{ne_eqb}
use Rattle.ground.proofs.LawsChoice.{yes, no}
use Rattle.row.specs.Field.{up_to16, field_bits}
use Rattle.row.proofs.field_bits.Goals as goal
use Rattle.row.proofs.field_bits.Goals.{in-0, in_default}

-- the definition's test of the two blocks with a fixed field
fixed : (b : ℕ) → (b ≡ 0) ⊎ (b ≡ 11) → (eqb b 0 || eqb b 11) ≡ true
fixed b (inl e) = ap (λ (k : ℕ). eqb k 0 || eqb k 11) e
fixed b (inr e) = ap (λ (k : ℕ). eqb k 0 || eqb k 11) e

grows : (b : ℕ) → ((b ≡ 0) ⊎ (b ≡ 11) → ⊥) → (eqb b 0 || eqb b 11) ≡ false
grows b h = ap₂ ◌||◌ (ne_eqb b 0 (λ e. h (inl e))) (ne_eqb b 11 (λ e. h (inr e)))

pub returns-then-matches : goal.returns-then-matches
unfolding field_bits
returns-then-matches c =
    let b = c.args.block in
    let m : (eqb b 0 || eqb b 11) ≡ c.match-matches.matches =
    elim c.match-matches.branch [
      | in-0 w ↦ fixed b w.in-0.is ∙ sym w.matches-is
      | in_default w ↦ grows b (search rules) ∙ sym w.matches-is
    ] in
    yes _ refl (m ∙ c.if-matches.true) refl

pub returns : goal.returns
unfolding field_bits
returns c =
    let b = c.args.block in
    let m : (eqb b 0 || eqb b 11) ≡ c.match-matches.matches =
    elim c.match-matches.branch [
      | in-0 w ↦ fixed b w.in-0.is ∙ sym w.matches-is
      | in_default w ↦ grows b (search rules) ∙ sym w.matches-is
    ] in
    let e : c.next_multiple_of.result ≡ up_to16 (c.args.words * 10) = omega (arith, c.next_multiple_of.ensures.value) in
    no _ refl (m ∙ c.if-matches.false) (c.max.ensures ∙ ap (max 21440) e)
