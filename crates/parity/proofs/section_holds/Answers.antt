-- `parity::section_holds` meets its contract, for any row of the table that lies in the block: the part lent is the section's words.
-- Assumes nothing.
use mathlib.Core.Path.{◌≡◌, ap, ◌∙◌}
use Prim.Native.Nat.{ℕ, ◌+◌, ◌-◌}
use native.Mathlib.Omega.{arith}
use lib.Dec.{eqb}
use lib.ListN.{take, drop}
use Rattle.parity.specs.Sections.{xor_of, word, holds_in}
use Rattle.parity.proofs.section_holds.Goals as goal

pub returns : goal.returns
unfolding holds_in
returns c =
    let a = c.args in
    let n : a.section.1 - (a.section.0 - 1) ≡ a.section.1 + 1 - a.section.0 = omega arith in
    ap (λ (x : ℕ). eqb x (word a.words.now a.section.2))
    (c.parity_of.ensures ∙ ap (λ (k : ℕ). xor_of (take k (drop (a.section.0 - 1) a.words.now))) n)
