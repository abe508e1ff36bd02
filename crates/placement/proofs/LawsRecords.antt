-- How many records a block has, as the branches of the code ask it.
-- Assumes nothing.
use mathlib.Core.Path.{◌≡◌, ap, ◌∙◌}
use mathlib.Core.Logic.{⊎_elim}
use Prim.Native.Nat.{ℕ, ◌≤◌}
use native.Mathlib.Omega.{arith}
use borrow.Author.Tests.{le-leb, ne_eqb}
use Rattle.row.specs.Rows as rows
use Rattle.row.proofs.LawsRow.{records_few}
use Rattle.placement.specs.Placement.{records_held}
use Rattle.placement.proofs.KeepsPlacement.{counts}
use Rattle.placement.proofs.LawsPlacement.{zero_or_above}

pub at_most_four : (block version : ℕ) → block ≤ 11 → version ≤ 3 → records_held block version ≤ 4
at_most_four block version hb hv = omega (arith, counts block version hb hv, records_few block version)

pub one_record : (block : ℕ) → 3 ≤ block → block ≤ 10 → records_held block 0 ≡ 1
unfolding rows.records_in
one_record block lo hi =
    counts block 0 (omega arith) (omega arith)
    ∙ simp (ne_eqb block 1 (λ e. omega arith), ne_eqb block 2 (λ e. omega arith), le-leb 3 block lo, le-leb block 10 hi)

pub no_records : (block version : ℕ) → block ≤ 11 → version ≤ 3 → (1 ≤ block → block ≤ 10 → ⊥) → records_held block version ≡ 0
unfolding rows.records_in
no_records block version hb hv h =
    counts block version hb hv
    ∙ ⊎_elim (λ e. ap (λ (b : ℕ). rows.records_in b version) e) (λ l. let e : block ≡ 11 = omega arith in ap (λ (b : ℕ). rows.records_in b version) e) (zero_or_above 10 block h)
