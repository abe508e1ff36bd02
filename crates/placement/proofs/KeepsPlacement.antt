-- The promises of specs/Promises.antt are kept: the counts by a test at every block and version, the refusal by the laws of its last test.
-- Assumes nothing.
use mathlib.Core.Path.{◌≡◌, sym, ap, ◌∙◌}
use mathlib.Core.Bool.{Bool}
use mathlib.Core.Logic.{⊎_elim}
use Prim.Native.Nat.{ℕ, ◌≤◌}
use native.Mathlib.Omega.{arith}
use lib.Dec.{T, eqb, eqb→eq}
use borrow.Author.Tests.{le-ltb}
use Rattle.row.specs.Rows as rows
use Rattle.placement.specs.Placement.{group_of, held_in, records_held, place_of}
use Rattle.placement.specs.Promises.{Counts, Refuses13, EveryVersion}
use Rattle.placement.proofs.LawsBelow.{below, below_at}
use Rattle.placement.proofs.LawsPlacement.{zero_or_above, absent, present}

-- a test at every block and version
tested : (p : ℕ → ℕ → Bool) → T (below 12 (λ b. below 4 (p b))) → (block version : ℕ) → block ≤ 11 → version ≤ 3 → T (p block version)
tested p t block version hb hv =
    below_at 4 (p block) (below_at 12 (λ b. below 4 (p b)) t block (omega arith)) version (omega arith)

pub counts : Counts
unfolding records_held held_in group_of rows.records_in
counts block version hb hv =
    eqb→eq (records_held block version) (rows.records_in block version) (tested (λ b v. eqb (records_held b v) (rows.records_in b v)) tt block version hb hv)

pub refuses_13 : Refuses13
refuses_13 block version k hb hv = (
  λ e. zero_or_above (records_held block version) k
      (λ l m. let z : ◌≡◌ {A = ℕ} 0 13 = ap (λ p. p.number) (sym (present block version k hb hv l m)) ∙ e in omega arith),
  λ h. ap (λ p. p.number) (absent block version k hb hv (λ l m. ⊎_elim (λ e. omega arith) (λ u. omega arith) h)),
)

pub every_version : EveryVersion
unfolding place_of held_in records_held
every_version block version k lo hb hv = simp (le-ltb block 3 lo, le-ltb 3 version hv)
