-- `placement::place` meets its contract: the tests in their order, and a block that is neither infrared nor visible has no record.
-- Assumes nothing.
use mathlib.Core.Path.{◌≡◌, sym, ◌∙◌}
use Prim.Native.Nat.{ℕ, ◌≤◌}
use native.Mathlib.Omega.{arith}
use Rattle.placement.specs.Placement.{records_held, refused_by, place_of}
use Rattle.placement.proofs.KeepsPlacement.{every_version}
use Rattle.placement.proofs.LawsPlacement.{unknown_block, unknown_version, absent}
use Rattle.placement.proofs.LawsRecords.{no_records}
use Rattle.placement.proofs.place.Goals as goal

pub returns-then-block-gt-LAST_BLOCK : goal.returns-then-block-gt-LAST_BLOCK
returns-then-block-gt-LAST_BLOCK c = sym (unknown_block _ _ _ c.if-block-gt-LAST_BLOCK.true)

pub returns-then-version-gt-LAST_VERSION : goal.returns-then-version-gt-LAST_VERSION
returns-then-version-gt-LAST_VERSION c = sym (unknown_version _ _ _ c.if-block-gt-LAST_BLOCK.false c.if-version-gt-LAST_VERSION.true)

pub returns-in-3-to-10 : goal.returns-in-3-to-10
returns-in-3-to-10 c = c.visible.ensures ∙ sym (every_version _ _ _ (omega arith) (omega arith) (omega arith))

-- a block without records
none : (block version k : ℕ) → block ≤ 11 → version ≤ 3 → ((1 ≤ block) → block ≤ 10 → ⊥) → refused_by 13 ≡ place_of block version k
none block version k b v out =
    let no : records_held block version ≡ 0 = no_records block version b v out in
    sym (absent block version k b v (λ l m. omega arith))

pub returns-in_default : goal.returns-in_default
returns-in_default c = none _ _ _ (omega arith) (omega arith) (λ l m. omega arith)

pub returns-in_default-2 : goal.returns-in_default-2
returns-in_default-2 c = none _ _ _ (omega arith) (omega arith) (λ l m. omega arith)
