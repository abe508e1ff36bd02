-- `c_sounder::rows_of` meets its contract: so many rows are filled so far.
-- Assumes nothing.
use mathlib.Core.Path.{sym, subst, ◌∙◌}
use mathlib.Core.List.{List}
use Prim.Native.Nat.{ℕ, ◌+◌, ◌<◌}
use native.Mathlib.Omega.{arith}
use lib.ListN.{length, set}
use Rattle.ground.proofs.LawsFilling.{Filling, start, next, finish}
use Rattle.tag.specs.Tags.{told_tag}
use Rattle.c_sounder.specs.Rows.{row_of}
use Rattle.c_sounder.proofs.rows_of.Invariants.{none}
use Rattle.c_sounder.proofs.rows_of.Goals as goal

pub loop-i-init : goal.loop-i-init
loop-i-init c = start _ none _ _ (c.told-tags ∙ sym c.told-rows)

pub bounds-rows-i : goal.bounds-rows-i
bounds-rows-i c = omega (arith, c.loop-i.invariant.long, c.told-tags)

pub loop-i-preserved : goal.loop-i-preserved
loop-i-preserved c =
    let rows = c.loop-i.rows in
    let i = c.loop-i.i in
    let in_rows : i < length rows = omega (arith, c.loop-i.invariant.long, c.told-tags) in
    subst (λ (row : List ℕ). Filling (λ read. row_of (told_tag read)) none c.args.tags.now (set rows i row) (i + 1)) (sym c.row_of.ensures)
    (next _ none c.loop-i.invariant in_rows)

pub returns : goal.returns
returns c =
    finish _ none c.loop-i.invariant
    (omega (arith, c.loop-i.invariant.long, c.told-tags, c.loop-i-test.false))
