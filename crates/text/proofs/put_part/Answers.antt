-- `text::put_part` meets its contract: what `lay` answers decides.
-- Assumes nothing.
use mathlib.Core.Path.{refl, sym, ◌∙◌}
use Prim.Native.Nat.{◌+◌}
use native.Mathlib.Omega.{arith}
use lib.ListN.{length}
use borrow.Author.Tests.{leb-true}
use Rattle.ground.proofs.LawsChoice.{yes, no}
use Rattle.text.proofs.put_part.Goals as goal

pub overflow_add-result : goal.overflow_add-result
overflow_add-result c =
    let a = c.args in
    omega (arith, leb-true (a.at + length a.part.now) (length a.room.now) (sym c.lay.ensures.value ∙ c.if-lay.true))

pub returns-then-lay : goal.returns-then-lay
returns-then-lay c = record { value = yes _ c.lay.ensures.value c.if-lay.true refl; room_after = c.lay.ensures.room_after; upper_bound = omega arith }

pub returns : goal.returns
returns c = record { value = no _ c.lay.ensures.value c.if-lay.false refl; room_after = c.lay.ensures.room_after; upper_bound = omega arith }
