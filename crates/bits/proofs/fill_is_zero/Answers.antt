-- `bits::fill_is_zero` meets its contract: where the words do not fit, nothing stands behind them.
-- Assumes nothing.
use mathlib.Core.Path.{sym, ◌∙◌}
use Prim.Native.Nat.{◌*◌, ◌<◌}
use native.Mathlib.Omega.{arith}
use lib.ListN.{length}
use borrow.Author.Tests.{leb-true, leb-false}
use Rattle.bits.proofs.LawsFill.{fill_none}
use Rattle.bits.proofs.fill_is_zero.Goals as goal

pub returns-then-not-they_fit : goal.returns-then-not-they_fit
returns-then-not-they_fit c =
    let a = c.args in
    let over : length a.field.now * 8 < a.count * a.size = leb-false _ _ (sym c.they_fit.ensures ∙ c.if-not-they_fit.true) in
    sym (fill_none a.size a.count a.field.now (omega arith))

pub zero_behind-requires : goal.zero_behind-requires
zero_behind-requires c = record { size_bound = omega arith; size_in_bounds = leb-true _ _ (sym c.they_fit.ensures ∙ c.if-not-they_fit.false) }
