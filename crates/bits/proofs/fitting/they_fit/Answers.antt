-- `bits::fitting::they_fit` meets its contract: the words by eights, then the rest.
-- Assumes nothing.
use Prim.Native.Nat.{ℕ, ◌*◌}
use mathlib.Core.Path.{sym, ap}
use native.Mathlib.Nat.{mul-zero}
use native.Mathlib.Omega.{arith}
use borrow.Author.Tests.{le-leb, lt-leb}
use Rattle.bits.proofs.LawsFitting.{rest_short, too_many, eights_fit, rest_fits}
use Rattle.bits.proofs.fitting.they_fit.Goals as goal

pub returns-then-size-eq0 : goal.returns-then-size-eq0
returns-then-size-eq0 c =
    let a = c.args in
    sym (le-leb (a.count * a.size) _ (omega (arith, ap (λ (n : ℕ). a.count * n) c.if-size-eq0.true, mul-zero a.count)))

pub returns-then-len-bytes : goal.returns-then-len-bytes
returns-then-len-bytes c =
    let a = c.args in
    sym (lt-leb _ _ (too_many a.count a.size a.len (omega arith) c.if-len-bytes.true))

pub overflow_mul-result : goal.overflow_mul-result
overflow_mul-result c = let a = c.args in omega (arith, rest_short a.count a.size a.len (omega arith))

pub overflow_add-result : goal.overflow_add-result
overflow_add-result c = let a = c.args in omega (arith, rest_short a.count a.size a.len (omega arith))

pub overflow_mul-result-2 : goal.overflow_mul-result-2
overflow_mul-result-2 c = let a = c.args in omega (arith, eights_fit a.count a.size a.len c.if-len-bytes.false)

pub overflow_sub-result : goal.overflow_sub-result
overflow_sub-result c = let a = c.args in omega (arith, eights_fit a.count a.size a.len c.if-len-bytes.false)

pub returns : goal.returns
returns c = let a = c.args in rest_fits a.count a.size a.len c.if-len-bytes.false
