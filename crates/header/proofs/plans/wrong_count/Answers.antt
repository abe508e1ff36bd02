-- `wrong_count` takes the extra words off before it asks the row, where there are so many.
-- Assumes nothing.
use mathlib.Core.Path.{ap, ◌∙◌}
use mathlib.Core.Bool.{not}
use Prim.Native.Nat.{◌-◌}
use native.Mathlib.Omega.{arith}
use Rattle.row.specs.Rows.{permits}
use Rattle.header.proofs.LawsPlans.{few_words, enough_words}
use Rattle.header.proofs.plans.wrong_count.Goals as goal

pub returns-then-count-lt-EXTRA_WORDS : goal.returns-then-count-lt-EXTRA_WORDS
returns-then-count-lt-EXTRA_WORDS c =
    let h = c.args.header.now in
    few_words h (omega arith)

pub returns : goal.returns
returns c =
    let h = c.args.header.now in
    ap not (c.permits.ensures ∙ (λ i. permits (c.row_in.ensures i) (c.count_in-count.ensures i - 2))) ∙ enough_words h (omega arith)
