-- `tag::read_by` refuses any other number of bytes than eight, and accepts where the digits are decimal and the numbers within bounds.
-- Assumes nothing.
use mathlib.Core.Path.{sym, ap, ◌∙◌}
use mathlib.Core.List.{List}
use Prim.Native.Nat.{ℕ}
use Rattle.tag.specs.Digits.{decimal}
use Rattle.tag.specs.Tags.{tag_digits, tag_of}
use Rattle.tag.proofs.LawsTags.{not_eight, refuses, takes_eight, refuses_eight}
use Rattle.tag.proofs.read_by.Goals as goal

pub returns-in_default : goal.returns-in_default
returns-in_default c =
    let a = c.args in
    sym (refuses a.leaps.now a.bytes.now (not_eight a.leaps.now a.bytes.now c.in_default.ensures.1))

pub returns-then-are_decimal-in_bounds : goal.returns-then-are_decimal-in_bounds
returns-then-are_decimal-in_bounds c =
    let a = c.args in
    let k = c.in-Ok.ensures.1 in
    takes_eight a.leaps.now a.bytes.now k.long (c.are_decimal.ensures ∙ ap (λ (s : List ℕ). decimal (tag_digits s)) k.same)
    (c.tag_of-tag.ensures ∙ ap tag_of k.same) c.in_bounds.ensures c.if-are_decimal-in_bounds.true

pub returns-else-are_decimal-in_bounds : goal.returns-else-are_decimal-in_bounds
returns-else-are_decimal-in_bounds c =
    let a = c.args in
    let k = c.in-Ok.ensures.1 in
    refuses_eight a.leaps.now a.bytes.now k.long (c.are_decimal.ensures ∙ ap (λ (s : List ℕ). decimal (tag_digits s)) k.same)
    (c.tag_of-tag.ensures ∙ ap tag_of k.same) c.in_bounds.ensures c.if-are_decimal-in_bounds.false
