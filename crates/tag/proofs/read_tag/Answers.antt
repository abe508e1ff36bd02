-- `tag::read_tag` tests the list before it reads, as the definition does.
-- Assumes nothing.
use mathlib.Core.Path.{sym, ◌∙◌}
use Rattle.tag.proofs.LawsTags.{by_list, no_list}
use Rattle.tag.proofs.read_tag.Goals as goal

pub returns-else-is_good_list : goal.returns-else-is_good_list
returns-else-is_good_list c =
    let a = c.args in
    sym (no_list a.leaps.now a.bytes.now (sym c.is_good_list.ensures ∙ c.if-is_good_list.false))

pub returns-then-is_good_list : goal.returns-then-is_good_list
returns-then-is_good_list c =
    let a = c.args in
    c.read_by.ensures ∙ sym (by_list a.leaps.now a.bytes.now (sym c.is_good_list.ensures ∙ c.if-is_good_list.true))
