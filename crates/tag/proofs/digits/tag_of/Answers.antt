-- `tag::digits::tag_of` takes the numbers and the mark out of eight bytes: each field is its digits' value.
-- Assumes nothing.
use Rattle.tag.proofs.LawsTags.{says_all}
use Rattle.tag.proofs.digits.tag_of.Goals as goal

pub returns : goal.returns
returns c =
    says_all c.args.bytes.now c.told-bytes c.four.ensures c.without_mark.ensures c.three_to.ensures c.across.ensures c.across-2.ensures
    c.across-3.ensures c.three_from.ensures
