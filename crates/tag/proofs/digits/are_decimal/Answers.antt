-- `tag::digits::are_decimal` tests the digits of eight bytes: its row of tests is the definition's, byte by byte.
-- Assumes nothing.
use Rattle.tag.proofs.LawsTags.{bcd_all}
use Rattle.tag.proofs.digits.are_decimal.Goals as goal

pub returns : goal.returns
returns c = cc (bcd_all c.args.bytes.now c.told-bytes)
