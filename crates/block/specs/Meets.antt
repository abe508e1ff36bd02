-- What it is that a block meets the specification, said from the documents, without the reader's tests and their order.
-- Assumes nothing.
use Rattle.std.specs.Prelude.{ℕ, ◌*◌, ◌≤◌, ◌≡◌, List, length, take, drop, get_or}
use Rattle.bits.specs.Bits.{sent}
use Rattle.check_rule.specs.Check.{generator}
use Rattle.check_rule.specs.Finds.{Passes}
use Rattle.row.specs.Field.{field_bytes}
use Rattle.copies.specs.Copies.{header_length, copies_length}
use Rattle.copies.specs.Agreed.{Agreed}
use Rattle.header.specs.Asks.{Asks}
use Rattle.block.specs.Layout.{block_length, information_field}

-- The passing copies are one, whose first 28 bytes ask for a block of `words` words of `size` bits. The block is as long as these take; the
-- field is followed by its check word; every bit behind the last word is zero.
pub record Meets (block : List ℕ) : Type 0 where
  pub copy : List ℕ
  pub number : ℕ
  pub version : ℕ
  pub size : ℕ
  pub words : ℕ
  pub agreed : Agreed block copy
  pub asks : Asks (take header_length copy) number version size words
  pub long : length block ≡ block_length (field_bytes number words)
  pub checked : Passes generator (drop copies_length block)
  pub filled : (i : ℕ) → words * size ≤ i → get_or (sent (information_field (field_bytes number words) block)) i 0 ≡ 0
