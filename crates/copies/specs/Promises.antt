-- What reading the copies promises.
-- Assumes nothing.
use Rattle.std.specs.Prelude.{ℕ, ◌≡◌, List, take}
use Rattle.bits.specs.Bits.{Below}
use Rattle.check_rule.specs.Check.{passes}
use Rattle.copies.specs.Copies.{CommonAnswer, header_length, copy_at, common_of, refused_common}
use Rattle.copies.specs.Agreed.{Agreed}

-- the first 28 bytes of what the copies that pass have in common, and which of the copies passed
abbrev pub agreed_common : (block c : List ℕ) → CommonAnswer
agreed_common block c =
    record { number = 0; header = take header_length c; first = passes (copy_at 0 block); second = passes (copy_at 1 block); third = passes (copy_at 2 block) }

-- the copies of a block, which is bytes, give a header exactly where they agree on one; a refusal is its number and zeros
pub record ReadsCommon : Type 0 where
  pub given : (block c : List ℕ) → Below 256 block → Agreed block c → common_of block ≡ agreed_common block c
  pub only : (block : List ℕ) → Below 256 block → (common_of block).number ≡ 0 → (c : List ℕ) × Agreed block c
  pub zeros : (block : List ℕ) → ((common_of block).number ≡ 0 → ⊥) → common_of block ≡ refused_common (common_of block).number
