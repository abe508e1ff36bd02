-- The promises of the copies: the answer goes by the first ground that holds, and none holds exactly where they agree on one.
-- Assumes nothing.
use Prim.Native.Nat.{ℕ}
use mathlib.Core.Path.{◌≡◌, refl, sym, ◌∙◌}
use mathlib.Core.List.{List}
use Rattle.ground.specs.Grounds.{first_of}
use Rattle.ground.proofs.LawsGrounds.{accepts, refuses, reads_number, none_first, first_none}
use Rattle.bits.specs.Bits.{Below}
use Rattle.copies.specs.Copies.{CommonAnswer, copy_at, common_in, copies_grounds, found_common, refused_common, common_of}
use Rattle.copies.specs.Agreed.{Agreed}
use Rattle.copies.specs.Promises.{agreed_common, ReadsCommon}
use Rattle.copies.proofs.LawsAgreed.{none_agreed, agreed_none}

module _ (block : List ℕ) where
  abbrev found : CommonAnswer
  found = found_common (copy_at 0 block) (copy_at 1 block) (copy_at 2 block)

  pub common_number : (common_of block).number ≡ first_of (copies_grounds block)
  unfolding common_of
  common_number = reads_number found refused_common (λ (r : CommonAnswer). r.number) refl (λ n. refl) (first_of (copies_grounds block))

  pub common_found : first_of (copies_grounds block) ≡ 0 → common_of block ≡ found
  unfolding common_of
  common_found e = sym (accepts found refused_common e)

  common_refused : ((common_of block).number ≡ 0 → ⊥) → common_of block ≡ refused_common (common_of block).number
  unfolding common_of
  common_refused f = sym (refuses found refused_common (sym common_number) f)

  common_given : (c : List ℕ) → Below 256 block → Agreed block c → common_of block ≡ agreed_common block c
  common_given c b g =
      let n = agreed_none block b g in
      common_found (none_first (copies_grounds block) n.0) ∙ (λ i. agreed_common block (n.1 i))

pub reads_common : ReadsCommon
reads_common =
    record {
      given = common_given;
      only = λ block b e. (common_in block, none_agreed block b (first_none (copies_grounds block) refl (sym (common_number block) ∙ e)));
      zeros = common_refused;
    }
