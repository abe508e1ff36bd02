-- `common_copy` hands the three copies on where the block is long enough to have them.
-- Assumes nothing.
use Prim.Native.Nat.{ℕ}
use mathlib.Core.Path.{refl, sym, ap, ◌∙◌}
use native.Mathlib.Omega.{arith}
use borrow.Author.Tests.{lt-ltb, le-ltb}
use Rattle.ground.proofs.LawsChoice.{yes, no}
use Rattle.ground.proofs.LawsGrounds.{refuses}
use Rattle.copies.specs.Copies.{copy_at, found_common, refused_common, answer_by, agreed_of, common_of}
use Rattle.copies.proofs.common_copy.Goals as goal

pub returns-then-block-lt-COPIES_BYTES : goal.returns-then-block-lt-COPIES_BYTES
unfolding common_of
returns-then-block-lt-COPIES_BYTES c =
    let b = c.args.block.now in
    refuses (found_common (copy_at 0 b) (copy_at 1 b) (copy_at 2 b)) refused_common (sym (yes _ refl (lt-ltb _ _ c.if-block-lt-COPIES_BYTES.true) refl)) (λ z. omega arith)

pub returns : goal.returns
unfolding common_of agreed_of
returns c =
    let b = c.args.block.now in
    c.agree.ensures ∙ (λ i. agreed_of (c.copy_at-a.ensures i) (c.copy_at-b.ensures i) (c.copy_at-c.ensures i))
    ∙ ap (λ (n : ℕ). answer_by n (copy_at 0 b) (copy_at 1 b) (copy_at 2 b)) (no _ refl (le-ltb _ _ c.if-block-lt-COPIES_BYTES.false) refl)
