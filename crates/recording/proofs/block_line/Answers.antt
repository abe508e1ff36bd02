-- `recording::block_line` meets its contract: a return for each end of a line.
-- Assumes nothing.
use mathlib.Core.Path.{refl, ap, ◌∙◌}
use Prim.Native.Nat.{ℕ}
use Rattle.ground.proofs.LawsRefusals.{never_zero, passed_on}
use Rattle.recording.specs.Lines.{told_line}
use Rattle.recording.proofs.LawsLines.{other_tag_by, block_refused_by, planned, block_listed_by}
use Rattle.recording.proofs.block_line.Goals as goal

pub returns-then-tag-ne-BLOCK : goal.returns-then-tag-ne-BLOCK
returns-then-tag-ne-BLOCK c =
    let a = c.args in
    let both = λ (seq : ℕ). other_tag_by seq a.tag a.body.now a.room.now c.if-tag-ne-BLOCK.true in record { value = λ seq. (both seq).0; room_after = (both 0).1 }

pub returns-in_err-contents : goal.returns-in_err-contents
returns-in_err-contents c =
    let a = c.args in
    let both = λ (seq : ℕ). block_refused_by seq a.tag a.body.now a.room.now c.if-tag-ne-BLOCK.false c.in_err-contents.ensures.value c.in_err-contents.ensures.room_after (never_zero c.in_err-contents.field-0.0) in record {
      value = λ seq. ap (told_line seq) (passed_on c.from_residual.result c.from_residual.ensures.1) ∙ (both seq).0;
      room_after = (both 0).1;
    }

pub returns-in_err-plan : goal.returns-in_err-plan
returns-in_err-plan c =
    let a = c.args in
    absurd (never_zero c.in_err-plan.field-0.0 (planned 0 a.tag a.body.now a.room.now c.if-tag-ne-BLOCK.false c.in_ok-contents.ensures.value c.in_ok-contents.ensures.room_after refl c.in_err-plan.ensures))

pub returns : goal.returns
returns c =
    let a = c.args in
    let both = λ (seq : ℕ). block_listed_by seq a.tag a.body.now a.room.now c.if-tag-ne-BLOCK.false c.in_ok-contents.ensures.value c.in_ok-contents.ensures.room_after refl c.in_ok-plan.ensures in record { value = λ seq. (both seq).0; room_after = (both 0).1 }
