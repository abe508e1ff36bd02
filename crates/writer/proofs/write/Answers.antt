-- `writer::write` meets its contract: a return for each ground in its order, and one for the block written.
-- Assumes nothing.
use mathlib.Core.Path.{refl, ap, ◌∙◌}
use mathlib.Core.List.{List, ◌++◌}
use Prim.Native.Nat.{ℕ}
use native.Mathlib.Omega.{arith}
use lib.ListN.{drop}
use Rattle.ground.specs.Choice.{pick}
use Rattle.ground.proofs.LawsRefusals.{never_zero, passed_on}
use Rattle.bits.specs.Fields.{all_fit}
use Rattle.header.specs.Plans.{plan_of}
use Rattle.header.proofs.LawsThen.{plan_brief}
use Rattle.block.specs.Layout.{block_length}
use Rattle.writer.specs.Blocks.{block_of}
use Rattle.writer.specs.Answers.{told}
use Rattle.writer.proofs.LawsWrite.{short_refused, header_refused, length_refused, room_refused, held, word_refused, block_written}
use Rattle.writer.proofs.write.Goals as goal

pub returns-in_default : goal.returns-in_default
returns-in_default c =
    let a = c.args in
    let both = short_refused a.header.now a.words.now a.room.now c.in_default.ensures.1 in record { value = both.0; room_after = both.1 }

pub returns-in_err-plan : goal.returns-in_err-plan
returns-in_err-plan c =
    let a = c.args in
    let both = header_refused a.header.now a.words.now a.room.now (c.in_err-plan.ensures ∙ ap plan_of c.in-Ok.ensures.1.same) (never_zero c.in_err-plan.field-0.0) in record { value = ap told (passed_on c.from_residual.result c.from_residual.ensures.1) ∙ both.0; room_after = both.1 }

pub returns-then-words-plan : goal.returns-then-words-plan
returns-then-words-plan c =
    let a = c.args in
    let both = length_refused a.header.now a.words.now a.room.now (c.in_ok-plan.ensures ∙ ap plan_of c.in-Ok.ensures.1.same) refl c.if-words-plan.true in record { value = both.0; room_after = both.1 }

pub overflow_add-bytes : goal.overflow_add-bytes
overflow_add-bytes c = omega (arith, plan_brief _ c.in_ok-plan.ensures)

pub overflow_add-bytes-2 : goal.overflow_add-bytes-2
overflow_add-bytes-2 c = omega (arith, plan_brief _ c.in_ok-plan.ensures)

pub returns-then-room-bytes : goal.returns-then-room-bytes
returns-then-room-bytes c =
    let a = c.args in
    let both = room_refused a.header.now a.words.now a.room.now (c.in_ok-plan.ensures ∙ ap plan_of c.in-Ok.ensures.1.same) refl c.if-words-plan.false c.if-room-bytes.true in record { value = both.0; room_after = both.1 }

pub put_block-requires : goal.put_block-requires
put_block-requires c =
    let a = c.args in record {
      held = held a.header.now a.words.now a.room.now (c.in_ok-plan.ensures ∙ ap plan_of c.in-Ok.ensures.1.same) refl c.if-words-plan.false;
      bytes_in_bounds = c.if-room-bytes.false;
    }

pub returns-in_err-put_block : goal.returns-in_err-put_block
returns-in_err-put_block c =
    let a = c.args in
    let p = c.in_ok-plan.plan in
    let put = ap (λ (h : List ℕ). pick (all_fit p.size a.words.now) (block_of h p.size p.bytes a.words.now ++ drop (block_length p.bytes) a.room.now) a.room.now) c.in-Ok.ensures.1.same in
    let both = word_refused a.header.now a.words.now a.room.now (c.in_ok-plan.ensures ∙ ap plan_of c.in-Ok.ensures.1.same) refl c.if-words-plan.false c.if-room-bytes.false
    c.in_err-put_block.ensures.value (c.in_err-put_block.ensures.room_after ∙ put) (never_zero c.in_err-put_block.field-0.0) in record { value = ap told (passed_on c.from_residual-in_err-put_block.result c.from_residual-in_err-put_block.ensures.1) ∙ both.0; room_after = both.1 }

pub returns : goal.returns
returns c =
    let a = c.args in
    let p = c.in_ok-plan.plan in
    let put = ap (λ (h : List ℕ). pick (all_fit p.size a.words.now) (block_of h p.size p.bytes a.words.now ++ drop (block_length p.bytes) a.room.now) a.room.now) c.in-Ok.ensures.1.same in
    let both = block_written a.header.now a.words.now a.room.now (c.in_ok-plan.ensures ∙ ap plan_of c.in-Ok.ensures.1.same) refl c.if-words-plan.false c.if-room-bytes.false
    c.in_ok-put_block.ensures.value (c.in_ok-put_block.ensures.room_after ∙ put) refl in record { value = both.0; room_after = both.1 }
