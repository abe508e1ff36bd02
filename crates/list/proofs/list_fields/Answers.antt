-- A whole field ends inside the bytes that came, and the number of its line is one more than there were fields before it.
use Rattle.std.proofs.Common.{arith, sym, ap, ◌∙◌, ℕ, List, ◌≡◌, ◌+◌, ◌≤◌, take, length}
use lib.Seq.{length-take-le}
use Rattle.recording.specs.Found.{found_at}
use Rattle.recording.specs.declared.Found.{Found}
use Rattle.recording.specs.declared.Found.TheVariants.{Whole}
use Rattle.recording.specs.declared.Line.{Line}
use Rattle.recording.proofs.LawsFound.{whole_inside}
use Rattle.recording.proofs.LawsLines.{line_seq, seq_next}
use Rattle.list.proofs.list_fields.Goals as goal

inside : (field : List ℕ) (got : ℕ) {found : Found} {tag start n : ℕ} → got ≤ length field → found ≡ found_at (take got field) 0 → found ≡ Whole tag start n → start + n ≤ got
inside field got came found whole = omega (arith, whole_inside (take got field) 0 (sym found ∙ whole), length-take-le got field came)

pub overflow_add-end : goal.overflow_add-end
overflow_add-end g c =
    let read = c.read_field-got in
    omega (arith, inside read.new.field read.result read.ensures c.next_field.ensures c.in-Whole.is)

pub slice_bounds-line_of-end : goal.slice_bounds-line_of-end
slice_bounds-line_of-end g c =
    let read = c.read_field-got in
    omega (arith, inside read.new.field read.result read.ensures c.next_field.ensures c.in-Whole.is)

pub prove-unreachable-requires : goal.prove-unreachable-requires
prove-unreachable-requires g c =
    let e = ap (λ (l : Line). l.seq) c.line_of-line.ensures.value ∙ line_seq _ _ _ _ ∙ seq_next c.loop-seen.seen c.loop-seen-test.true in
    c.if-prove.true e
