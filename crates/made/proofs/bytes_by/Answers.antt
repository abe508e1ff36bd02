-- `bytes_by` meets its contract: what begins a block is read, and that block is the one made.
-- Assumes nothing.
use mathlib.Core.Path.{refl, sym, ◌∙◌}
use native.Mathlib.Omega.{arith}
use lib.Seq.{length-take-le}
use Rattle.ground.proofs.LawsRefusals.{never_zero}
use Rattle.made.proofs.LawsMade.{length_least, header_part, few_words, makes_none, none_begun, begun_is, begun_inside, block_refused, block_made}
use Rattle.made.proofs.bytes_by.Goals as goal

pub returns-then-scratch-lt-MOST_WORDS : goal.returns-then-scratch-lt-MOST_WORDS
returns-then-scratch-lt-MOST_WORDS c =
    let a = c.args in
    let both = few_words a.copy a.rest.now a.scratch.now c.if-scratch-lt-MOST_WORDS.true in record { value = both.0; scratch_after = both.1 }

pub returns-then-copy-ge-COPIES : goal.returns-then-copy-ge-COPIES
returns-then-copy-ge-COPIES c =
    let a = c.args in
    let both = makes_none a.copy a.rest.now a.scratch.now (λ m. omega (arith, m.one, c.if-copy-ge-COPIES.true)) in record { value = both.0; scratch_after = both.1 }

pub returns-in_err-bytes : goal.returns-in_err-bytes
returns-in_err-bytes c =
    let a = c.args in
    let both = none_begun a.copy a.rest.now a.scratch.now c.if-scratch-lt-MOST_WORDS.false c.in_err-bytes.ensures in record { value = c.from_residual.ensures ∙ both.0; scratch_after = both.1 }

pub slice_bounds-header-end : goal.slice_bounds-header-end
slice_bounds-header-end c =
    let a = c.args in
    omega (arith, length_least a.copy a.rest.now, begun_inside a.copy a.rest.now a.scratch.now c.if-scratch-lt-MOST_WORDS.false c.in_ok-bytes.ensures)

pub slice_bounds-read_by-end : goal.slice_bounds-read_by-end
slice_bounds-read_by-end c =
    let a = c.args in
    sym
    (length-take-le c.in_ok-bytes.bytes a.rest.now
    (omega (
      arith,
      begun_is a.copy a.rest.now a.scratch.now c.if-scratch-lt-MOST_WORDS.false c.in_ok-bytes.ensures,
      begun_inside a.copy a.rest.now a.scratch.now c.if-scratch-lt-MOST_WORDS.false c.in_ok-bytes.ensures,
    )))

pub returns-in_default : goal.returns-in_default
returns-in_default c =
    let a = c.args in
    let both = block_refused a.copy a.rest.now a.scratch.now c.if-scratch-lt-MOST_WORDS.false c.in_ok-bytes.ensures
    c.if-copy-ge-COPIES.false (header_part a.copy a.rest.now) c.in_default.ensures.value c.in_default.ensures.room_after (never_zero c.in_default.field-0) in record { value = both.0; scratch_after = both.1 }

pub returns : goal.returns
returns c =
    let a = c.args in
    let both = block_made a.copy a.rest.now a.scratch.now c.if-scratch-lt-MOST_WORDS.false c.in_ok-bytes.ensures
    c.if-copy-ge-COPIES.false (header_part a.copy a.rest.now) c.in-Ok.ensures.value c.in-Ok.ensures.room_after refl in record { value = both.0; scratch_after = both.1 }
