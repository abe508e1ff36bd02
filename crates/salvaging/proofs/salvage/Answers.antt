-- `salvage` meets its contract: two refusals, then a turn for each block.
-- Assumes nothing.
use Prim.Native.Nat.{ℕ, ◌<◌, ◌≤◌}
use mathlib.Core.Path.{◌≡◌, sym, ap, subst, ◌∙◌}
use mathlib.Core.List.{List}
use native.Mathlib.Omega.{arith}
use lib.ListN.{length}
use Rattle.room.specs.Laid.{laid}
use Rattle.recording.specs.Fields.{written}
use Rattle.made.specs.Made.{length_by}
use Rattle.salvaging.specs.Pieces.{field_by, changed_by}
use Rattle.salvaging.proofs.LawsPieces.{gap_short}
use Rattle.salvaging.proofs.SearchTurns.{rest_is}
use Rattle.salvaging.proofs.SalvageTurns.{begins, found_as, none_words, behind, spot, least, most, ends_in, room, lines, turn, ends}
use Rattle.salvaging.proofs.LawsAnswers.{roomy, too_small, none_found, all_done}
use Rattle.salvaging.proofs.salvage.Goals as goal

pub returns-then-small_rooms : goal.returns-then-small_rooms
returns-then-small_rooms c =
    let a = c.args in
    let x = too_small a.input.now a.recording.now a.report.now a.scratch.now c.small_rooms.ensures c.if-small_rooms.true in record { value = x.answer; recording_after = x.recorded; report_after = x.reported; scratch_after = x.worded }

pub returns-in_default : goal.returns-in_default
returns-in_default c =
    let a = c.args in
    let none = c.in_default.ensures.found in
    let x = none_found a.input.now a.recording.now a.report.now a.scratch.now c.small_rooms.ensures c.if-small_rooms.false (omega (arith, none)) in record { value = x.answer; recording_after = x.recorded; report_after = x.reported; scratch_after = c.in_default.ensures.scratch_after ∙ none_words a.input.now 0 none a.scratch.now ∙ x.worded }

pub loop-next-init : goal.loop-next-init
loop-next-init c =
    let a = c.args in
    begins a.input.now a.recording.now a.report.now _ c.in-Some.ensures.found

pub changed-changed-requires : goal.changed-changed-requires
changed-changed-requires c =
    let s = found_as c.in-Some-next.is c.loop-next.invariant in
    let p = spot s.within s.found in
    (p.one, omega (arith, ap length (rest_is c.in-Some-next.hit.start c.args.input.now), p.inside, s.found.long, least s.within s.found))

pub put-entries-requires : goal.put-entries-requires
put-entries-requires c =
    let a = c.args in
    let q = roomy (length a.input.now) (length a.recording.now) (length a.report.now) (length a.scratch.now) c.small_rooms.ensures c.if-small_rooms.false in
    let s = found_as c.in-Some-next.is c.loop-next.invariant in
    omega (arith, lines s q.reported, c.put_span-span.ensures.value, c.put_span-span.auto, gap_short c.loop-next.from c.in-Some-next.hit.start)

pub put_block-end-requires : goal.put_block-end-requires
put_block-end-requires c =
    let a = c.args in
    let h = c.in-Some-next.hit in
    let q = roomy (length a.input.now) (length a.recording.now) (length a.report.now) (length a.scratch.now) c.small_rooms.ensures c.if-small_rooms.false in
    let s = found_as c.in-Some-next.is c.loop-next.invariant in
    let p = spot s.within s.found in
    let n = s.found.long in record {
      copy_bound = subst (λ (x : List ℕ). (h.copy < 3) × (h.bytes ≡ length_by h.copy x) × (h.bytes ≤ length x) × (h.bytes < 65536)) (sym (rest_is h.start a.input.now))
          (p.one, n, omega (arith, n, p.inside), most s.within s.found);
      bytes_in_bounds = room s q.recorded;
    }

pub overflow_add-from : goal.overflow_add-from
overflow_add-from c =
    let s = found_as c.in-Some-next.is c.loop-next.invariant in
    omega (arith, c.well_formed, ends_in s.within s.found)

pub find-next-requires-clause-from_in_bounds : goal.find-next-requires-clause-from_in_bounds
find-next-requires-clause-from_in_bounds c =
    let s = found_as c.in-Some-next.is c.loop-next.invariant in
    ends_in s.within s.found

pub loop-next-smaller : goal.loop-next-smaller
loop-next-smaller c =
    let s = found_as c.in-Some-next.is c.loop-next.invariant in
    omega (arith, ends_in s.within s.found, least s.within s.found, behind s.within s.found)

pub loop-next-preserved : goal.loop-next-preserved
loop-next-preserved c =
    let a = c.args in
    let h = c.in-Some-next.hit in
    let q = roomy (length a.input.now) (length a.recording.now) (length a.report.now) (length a.scratch.now) c.small_rooms.ensures c.if-small_rooms.false in
    let r = rest_is h.start a.input.now in
    turn (found_as c.in-Some-next.is c.loop-next.invariant) q.recorded q.reported c.put_span-span.ensures.value c.put_span-span.ensures.report_after
    (c.changed-changed.ensures ∙ ap (changed_by h.copy) r) c.put-entries.ensures.value c.put-entries.ensures.report_after
    c.put_block-end.ensures.value (c.put_block-end.ensures.recording_after ∙ ap (λ (x : List ℕ). laid c.loop-next.recording c.loop-next.end (written (field_by h.copy x))) r)
    c.find-next.ensures.found c.find-next.ensures.scratch_after c.find-next.auto.scratch

pub returns : goal.returns
returns c =
    let a = c.args in
    let q = roomy (length a.input.now) (length a.recording.now) (length a.report.now) (length a.scratch.now) c.small_rooms.ensures c.if-small_rooms.false in
    let f = c.in-Some.ensures.found in
    let done = ends (found_as c.in_default-next.is c.loop-next.invariant) q.reported c.in-Some.ensures.scratch_after c.put_span-entries.ensures.value c.put_span-entries.ensures.report_after in
    let x = all_done a.input.now a.recording.now a.report.now a.scratch.now c.small_rooms.ensures c.if-small_rooms.false (omega (arith, f.at, f.inside)) done in record { value = x.answer; recording_after = x.recorded; report_after = x.reported; scratch_after = x.worded }
