-- The C functions answer what the library does: by their contracts, with the laws of numbers that are cut where C gives one.
-- Assumes nothing.
use Rattle.std.specs.Prelude.{Option, Some, None}
use Prim.Native.Nat.{ℕ, ◌*◌, ◌^◌, ◌≤◌, ◌<◌}
use native.Mathlib.Omega.{arith}
use mathlib.Core.Path.{◌≡◌, refl, sym, ap, ◌∙◌, subst}
use mathlib.Core.Logic.{◌⊎◌, inl, inr, ⊎_elim}
use mathlib.Core.Bool.{Bool, true, false, not, ◌||◌}
use mathlib.Core.List.{List, [], ◌∷◌, ◌++◌, map}
use lib.Dec.{lit≤, eqb, ltb, leb}
use lib.Count.{ones}
use lib.ListN.{length, get_or, drop, replicate}
use borrow.Author.Tests.{ltb-true, ltb-false, leb-true, leb-false, eqb-true, eqb-false, eq-eqb, ne_eqb, le-ltb, not-true, not-false}
use Rattle.ground.specs.Choice.{pick}
use Rattle.ground.proofs.LawsChoice.{either}
use Rattle.ground.proofs.LawsTests.{never}
use Rattle.bits.specs.Bits.{Below}
use Rattle.bits.specs.Fields.{words_of, field_of, bad_size, fit, all_fit, take_answer, room_taken, put_answer}
use Rattle.bits.proofs.Table.{row7}
use Rattle.bits.proofs.LawsFitting.{size_bounds}
use Rattle.bits.proofs.LawsFill.{fit_below, below_fit}
use Rattle.room.specs.Laid.{laid_inside}
use Rattle.row.specs.Rows.{records_in, row_of, permits}
use Rattle.row.specs.Field.{field_bits, field_bytes}
use Rattle.header.specs.Says as says
use Rattle.header.specs.Plans.{plan_of}
use Rattle.records.specs.Records.{part_of}
use Rattle.placement.specs.Placement.{place_of}
use Rattle.placement.proofs.LawsPlacement.{unknown_block}
use Rattle.block.specs.Answers.{answer_of, room_after}
use Rattle.block.specs.Answers.{Answer}
use Rattle.parity.specs.Sections.{sections_of}
use Rattle.parity.specs.declared.Layout.TheVariants.{ImagerSpacelook, SounderSpacelook}
use Rattle.tag.specs.Digits.{digits_of, decimal, value_of}
use Rattle.calendar.specs.Leaps.{rises_from, good_list, listed, listed_before}
use Rattle.tag.specs.Tags.{good_second, in_bounds, tag_of, good_tag, read_tag}
use Rattle.time.specs.Times.{count_of, time_of, elapsed_of}
use Rattle.tag.specs.declared.Tag.{Tag}
use Rattle.tag.proofs.KeepsTable.{all_differ}
use Rattle.time.proofs.KeepsTable.{row9, across_leap}
use Rattle.time.proofs.LawsYears.{quick}
use Rattle.detectors.specs.Status.{channel_of, detector_of}
use Rattle.detectors.specs.declared.Detector.{Detector}
use Rattle.sounder.specs.Judging as Sounder
use Rattle.sounder.specs.Judging.{status_of, asked_of}
use Rattle.sounder.specs.Judging.{StatusAnswer}
use Rattle.sounder.specs.Judging.{Asked}
use Rattle.sounder.proofs.KeepsSounder.{asking}
use Rattle.c_sounder.specs.Rows as Rows
use Rattle.c_sounder.specs.Rows.{fields_in}
use Rattle.watch_rule.specs.Rules.{in_time, rule_of}
use Rattle.watch_rule.specs.declared.Closing.TheVariants.{ClockBack, Late, Broken, Complete}
use Rattle.watch_bounds.specs.Bounds.{refusal_of}
use Rattle.watch_bounds.specs.declared.Watch.{Watch}
use Rattle.watch.specs.Verdicts.{number_of, kind_of, fill_of, count_of as filled_of}
use Rattle.watch.specs.Fills.{filled}
use Rattle.watch.specs.Rules.{idle, expecting, on_good, step_of}
use Rattle.watch.specs.Rules.{Stepped}
use Rattle.watch.specs.Verdicts.{Verdict}
use Rattle.watch.specs.Verdicts.{Refused, Stray, Opened, Kept, Closed}
use Rattle.watch.proofs.LawsSteps.{stepped}
use Rattle.watch.proofs.KeepsRules.{beginning}
use Rattle.recording.specs.Found.{found_at, answered}
use Rattle.recording.specs.Lines.{most_fields, seq_after, holds_block, refused_line, line_of, room_listed}
use Rattle.recording.specs.declared.Found.{Found}
use Rattle.recording.specs.declared.Found.TheVariants.{Whole, Cut, End}
use Rattle.recording.specs.declared.Line.{Line}
use Rattle.recording.proofs.LawsLines.{line_seq, seq_next}
use Rattle.text.specs.Texts.{digits, decimal as spelled, put_length}
use Rattle.listing.specs.Texts.{block_text, first_text, line_text, last_text}
use Rattle.scope.proofs.KeepsFourRecords.{four_records}
use Rattle.c_numbers.specs.Numbers.{up_to}
use Rattle.c_numbers.specs.Marks as marks
use Rattle.c_blocks.specs.Copies.{copies_in}
use Rattle.c_parity.specs.Verdicts.{marks_at}
use Rattle.c_tags.specs.Times.{numbers_of}
use Rattle.c_watch.specs.Watches.{watch_in, numbers_of_watch, leaves, row_after, row_begun}
use Rattle.c_recording.specs.Told.{code_of, line_from, put_number}
use Rattle.c_recording.proofs.KeepsTold.{keeps_numbers, puts_text}
use Rattle.scope.specs.Notions.{Reason, ◌if◌, FirstOf}
use Rattle.from_c.specs.FromC.{mark, time, watch, watch_at, channel, detector, code, Tells, Puts, FromC, RowsFromC}
use Rattle.from_c.proofs.LawsFromC.{take_cut, room_cut, put_cut, field_cut, place_cut, part_cut, on_same, write_cut, line_cut, listed_cut, follows}

-- ---- marks, times and watches

mark_same : (on : Bool) → marks.mark on ≡ mark on
mark_same true = refl
mark_same false = refl

copies_same : (a : Answer) → copies_in a ≡ mark a.first ∷ mark a.second ∷ mark a.third ∷ []
copies_same a = λ i. mark_same a.first i ∷ mark_same a.second i ∷ mark_same a.third i ∷ []

module _ (h : List Bool) where
  at : (i : ℕ) → marks.mark (get_or h i false) ≡ mark (get_or h i false)
  at i = mark_same (get_or h i false)

  four_same : marks_at (0 ∷ 1 ∷ 2 ∷ 3 ∷ []) h ≡ mark (get_or h 0 false) ∷ mark (get_or h 1 false) ∷ mark (get_or h 2 false) ∷ mark (get_or h 3 false) ∷ []
  four_same = λ i. at 0 i ∷ at 1 i ∷ at 2 i ∷ at 3 i ∷ []

  two_same : marks_at (0 ∷ 1 ∷ []) h ≡ mark (get_or h 0 false) ∷ mark (get_or h 1 false) ∷ []
  two_same = λ i. at 0 i ∷ at 1 i ∷ []

time_same : (t : Tag) → numbers_of t ≡ time t
time_same t = ap (λ (n : ℕ). t.year ∷ t.day ∷ t.hour ∷ t.minute ∷ t.second ∷ t.ms ∷ n ∷ []) (mark_same t.flywheel)

watch_same : (w : Watch) → numbers_of_watch w ≡ watch w
watch_same w = λ i. mark_same w.opened i ∷ w.expected ∷ (time_same w.last i ++ (w.limit ∷ w.fill ∷ []))

code_same : (v : Verdict) → kind_of v ≡ code v
code_same (Refused n) = refl
code_same Stray = refl
code_same Opened = refl
code_same Kept = refl
code_same (Closed ClockBack fill count) = refl
code_same (Closed Late fill count) = refl
code_same (Closed Broken fill count) = refl
code_same (Closed Complete fill count) = refl

left : (v : Verdict) → code v ≤ 1 → leaves v ≡ true
left (Refused n) h = refl
left Stray h = refl
left Opened h = absurd (omega arith)
left Kept h = absurd (omega arith)
left (Closed ClockBack fill count) h = absurd (omega arith)
left (Closed Late fill count) h = absurd (omega arith)
left (Closed Broken fill count) h = absurd (omega arith)
left (Closed Complete fill count) h = absurd (omega arith)

changed : (v : Verdict) → 2 ≤ code v → leaves v ≡ false
changed (Refused n) h = absurd (omega arith)
changed Stray h = absurd (omega arith)
changed Opened h = refl
changed Kept h = refl
changed (Closed why fill count) h = refl

module _ (leaps row : List ℕ) (block valid : ℕ) (tag : List ℕ) where
  -- the offer to the watch of numbers that are cut, and to that of the numbers themselves
  abbrev r : Stepped
  r = step_of leaps (watch_in row) (up_to 255 block) (up_to 255 valid) tag

  abbrev q : Stepped
  q = step_of leaps (watch_at row) block valid tag

  did : {verdict : ℕ} → verdict ≡ kind_of r.verdict → verdict ≡ code q.verdict
  did e = e ∙ ap kind_of (follows leaps row block valid tag).did ∙ code_same q.verdict

  module _ {verdict : ℕ} {after : List ℕ} (e : verdict ≡ kind_of r.verdict) (f : after ≡ row_after r row) where
    row_by : (t : Bool) → leaves q.verdict ≡ t → after ≡ pick t row (numbers_of_watch r.next)
    row_by t h = f ∙ ap (λ (x : Bool). pick x row (numbers_of_watch r.next)) (ap leaves (follows leaps row block valid tag).did ∙ h)

    as_it_was : verdict ≤ 1 → after ≡ row
    as_it_was h = row_by true (left q.verdict (subst (λ (n : ℕ). n ≤ 1) (did e) h))

    as_next : 2 ≤ verdict → after ≡ watch q.next
    as_next h =
        let c : leaves q.verdict ≡ false = changed q.verdict (subst (λ (n : ℕ). 2 ≤ n) (did e) h) in
        row_by false c ∙ ap numbers_of_watch ((follows leaps row block valid tag).next c) ∙ watch_same q.next

-- ---- recordings

tells : (f : Found) {answer tag start long : ℕ} → answer ≡ code_of f → tag ≡ (answered f).tag → start ≡ (answered f).start → long ≡ (answered f).length → Tells f answer tag start long
tells End a t s l = (a, t, s, l)
tells (Whole tag start n) a t s l = (a, t, s, l)
tells Cut a t s l = (a, t, s, l)

-- of a text that is the one meant
puts : (text room : List ℕ) {meant : List ℕ} {answer bytes : ℕ} {after : List ℕ} → text ≡ meant
    → (answer ≡ put_number room text) × ((bytes ≡ put_length room text) × (after ≡ laid_inside room 0 text)) → Puts meant room answer after bytes
puts text room {answer = answer} {bytes = bytes} {after = after} e p =
    let q = puts_text room text in
    subst (λ (t : List ℕ). Puts t room answer after bytes) e (
      λ h. let f = q.fits h in (p.0 ∙ f.0, p.1.1 ∙ f.2, p.1.0 ∙ f.1),
      λ h. let f = q.small h in (p.0 ∙ f.0, p.1.1 ∙ f.2, p.1.0 ∙ f.1),
    )

-- the line of a field, by its tag and by its answer
module _ (before tag : ℕ) (body room : List ℕ) where
  abbrev a : Answer
  a = answer_of body (length room)

  abbrev By-answer : Line → Type 0
  By-answer l =
      ((l.answer ≡ 0 → ⊥) → (l.block ≡ 0) × (l.version ≡ 0) × (l.words ≡ 0))
      × (l.answer ≡ 0 → (l.block ≡ (plan_of a.header).block) × (l.version ≡ (plan_of a.header).version) × (l.words ≡ a.words))

  refused : (n : ℕ) → (n ≡ 0 → ⊥) → By-answer (refused_line (seq_after before) n)
  refused n f = (λ _. (refl, refl, refl), λ z. absurd (f z))

  by_answer : By-answer (line_of before tag body (length room))
  unfolding line_of
  by_answer =
      either By-answer (holds_block tag)
      (λ _. either By-answer (eqb a.number 0) (λ _. (λ f. absurd (f refl), λ _. (refl, refl, refl))) (λ e. refused a.number (eqb-false a.number 0 e)))
      (λ _. refused 15 (λ z. omega arith))

  of_block : tag ≡ 1 → ((line_of before tag body (length room)).answer ≡ a.number) × (room_listed tag body room ≡ room_after body room)
  unfolding line_of room_listed
  of_block t =
      rw (eq-eqb tag 1 t)
      (either (λ (l : Line). l.answer ≡ a.number) (eqb a.number 0) (λ e. sym (eqb-true a.number 0 e)) (λ _. refl), refl)

  of_other : (tag ≡ 1 → ⊥) → ((line_of before tag body (length room)).answer ≡ 15) × (room_listed tag body room ≡ room)
  unfolding line_of room_listed
  of_other f = rw (ne_eqb tag 1 f) (refl, refl)

last_seq : (before : ℕ) → 18446744073709551615 ≤ before → seq_after before ≡ before
last_seq before h = rw (le-ltb before most_fields h)

-- ---- words out of a field and into one

-- a number that a test gives, beside the reason that the test is of
by_test : (k : ℕ) (t : Bool) {P : Type 0} (rs : List Reason) (m : ℕ) → (t ≡ true → P) → (t ≡ false → P → ⊥) → FirstOf rs m → FirstOf (k if P ∷ rs) (pick t k m)
by_test k true rs m f g h = inl (f refl, refl)
by_test k false rs m f g h = inr (g refl, h)

outside : (size : ℕ) → bad_size size ≡ true → (size < 1) ⊎ (16 < size)
outside size = go (eqb size 0) (ltb 16 size) refl refl
  where
    go : (t u : Bool) → eqb size 0 ≡ t → ltb 16 size ≡ u → t || u ≡ true → (size < 1) ⊎ (16 < size)
    go true u e f h = let z : size ≡ 0 = eqb-true size 0 e in inl (omega arith)
    go false true e f h = inr (ltb-true 16 size f)
    go false false e f h = never h

inside : (size : ℕ) → bad_size size ≡ false → (size < 1) ⊎ (16 < size) → ⊥
inside size e h = let b = size_bounds size e in ⊎_elim (λ l. omega (arith, b.0)) (λ l. omega (arith, b.1)) h

below_it : (a b : ℕ) → not (leb a b) ≡ false → b < a → ⊥
below_it a b e h = let l : a ≤ b = leb-true a b (not-false (leb a b) e) in omega arith

within_it : (a b : ℕ) → ltb a b ≡ false → a < b → ⊥
within_it a b e h = let l : b ≤ a = ltb-false a b e in omega arith

module _ (size : ℕ) where
  abbrev sizes : Reason
  sizes = 6 if ((size < 1) ⊎ (16 < size))

  taking : (count : ℕ) (field : List ℕ) (lent : ℕ)
      → FirstOf (sizes ∷ 8 if (length field * 8 < count * size) ∷ 9 if (lent < count) ∷ []) (take_answer size count field lent)
  taking count field lent =
      by_test 6 (bad_size size) (8 if (length field * 8 < count * size) ∷ 9 if (lent < count) ∷ []) (pick (not (fit count size (length field))) 8 (pick (ltb lent count) 9 0))
      (outside size) (inside size)
      (by_test 8 (not (fit count size (length field))) (9 if (lent < count) ∷ []) (pick (ltb lent count) 9 0)
      (λ e. leb-false (count * size) (length field * 8) (not-true (fit count size (length field)) e)) (below_it (count * size) (length field * 8))
      (by_test 9 (ltb lent count) [] 0 (ltb-true lent count) (within_it lent count) refl))

  putting : (words : List ℕ) (lent : ℕ)
      → FirstOf (sizes ∷ 9 if (lent * 8 < length words * size) ∷ 14 if (Below (2 ^ size) words → ⊥) ∷ []) (put_answer size words lent)
  putting words lent =
      by_test 6 (bad_size size) (9 if (lent * 8 < length words * size) ∷ 14 if (Below (2 ^ size) words → ⊥) ∷ [])
      (pick (not (fit (length words) size lent)) 9 (pick (not (all_fit size words)) 14 0))
      (outside size) (inside size)
      (by_test 9 (not (fit (length words) size lent)) (14 if (Below (2 ^ size) words → ⊥) ∷ []) (pick (not (all_fit size words)) 14 0)
      (λ e. leb-false (length words * size) (lent * 8) (not-true (fit (length words) size lent) e)) (below_it (length words * size) (lent * 8))
      (by_test 14 (not (all_fit size words)) [] 0 (λ e b. never (sym (not-true (all_fit size words) e) ∙ below_fit size words b))
      (λ e f. f (fit_below size words (not-false (all_fit size words) e))) refl))

-- what goes by a number: one thing where it is 0, another where it is not
module _ {X : Type 0} (n : ℕ) (a d : X) {answer : ℕ} {x : X} (e : answer ≡ n) (f : x ≡ pick (eqb n 0) a d) where
  at_zero : answer ≡ 0 → x ≡ a
  at_zero z = f ∙ ap (λ (t : Bool). pick t a d) (eq-eqb n 0 (sym e ∙ z))

  at_others : (answer ≡ 0 → ⊥) → x ≡ d
  at_others h = f ∙ ap (λ (t : Bool). pick t a d) (ne_eqb n 0 (λ z. h (e ∙ z)))

-- ---- the Sounder's status

channel_same : (f : Option Detector) → channel_of f ≡ channel f
channel_same (Some d) = refl
channel_same None = refl

detector_same : (f : Option Detector) → detector_of f ≡ detector f
detector_same (Some d) = refl
detector_same None = refl

-- the frame has seven fields, whether the block is refused or not
seven : (leaps words : List ℕ) → fields_in (status_of leaps words).frame ≡ (status_of leaps words).frame
unfolding status_of
seven leaps words =
    either (λ (s : StatusAnswer). fields_in s.frame ≡ s.frame) (eqb (Sounder.refusal_of leaps words).number 0) {a = Sounder.accepted_as leaps words} {d = Sounder.refused_as (Sounder.refusal_of leaps words)} (λ _. refl) (λ _. refl)

numbers_same : (leaps words : List ℕ) → let s = status_of leaps words in Rows.numbers_of s ≡ s.word ∷ s.suspects ∷ channel s.first ∷ detector s.first ∷ s.raw ∷ s.blocks ∷ s.frame
numbers_same leaps words =
    let s = status_of leaps words in
    λ i. s.word ∷ s.suspects ∷ channel_same s.first i ∷ detector_same s.first i ∷ s.raw ∷ s.blocks ∷ seven leaps words i

no_257 : (leaps words : List ℕ) (c d : ℕ) → (status_of leaps words).number ≡ 0 → c ≡ 257 → asked_of leaps words c d ≡ record { number = 13; word = 0; suspect = false }
no_257 leaps words c d z e = asking.outside leaps words c d z (λ w. omega (arith, w.to_channel))

pub from_c : FromC
from_c = record {
  read = λ _ g x. let p = x.allowed in (p.0, p.1.1.1.1, p.1.0, p.1.1.0 ∙ copies_same (answer_of g.0.now (length g.1.0.now)), p.1.1.1.0);
  plan = λ _ _ x. let e = x.allowed in (λ i. (e i).number, λ i. (e i).block, λ i. (e i).version, λ i. (e i).size, λ i. (e i).records, λ i. (e i).words, λ i. (e i).bytes);
  write = λ _ _ x. let e = x.allowed.0 in (λ i. (e i).number, x.allowed.1, λ i. (e i).bytes);
  part = λ _ g x. let e = x.allowed ∙ part_cut g.0.now g.1.0 g.1.1.0 in (λ i. (e i).number, λ i. (e i).start, λ i. (e i).length);
  place = λ _ g x. let e = x.allowed ∙ place_cut g.0 g.1.0 g.1.1.0 in (λ i. (e i).number, λ i. (e i).channel, λ i. (e i).detector);
  imager = λ _ g x. (x.allowed.0, x.allowed.1 ∙ four_same (sections_of ImagerSpacelook g.0.now).holds);
  sounder = λ _ g x. (x.allowed.0, x.allowed.1 ∙ two_same (sections_of SounderSpacelook g.0.now).holds);
  read_tag_is = λ _ g x. (x.allowed.0, x.allowed.1 ∙ time_same (read_tag g.1.0.now g.0.now).tag);
  write_tag_is = λ _ g x. let e = write_cut g.1.0.now 0 g.0.now in (x.allowed.0 ∙ (λ i. (e i).number), x.allowed.1 ∙ (λ i. (e i).bytes));
  elapsed = λ _ _ x. let e = x.allowed in (λ i. (e i).number, λ i. (e i).ms);
  sounder_status = λ _ g x.
      let s = status_of g.1.0.now g.0.now in
      (x.allowed.0, x.allowed.1.0 ∙ numbers_same g.1.0.now g.0.now, x.allowed.1.1 ∙ (λ i. map (λ t. t.number ∷ time_same t.tag i) s.tags));
  sounder_suspect = λ _ g x.
      (x.allowed.0, x.allowed.1.0, x.allowed.1.1 ∙ mark_same (asked_of g.1.0.now g.0.now g.1.1.0 g.1.1.1.0).suspect);
  begin = λ _ g x. (
    λ h. let e = beginning.taken g.0 h in (x.allowed.0 ∙ (λ i. (e i).number), x.allowed.1 ∙ (λ i. row_begun (e i) g.1.0.now)),
    λ h. let e = beginning.refused g.0 h in (x.allowed.0 ∙ (λ i. (e i).number), x.allowed.1 ∙ (λ i. row_begun (e i) g.1.0.now)),
  );
  offer = λ _ g x.
      let p = x.allowed in
      let row = g.0.now in let block = g.1.0 in let valid = g.1.1.0 in let tag = g.1.1.1.0.now in let leaps = g.1.1.1.1.0.now in
      let same = (follows leaps row block valid tag).did in (
        p.0 ∙ ap number_of same,
        did leaps row block valid tag p.1.0,
        p.1.1.0 ∙ ap fill_of same,
        p.1.1.1.0 ∙ ap filled_of same,
        as_it_was leaps row block valid tag p.1.0 p.1.1.1.1,
        as_next leaps row block valid tag p.1.0 p.1.1.1.1,
      );
  next = λ _ g x. let p = x.allowed in tells (found_at g.0.now g.1.0) p.0 p.1.0 p.1.1.0 p.1.1.1;
  line = λ _ g x.
      let before = g.0 in let tag = g.1.0 in let body = g.1.1.0.now in let room = g.1.1.1.0.now in
      let e = x.allowed.0 ∙ line_cut before body (length room) tag in
      let words = x.allowed.1 ∙ listed_cut before body room tag in
      let seq = (λ i. (e i).seq) ∙ line_seq before tag body (length room) in
      let told = subst (By-answer before tag body room) (sym e) (by_answer before tag body room) in (
        λ h. seq ∙ seq_next before h,
        λ h. seq ∙ last_seq before h,
        λ f. let o = of_other before tag body room f in ((λ i. (e i).answer) ∙ o.0, words ∙ o.1),
        λ t. let o = of_block before tag body room t in ((λ i. (e i).answer) ∙ o.0, words ∙ o.1),
        told.0,
        told.1,
      );
  first_text_is = λ _ g x. puts first_text g.0.now refl x.allowed;
  line_text_is = λ _ g x.
      let seq = g.0 in let block = g.1.0 in let version = g.1.1.0 in let count = g.1.1.1.0 in let number = g.1.1.1.1.0 in
      puts (line_text (line_from seq block version count number)) g.1.1.1.1.1.0.now (ap line_text (keeps_numbers seq block version count number)) x.allowed;
  last_text_is = λ _ g x.
      let cut = g.0 in let fields = g.1.0 in
      puts (last_text (not (eqb cut 0)) fields) g.1.1.0.now (ap (λ (t : Bool). last_text t fields) (on_same cut)) x.allowed;
  salvage = λ _ g x.
      let p = x.allowed in
      (λ i. (p.0 i).number, λ i. (p.0 i).bytes, λ i. (p.0 i).entries, λ i. (p.0 i).blocks, p.1.0, p.1.1.0, p.1.1.1);
  version = λ _ _ x. x.allowed;
  check = λ _ _ x. x.allowed;
  take = λ _ g x.
      let field = g.0.now in let size = g.1.0 in let count = g.1.1.0 in let room = g.1.1.1.0.now in
      let e = x.allowed.0 ∙ take_cut count field room size in
      let f = x.allowed.1 ∙ room_cut count field room size in (
        subst (FirstOf (sizes size ∷ 8 if (length field * 8 < count * size) ∷ 9 if (length room < count) ∷ [])) (sym e) (taking size count field (length room)),
        at_zero (take_answer size count field (length room)) (words_of size count field ++ drop count room) room e f,
        at_others (take_answer size count field (length room)) (words_of size count field ++ drop count room) room e f,
      );
  put = λ _ g x.
      let words = g.0.now in let size = g.1.0 in let field = g.1.1.0.now in
      let e = x.allowed.0 ∙ put_cut words field size in
      let f = x.allowed.1 ∙ field_cut words field size in (
        subst (FirstOf (sizes size ∷ 9 if (length field * 8 < length words * size) ∷ 14 if (Below (2 ^ size) words → ⊥) ∷ [])) (sym e) (putting size words (length field)),
        at_zero (put_answer size words (length field)) (field_of size (length field) words) field e f,
        at_others (put_answer size words (length field)) (field_of size (length field) words) field e f,
      );
}

-- ---- rows

plan_3 : plan_of (3 ∷ 10 ∷ 0 ∷ 22 ∷ 0 ∷ 0 ∷ 0 ∷ 2 ∷ replicate 20 0) ≡ record { number = 0; block = 3; version = 2; size = 10; records = 1; words = 20; bytes = 2680 }
unfolding plan_of says.number_of row_of permits records_in field_bits field_bytes
plan_3 = refl

plan_2 : plan_of (2 ∷ 10 ∷ 0 ∷ 86 ∷ 0 ∷ 0 ∷ 0 ∷ 3 ∷ replicate 20 0) ≡ record { number = 0; block = 2; version = 3; size = 10; records = 4; words = 84; bytes = 2680 }
unfolding plan_of says.number_of row_of permits records_in field_bits field_bytes
plan_2 = refl

-- the printed offers come 2,123 ms after the last tag
abbrev tag_912 : List ℕ
tag_912 = 0x19 ∷ 0x87 ∷ 0x23 ∷ 0x42 ∷ 0x14 ∷ 0x35 ∷ 0x89 ∷ 0x12 ∷ []

keeps : step_of [] (watch_in (1 ∷ 3 ∷ 1987 ∷ 234 ∷ 21 ∷ 43 ∷ 56 ∷ 789 ∷ 1 ∷ 5000 ∷ 1 ∷ [])) (up_to 255 3) (up_to 255 2) tag_912
    ≡ stepped (expecting 4 (record { year = 1987; day = 234; hour = 21; minute = 43; second = 58; ms = 912; flywheel = false }) 5000 9) Kept
unfolding up_to step_of refusal_of on_good rule_of in_time filled rises_from good_list listed listed_before digits_of decimal value_of tag_of good_second in_bounds good_tag count_of time_of
keeps = rw (← quick 1987)

completes : step_of [] (watch_in (1 ∷ 10 ∷ 1987 ∷ 234 ∷ 21 ∷ 43 ∷ 56 ∷ 789 ∷ 1 ∷ 5000 ∷ 36 ∷ [])) (up_to 255 10) (up_to 255 0) tag_912 ≡ stepped (idle 5000) (Closed Complete 1060 3)
unfolding up_to step_of refusal_of on_good rule_of in_time filled ones rises_from good_list listed listed_before digits_of decimal value_of tag_of good_second in_bounds good_tag count_of time_of
completes = rw (← quick 1987)

breaks : step_of [] (watch_in (1 ∷ 2 ∷ 1987 ∷ 234 ∷ 21 ∷ 43 ∷ 56 ∷ 789 ∷ 1 ∷ 5000 ∷ 2 ∷ [])) (up_to 255 0) (up_to 255 255) tag_912
    ≡ stepped (expecting 1 (record { year = 1987; day = 234; hour = 21; minute = 43; second = 58; ms = 912; flywheel = false }) 5000 1) (Closed Broken 2 1)
unfolding up_to step_of refusal_of on_good rule_of in_time filled ones rises_from good_list listed listed_before digits_of decimal value_of tag_of good_second in_bounds good_tag count_of time_of
breaks = rw (← quick 1987)

-- the places of an offer afterwards: of the two slices and the two numbers nothing is said
abbrev places : (row : List ℕ) (verdict fill count : ℕ) → List ℕ × (Unit {0} × (Unit {0} × (Unit {0} × (Unit {0} × (ℕ × (ℕ × (ℕ × Unit {0})))))))
places row verdict fill count = (row, (tt, (tt, (tt, (tt, (verdict, (fill, (count, tt))))))))

found_258 : found_at (0x01 ∷ 0x01 ∷ 0x02 ∷ replicate 258 0) 0 ≡ Whole 1 3 258
unfolding found_at
found_258 = refl

found_257 : found_at (0x01 ∷ 0x01 ∷ 0x02 ∷ replicate 257 0) 0 ≡ Cut
unfolding found_at
found_257 = refl

text_1 : line_text (line_from 1 3 2 20 0) ≡ 0x31 ∷ 0x20 ∷ 0x33 ∷ 0x20 ∷ 0x32 ∷ 0x20 ∷ 0x32 ∷ 0x30 ∷ 0x20 ∷ 0x30 ∷ 0x0A ∷ []
unfolding line_text block_text spelled digits up_to
text_1 = refl

pub rows_from_c : RowsFromC
rows_from_c = record {
  plan = λ _ g x h. let e = x.allowed ∙ ap plan_of h ∙ plan_3 in (λ i. (e i).number, λ i. (tt, ((e i).block, ((e i).version, ((e i).size, ((e i).records, ((e i).words, ((e i).bytes, tt))))))));
  plan_84 = λ _ g x h. let e = x.allowed ∙ ap plan_of h ∙ plan_2 in (λ i. (e i).number, λ i. (tt, ((e i).block, ((e i).version, ((e i).size, ((e i).records, ((e i).words, ((e i).bytes, tt))))))));
  part_84 = λ _ g x h n k.
      let e = x.allowed ∙ part_cut g.0.now g.1.0 g.1.1.0 ∙ (λ i. part_of (h i) (k i) (n i)) ∙ four_records.four.there 4 (lit≤ tt) (lit≤ tt) in
      (λ i. (e i).number, λ i. (tt, (tt, (tt, ((e i).start, ((e i).length, tt))))));
  place = λ _ g x b v k.
      let e = x.allowed ∙ place_cut g.0 g.1.0 g.1.1.0 ∙ (λ i. place_of (b i) (v i) (k i)) ∙ four_records.fourth in
      (λ i. (e i).number, λ i. (tt, (tt, (tt, ((e i).channel, ((e i).detector, tt))))));
  no_place = λ _ g x b.
      let e = x.allowed ∙ place_cut g.0 g.1.0 g.1.1.0 ∙ (λ i. place_of (b i) g.1.0 g.1.1.0) ∙ unknown_block 256 g.1.0 g.1.1.0 (omega arith) in
      (λ i. (e i).number, λ i. (tt, (tt, (tt, ((e i).channel, ((e i).detector, tt))))));
  read_tag_is = λ _ g x h d. let e = (λ i. read_tag (d i) (h i)) ∙ all_differ in (x.allowed.0 ∙ (λ i. (e i).number), λ i. (tt, (tt, ((x.allowed.1 ∙ (λ j. numbers_of (e j).tag)) i, tt))));
  row9 = λ _ g x h k d. let e = x.allowed ∙ (λ i. elapsed_of (d i) (h i) (k i)) ∙ row9.forward in (λ i. (e i).number, λ i. (tt, (tt, (tt, ((e i).ms, tt)))));
  leap = λ _ g x h k d. let e = x.allowed ∙ (λ i. elapsed_of (d i) (h i) (k i)) ∙ across_leap.with in (λ i. (e i).number, λ i. (tt, (tt, (tt, ((e i).ms, tt)))));
  no_channel = λ _ g x z c.
      let e = no_257 g.1.0.now g.0.now g.1.1.0 g.1.1.1.0 z c in
      (x.allowed.0 ∙ ap (λ (a : Asked). a.number) e, λ i. (tt, (tt, (tt, (tt, ((x.allowed.1.0 ∙ ap (λ (a : Asked). a.word) e) i, ((x.allowed.1.1 ∙ ap (λ (a : Asked). marks.mark a.suspect) e) i, tt)))))));
  kept = λ _ g x h b v t d.
      let p = x.allowed in
      let e = (λ i. step_of (d i) (watch_in (h i)) (up_to 255 (b i)) (up_to 255 (v i)) (t i)) ∙ keeps in
      (p.0 ∙ (λ i. number_of (e i).verdict), λ i. places ((p.1.1.1.1 ∙ (λ j. row_after (e j) (h j))) i) ((p.1.0 ∙ (λ j. kind_of (e j).verdict)) i) ((p.1.1.0 ∙ (λ j. fill_of (e j).verdict)) i) ((p.1.1.1.0 ∙ (λ j. filled_of (e j).verdict)) i));
  complete = λ _ g x h b v t d.
      let p = x.allowed in
      let e = (λ i. step_of (d i) (watch_in (h i)) (up_to 255 (b i)) (up_to 255 (v i)) (t i)) ∙ completes in
      (p.0 ∙ (λ i. number_of (e i).verdict), λ i. places ((p.1.1.1.1 ∙ (λ j. row_after (e j) (h j))) i) ((p.1.0 ∙ (λ j. kind_of (e j).verdict)) i) ((p.1.1.0 ∙ (λ j. fill_of (e j).verdict)) i) ((p.1.1.1.0 ∙ (λ j. filled_of (e j).verdict)) i));
  anew = λ _ g x h b v t d.
      let p = x.allowed in
      let e = (λ i. step_of (d i) (watch_in (h i)) (up_to 255 (b i)) (up_to 255 (v i)) (t i)) ∙ breaks in
      (p.0 ∙ (λ i. number_of (e i).verdict), λ i. places ((p.1.1.1.1 ∙ (λ j. row_after (e j) (h j))) i) ((p.1.0 ∙ (λ j. kind_of (e j).verdict)) i) ((p.1.1.0 ∙ (λ j. fill_of (e j).verdict)) i) ((p.1.1.1.0 ∙ (λ j. filled_of (e j).verdict)) i));
  row7 = λ _ g x f s c r.
      let field = g.0.now in let size = g.1.0 in let count = g.1.1.0 in let room = g.1.1.1.0.now in (
        x.allowed.0 ∙ take_cut count field room size ∙ (λ i. take_answer (s i) (c i) (f i) (length (r i))),
        λ i. (tt, (tt, (tt, ((x.allowed.1 ∙ room_cut count field room size ∙ (λ j. room_taken (s j) (c j) (f j) (r j)) ∙ ap (λ (ws : List ℕ). ws ++ (5 ∷ [])) row7) i, tt)))),
      );
  field = λ _ g x h z. let p = x.allowed in
      let e = (λ i. found_at (h i) (z i)) ∙ found_258 in
      (p.0 ∙ ap code_of e, λ i. (tt, (tt, ((p.1.0 ∙ (λ j. (answered (e j)).tag)) i, ((p.1.1.0 ∙ (λ j. (answered (e j)).start)) i, ((p.1.1.1 ∙ (λ j. (answered (e j)).length)) i, tt))))));
  cut = λ _ g x h z. let p = x.allowed in
      let e = (λ i. found_at (h i) (z i)) ∙ found_257 in
      (p.0 ∙ ap code_of e, λ i. (tt, (tt, ((p.1.0 ∙ (λ j. (answered (e j)).tag)) i, ((p.1.1.0 ∙ (λ j. (answered (e j)).start)) i, ((p.1.1.1 ∙ (λ j. (answered (e j)).length)) i, tt))))));
  line_text_is = λ _ g x s b v c n r. let p = x.allowed in
      let t = (λ i. line_text (line_from (s i) (b i) (v i) (c i) (n i))) ∙ text_1 in
      (p.0 ∙ (λ i. put_number (r i) (t i)), λ i. (tt, (tt, (tt, (tt, (tt, ((p.1.1 ∙ (λ j. laid_inside (r j) 0 (t j))) i, ((p.1.0 ∙ (λ j. put_length (r j) (t j))) i, tt))))))));
}
