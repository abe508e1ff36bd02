-- The C interface, function by function as include/rahmisve.h has it: what is answered, and what stands in the places lent for the answer.
-- Each answers what the library does for the numbers that C gives, none of them cut to fit a smaller type: 256 is not block 0. What the
-- library answers is said in the other files of this folder.
-- Assumes nothing.
use Rattle.std.specs.Prelude.{Option, Some, None, ℕ, zero, suc, ◌+◌, ◌*◌, ◌^◌, ◌≤◌, ◌<◌, min, ◌≡◌, ◌⊎◌, Bool, true, false, List, [], ◌∷◌, ◌++◌, map, pos, length, get_or, drop, replicate}
use contract.Lifetimes.{Lfts}
use denote.Triple.Entry.{Args, Res}
use denote.Triple.Clauses.{Ended, Lasts}
use Rattle.bits.specs.Bits.{Below}
use Rattle.bits.specs.Fields.{words_of, field_of}
use Rattle.check_rule.specs.Check.{check_word}
use Rattle.header.specs.Plans.{plan_of}
use Rattle.block.specs.Answers.{answer_of, room_after}
use Rattle.writer.specs.Answers.{written_of, room_written}
use Rattle.records.specs.Records.{part_of}
use Rattle.placement.specs.Placement.{place_of}
use Rattle.parity.specs.Sections.{sections_of}
use Rattle.parity.specs.declared.Layout.TheVariants.{ImagerSpacelook, SounderSpacelook}
use Rattle.tag.specs.Tags.{read_tag, write_tag}
use Rattle.time.specs.Times.{elapsed_of}
use Rattle.tag.specs.declared.Tag.{Tag}
use Rattle.detectors.specs.declared.Detector.{Detector}
use Rattle.sounder.specs.Judging.{status_of, asked_of}
use Rattle.watch_rule.specs.declared.Closing.TheVariants.{ClockBack, Late, Broken, Complete}
use Rattle.watch_bounds.specs.declared.Watch.{Watch}
use Rattle.watch.specs.Verdicts.{Verdict, Refused, Stray, Opened, Kept, Closed, number_of, fill_of, count_of}
use Rattle.watch.specs.Rules.{step_of}
use Rattle.recording.specs.Found.{found_at}
use Rattle.recording.specs.declared.Found.{Found}
use Rattle.recording.specs.declared.Found.TheVariants.{Whole, Cut, End}
use Rattle.text.specs.Texts.{bytes_of}
use Rattle.listing.specs.Texts.{line_text, last_text}
use Rattle.salvaging.specs.Answers.{salvaged_of, recording_after, report_after, scratch_after}
use Rattle.c_numbers.specs.contracts.rahmisve_version
use Rattle.c_numbers.proofs.rahmisve_version.Reads as rahmisve_version_reads
use Rattle.c_fields.specs.contracts.rahmisve_check_word
use Rattle.c_fields.proofs.rahmisve_check_word.Reads as rahmisve_check_word_reads
use Rattle.c_fields.specs.contracts.rahmisve_take_words
use Rattle.c_fields.proofs.rahmisve_take_words.Reads as rahmisve_take_words_reads
use Rattle.c_fields.specs.contracts.rahmisve_put_words
use Rattle.c_fields.proofs.rahmisve_put_words.Reads as rahmisve_put_words_reads
use Rattle.c_blocks.specs.contracts.rahmisve_read
use Rattle.c_blocks.proofs.rahmisve_read.Reads as rahmisve_read_reads
use Rattle.c_blocks.specs.contracts.rahmisve_plan
use Rattle.c_blocks.proofs.rahmisve_plan.Reads as rahmisve_plan_reads
use Rattle.c_blocks.specs.contracts.rahmisve_write
use Rattle.c_blocks.proofs.rahmisve_write.Reads as rahmisve_write_reads
use Rattle.c_records.specs.contracts.rahmisve_record
use Rattle.c_records.proofs.rahmisve_record.Reads as rahmisve_record_reads
use Rattle.c_records.specs.contracts.rahmisve_place
use Rattle.c_records.proofs.rahmisve_place.Reads as rahmisve_place_reads
use Rattle.c_parity.specs.contracts.rahmisve_parity_imager
use Rattle.c_parity.proofs.rahmisve_parity_imager.Reads as rahmisve_parity_imager_reads
use Rattle.c_parity.specs.contracts.rahmisve_parity_sounder
use Rattle.c_parity.proofs.rahmisve_parity_sounder.Reads as rahmisve_parity_sounder_reads
use Rattle.c_tags.specs.contracts.rahmisve_read_tag
use Rattle.c_tags.proofs.rahmisve_read_tag.Reads as rahmisve_read_tag_reads
use Rattle.c_tags.specs.contracts.rahmisve_write_tag
use Rattle.c_tags.proofs.rahmisve_write_tag.Reads as rahmisve_write_tag_reads
use Rattle.c_tags.specs.contracts.rahmisve_elapsed
use Rattle.c_tags.proofs.rahmisve_elapsed.Reads as rahmisve_elapsed_reads
use Rattle.c_sounder.specs.contracts.rahmisve_sounder_status
use Rattle.c_sounder.proofs.rahmisve_sounder_status.Reads as rahmisve_sounder_status_reads
use Rattle.c_sounder.specs.contracts.rahmisve_sounder_suspect
use Rattle.c_sounder.proofs.rahmisve_sounder_suspect.Reads as rahmisve_sounder_suspect_reads
use Rattle.c_watch.specs.contracts.rahmisve_watch_begin
use Rattle.c_watch.proofs.rahmisve_watch_begin.Reads as rahmisve_watch_begin_reads
use Rattle.c_watch.specs.contracts.rahmisve_watch_offer
use Rattle.c_watch.proofs.rahmisve_watch_offer.Reads as rahmisve_watch_offer_reads
use Rattle.c_recording.specs.contracts.rahmisve_next_field
use Rattle.c_recording.proofs.rahmisve_next_field.Reads as rahmisve_next_field_reads
use Rattle.c_recording.specs.contracts.rahmisve_line
use Rattle.c_recording.proofs.rahmisve_line.Reads as rahmisve_line_reads
use Rattle.c_recording.specs.contracts.rahmisve_first_text
use Rattle.c_recording.proofs.rahmisve_first_text.Reads as rahmisve_first_text_reads
use Rattle.c_recording.specs.contracts.rahmisve_line_text
use Rattle.c_recording.proofs.rahmisve_line_text.Reads as rahmisve_line_text_reads
use Rattle.c_recording.specs.contracts.rahmisve_last_text
use Rattle.c_recording.proofs.rahmisve_last_text.Reads as rahmisve_last_text_reads
use Rattle.c_salvage.specs.contracts.rahmisve_salvage
use Rattle.c_salvage.proofs.rahmisve_salvage.Reads as rahmisve_salvage_reads
use Rattle.scope.specs.Notions.{◌if◌, FirstOf}
use Rattle.scope.specs.Outcomes.{Contract, Outcome}

-- Every outcome that a function's contract allows is so: of the arguments in their order, the answer, and the places afterwards, in the
-- order of the arguments too. What a lent place held before is `now` of it; `tt` is of one that is not written.
abbrev pub Every : (T : Ended) → Contract T → ((κs : Lfts T.signature.lifetimes) (given : Args T.signature κs) → Res T.signature κs → Lasts T κs given → Type 0) → Type 0
Every T allows So = (κs : Lfts T.signature.lifetimes) (given : Args T.signature κs) (x : Outcome T allows κs given) → So κs given x.answer x.left

-- a mark is 1 where it is on, else 0; any number but 0 puts one on
abbrev pub mark : Bool → ℕ
mark true = 1
mark false = 0

abbrev pub is_on : ℕ → Bool
is_on zero = false
is_on (suc n) = true

-- a time is seven numbers in a row; read from a place on
abbrev pub time : Tag → List ℕ
time t = t.year ∷ t.day ∷ t.hour ∷ t.minute ∷ t.second ∷ t.ms ∷ mark t.flywheel ∷ []

abbrev pub time_at : ℕ → List ℕ → Tag
time_at n row =
    let at : ℕ → ℕ = λ k. get_or row (n + k) 0 in
    record { year = get_or row n 0; day = at 1; hour = at 2; minute = at 3; second = at 4; ms = at 5; flywheel = is_on (at 6) }

-- a watch is eleven: open, expected block, the last tag in places 2 to 8, limit, set of fill blocks
abbrev pub watch : Watch → List ℕ
watch w = mark w.opened ∷ w.expected ∷ (time w.last ++ (w.limit ∷ w.fill ∷ []))

abbrev pub watch_at : List ℕ → Watch
watch_at row = record { opened = is_on (get_or row 0 0); expected = get_or row 1 0; last = time_at 2 row; limit = get_or row 9 0; fill = get_or row 10 0 }

-- the first suspect detector in numbers, which are zeros where there is none
abbrev pub channel : Option Detector → ℕ
channel (Some d) = d.channel
channel None = 0

abbrev pub detector : Option Detector → ℕ
detector (Some d) = d.number
detector None = 0

-- what an offer did
abbrev pub code : Verdict → ℕ
code (Refused n) = 0
code Stray = 1
code Opened = 2
code Kept = 3
code (Closed ClockBack fill count) = 4
code (Closed Late fill count) = 5
code (Closed Broken fill count) = 6
code (Closed Complete fill count) = 7

-- what was found in a recording, and zeros where it is no field
abbrev pub Tells : Found → (answer tag start long : ℕ) → Type 0
Tells End answer tag start long = (answer ≡ 0) × (tag ≡ 0) × (start ≡ 0) × (long ≡ 0)
Tells (Whole t s n) answer tag start long = (answer ≡ 1) × (tag ≡ t) × (start ≡ s) × (long ≡ n)
Tells Cut answer tag start long = (answer ≡ 2) × (tag ≡ 0) × (start ≡ 0) × (long ≡ 0)

-- a text stands at the front of the room where it fits; where it does not, the answer is 9 and the room is as it was
abbrev pub Puts : (text room : List ℕ) (answer : ℕ) (after : List ℕ) (bytes : ℕ) → Type 0
Puts text room answer after bytes =
    (length text ≤ length room → (answer ≡ 0) × (after ≡ text ++ drop (length text) room) × (bytes ≡ length text))
    × (length room < length text → (answer ≡ 9) × (after ≡ room) × (bytes ≡ 0))

pub record FromC : Type 0 where
  -- blocks
  pub read : Every rahmisve_read.ended rahmisve_read_reads.Learnt (λ _ (block, (room, _)) answer (_, (words, (header, (copies, (count, _))))).
      let a = answer_of block.now (length room.now) in
      (answer ≡ a.number) × (words ≡ room_after block.now room.now) × (header ≡ a.header)
      × (copies ≡ mark a.first ∷ mark a.second ∷ mark a.third ∷ []) × (count ≡ a.words))
  pub plan : Every rahmisve_plan.ended rahmisve_plan_reads.Learnt (λ _ (header, _) answer (_, (block, (version, (size, (records, (count, (bytes, _))))))).
      let p = plan_of header.now in
      (answer ≡ p.number) × (block ≡ p.block) × (version ≡ p.version) × (size ≡ p.size) × (records ≡ p.records) × (count ≡ p.words) × (bytes ≡ p.bytes))
  pub write : Every rahmisve_write.ended rahmisve_write_reads.Learnt (λ _ (header, (words, (room, _))) answer (_, (_, (block, (bytes, _)))).
      let w = written_of header.now words.now (length room.now) in
      (answer ≡ w.number) × (block ≡ room_written header.now words.now room.now) × (bytes ≡ w.bytes))
  -- detector records
  pub part : Every rahmisve_record.ended rahmisve_record_reads.Learnt (λ _ (header, (count, (k, _))) answer (_, (_, (_, (start, (long, _))))).
      let p = part_of header.now k count in
      (answer ≡ p.number) × (start ≡ p.start) × (long ≡ p.length))
  pub place : Every rahmisve_place.ended rahmisve_place_reads.Learnt (λ _ (block, (version, (k, _))) answer (_, (_, (_, (channel, (detector, _))))).
      let p = place_of block version k in
      (answer ≡ p.number) × (channel ≡ p.channel) × (detector ≡ p.detector))
  -- longitudinal parity, a mark for each section in their order
  pub imager : Every rahmisve_parity_imager.ended rahmisve_parity_imager_reads.Learnt (λ _ (words, _) answer (_, (holds, _)).
      let j = sections_of ImagerSpacelook words.now in
      (answer ≡ j.number)
      × (holds ≡ mark (get_or j.holds 0 false) ∷ mark (get_or j.holds 1 false) ∷ mark (get_or j.holds 2 false) ∷ mark (get_or j.holds 3 false) ∷ []))
  pub sounder : Every rahmisve_parity_sounder.ended rahmisve_parity_sounder_reads.Learnt (λ _ (words, _) answer (_, (holds, _)).
      let j = sections_of SounderSpacelook words.now in
      (answer ≡ j.number) × (holds ≡ mark (get_or j.holds 0 false) ∷ mark (get_or j.holds 1 false) ∷ []))
  -- time tags, with the leap days; elapsed from the first to the second
  pub read_tag_is : Every rahmisve_read_tag.ended rahmisve_read_tag_reads.Learnt (λ _ (tag, (leaps, _)) answer (_, (_, (numbers, _))).
      (answer ≡ (read_tag leaps.now tag.now).number) × (numbers ≡ time (read_tag leaps.now tag.now).tag))
  pub write_tag_is : Every rahmisve_write_tag.ended rahmisve_write_tag_reads.Learnt (λ _ (numbers, (leaps, _)) answer (_, (_, (tag, _))).
      let w = write_tag leaps.now (time_at 0 numbers.now) in
      (answer ≡ w.number) × (tag ≡ w.bytes))
  pub elapsed : Every rahmisve_elapsed.ended rahmisve_elapsed_reads.Learnt (λ _ (from, (to, (leaps, _))) answer (_, (_, (_, (ms, _)))).
      (answer ≡ (elapsed_of leaps.now from.now to.now).number) × (ms ≡ (elapsed_of leaps.now from.now to.now).ms))
  -- the Sounder's status: the word that 22 names, how many are suspect, channel and detector of the first, both counts, the frame fields; then
  -- for each tag its answer and its time
  pub sounder_status : Every rahmisve_sounder_status.ended rahmisve_sounder_status_reads.Learnt (λ _ (words, (leaps, _)) answer (_, (_, (numbers, (tags, _)))).
      let s = status_of leaps.now words.now in
      (answer ≡ s.number)
      × (numbers ≡ s.word ∷ s.suspects ∷ channel s.first ∷ detector s.first ∷ s.raw ∷ s.blocks ∷ s.frame)
      × (tags ≡ map (λ t. t.number ∷ time t.tag) s.tags))
  pub sounder_suspect : Every rahmisve_sounder_suspect.ended rahmisve_sounder_suspect_reads.Learnt (λ _ (words, (leaps, (c, (d, _)))) answer (_, (_, (_, (_, (word, (suspect, _)))))).
      let a = asked_of leaps.now words.now c d in
      (answer ≡ a.number) × (word ≡ a.word) × (suspect ≡ mark a.suspect))
  -- the scan watch: a limit above 3,600,000 ms is 16, and the watch is as it was
  pub begin : Every rahmisve_watch_begin.ended rahmisve_watch_begin_reads.Learnt (λ _ (limit, (row, _)) answer (_, (begun, _)).
      (limit ≤ 3600000 → (answer ≡ 0) × (begun ≡ 0 ∷ 0 ∷ 0 ∷ 0 ∷ 0 ∷ 0 ∷ 0 ∷ 0 ∷ 0 ∷ limit ∷ 0 ∷ []))
      × (3600000 < limit → (answer ≡ 16) × (begun ≡ row.now)))
  -- refused (0), and as a stray (1), it is as it was; the set and its count are what a closing hands over, else 0
  pub offer : Every rahmisve_watch_offer.ended rahmisve_watch_offer_reads.Learnt (λ _ (row, (block, (valid, (tag, (leaps, _))))) answer (after, (_, (_, (_, (_, (verdict, (fill, (count, _)))))))).
      let s = step_of leaps.now (watch_at row.now) block valid tag.now in
      (answer ≡ number_of s.verdict) × (verdict ≡ code s.verdict) × (fill ≡ fill_of s.verdict) × (count ≡ count_of s.verdict)
      × (verdict ≤ 1 → after ≡ row.now) × (2 ≤ verdict → after ≡ watch s.next))
  -- recordings: what stands from a byte on
  pub next : Every rahmisve_next_field.ended rahmisve_next_field_reads.Learnt (λ _ (recording, (at, _)) answer (_, (_, (tag, (start, (long, _))))).
      Tells (found_at recording.now at) answer tag start long)
  -- the line of the field behind so many; a tag other than 1 is 15, and of a refusal the block's numbers are zero
  pub line : Every rahmisve_line.ended rahmisve_line_reads.Learnt (λ _ (before, (tag, (body, (room, _)))) answer (_, (_, (_, (words, (seq, (block, (version, (count, _)))))))).
      let a = answer_of body.now (length room.now) in
      (before < 18446744073709551615 → seq ≡ before + 1) × (18446744073709551615 ≤ before → seq ≡ before)
      × ((tag ≡ 1 → ⊥) → (answer ≡ 15) × (words ≡ room.now)) × (tag ≡ 1 → (answer ≡ a.number) × (words ≡ room_after body.now room.now))
      × ((answer ≡ 0 → ⊥) → (block ≡ 0) × (version ≡ 0) × (count ≡ 0))
      × (answer ≡ 0 → (block ≡ (plan_of a.header).block) × (version ≡ (plan_of a.header).version) × (count ≡ a.words)))
  -- the listing's text; in a line a block, a version or an answer above 255 counts as 255
  pub first_text_is : Every rahmisve_first_text.ended rahmisve_first_text_reads.Learnt (λ _ (room, _) answer (after, (bytes, _)).
      Puts (bytes_of "seq block version words answer\n") room.now answer after bytes)
  pub line_text_is : Every rahmisve_line_text.ended rahmisve_line_text_reads.Learnt (λ _ (seq, (block, (version, (count, (number, (room, _)))))) answer (_, (_, (_, (_, (_, (after, (bytes, _))))))).
      Puts (line_text (record { seq = seq; answer = min number 255; block = min block 255; version = min version 255; words = count })) room.now answer after bytes)
  pub last_text_is : Every rahmisve_last_text.ended rahmisve_last_text_reads.Learnt (λ _ (cut, (fields, (room, _))) answer (_, (_, (after, (bytes, _)))).
      Puts (last_text (is_on cut) fields) room.now answer after bytes)
  -- salvage: how long the recording is, and how many entries and blocks the report has
  pub salvage : Every rahmisve_salvage.ended rahmisve_salvage_reads.Learnt (λ _ (input, (recording, (report, (scratch, _)))) answer (_, (recorded, (reported, (read, (bytes, (entries, (blocks, _))))))).
      let m = length recording.now in
      let r = length report.now in
      let w = length scratch.now in
      let s = salvaged_of input.now m r w in
      (answer ≡ s.number) × (bytes ≡ s.bytes) × (entries ≡ s.entries) × (blocks ≡ s.blocks)
      × (recorded ≡ recording_after input.now recording.now r w) × (reported ≡ report_after input.now m report.now w)
      × (read ≡ scratch_after input.now m r scratch.now))
  -- this interface
  pub version : Every rahmisve_version.ended rahmisve_version_reads.Learnt (λ _ _ answer _. answer ≡ 6)
  -- what a block is made of
  pub check : Every rahmisve_check_word.ended rahmisve_check_word_reads.Learnt (λ _ (message, _) answer _. answer ≡ check_word message.now)
  -- 6: a size outside 1 to 16. 8: the field has fewer bits. 9: less room
  pub take : Every rahmisve_take_words.ended rahmisve_take_words_reads.Learnt (λ _ (field, (size, (count, (room, _)))) answer (_, (_, (_, (words, _)))).
      FirstOf (6 if ((size < 1) ⊎ (16 < size)) ∷ 8 if (length field.now * 8 < count * size) ∷ 9 if (length room.now < count) ∷ []) answer
      × (answer ≡ 0 → words ≡ words_of size count field.now ++ drop count room.now) × ((answer ≡ 0 → ⊥) → words ≡ room.now))
  -- 9: the field has fewer bits. 14: a word too large
  pub put : Every rahmisve_put_words.ended rahmisve_put_words_reads.Learnt (λ _ (words, (size, (field, _))) answer (_, (_, (filled, _))).
      FirstOf (6 if ((size < 1) ⊎ (16 < size)) ∷ 9 if (length field.now * 8 < length words.now * size) ∷ 14 if (Below (2 ^ size) words.now → ⊥) ∷ []) answer
      × (answer ≡ 0 → filled ≡ field_of size (length field.now) words.now) × ((answer ≡ 0 → ⊥) → filled ≡ field.now))

-- Rows of the table, and others, whose numbers all differ, through C.
pub record RowsFromC : Type 0 where
  -- a header of block 3, version 2, with 20 words
  pub plan : Every rahmisve_plan.ended rahmisve_plan_reads.Learnt (λ _ (header, _) answer left.
      header.now ≡ 3 ∷ 10 ∷ 0 ∷ 22 ∷ 0 ∷ 0 ∷ 0 ∷ 2 ∷ replicate 20 0 → (answer ≡ 0) × (left ≡ (tt, (3, (2, (10, (1, (20, (2680, tt)))))))))
  -- a header of block 2, version 3, with 84 words: the fourth of its records, and what that holds
  pub plan_84 : Every rahmisve_plan.ended rahmisve_plan_reads.Learnt (λ _ (header, _) answer left.
      header.now ≡ 2 ∷ 10 ∷ 0 ∷ 86 ∷ 0 ∷ 0 ∷ 0 ∷ 3 ∷ replicate 20 0 → (answer ≡ 0) × (left ≡ (tt, (2, (3, (10, (4, (84, (2680, tt)))))))))
  pub part_84 : Every rahmisve_record.ended rahmisve_record_reads.Learnt (λ _ (header, (count, (k, _))) answer left.
      header.now ≡ 2 ∷ 10 ∷ 0 ∷ 86 ∷ 0 ∷ 0 ∷ 0 ∷ 3 ∷ replicate 20 0 → count ≡ 84 → k ≡ 4 → (answer ≡ 0) × (left ≡ (tt, (tt, (tt, (63, (21, tt)))))))
  pub place : Every rahmisve_place.ended rahmisve_place_reads.Learnt (λ _ (block, (version, (k, _))) answer left.
      block ≡ 2 → version ≡ 3 → k ≡ 4 → (answer ≡ 0) × (left ≡ (tt, (tt, (tt, (6, (2, tt)))))))
  -- there is no block 256
  pub no_place : Every rahmisve_place.ended rahmisve_place_reads.Learnt (λ _ (block, _) answer left. block ≡ 256 → (answer ≡ 4) × (left ≡ (tt, (tt, (tt, (0, (0, tt)))))))
  -- tag 19 87 A3 42 14 35 67 89 is 1987 day 234, 21:43:56.789, flywheel on
  pub read_tag_is : Every rahmisve_read_tag.ended rahmisve_read_tag_reads.Learnt (λ _ (tag, (leaps, _)) answer left.
      tag.now ≡ 0x19 ∷ 0x87 ∷ 0xA3 ∷ 0x42 ∷ 0x14 ∷ 0x35 ∷ 0x67 ∷ 0x89 ∷ [] → leaps.now ≡ []
      → (answer ≡ 0) × (left ≡ (tt, (tt, (1987 ∷ 234 ∷ 21 ∷ 43 ∷ 56 ∷ 789 ∷ 1 ∷ [], tt)))))
  -- row 9: 1 ms later
  pub row9 : Every rahmisve_elapsed.ended rahmisve_elapsed_reads.Learnt (λ _ (from, (to, (leaps, _))) answer left.
      from.now ≡ 0x20 ∷ 0x08 ∷ 0x06 ∷ 0x02 ∷ 0x35 ∷ 0x95 ∷ 0x99 ∷ 0x99 ∷ [] → to.now ≡ 0x20 ∷ 0x08 ∷ 0x06 ∷ 0x10 ∷ 0x00 ∷ 0x00 ∷ 0x00 ∷ 0x00 ∷ [] → leaps.now ≡ []
      → (answer ≡ 0) × (left ≡ (tt, (tt, (tt, (pos 1, tt))))))
  -- 2016 day 366 listed: from 23:59:59.000 to midnight it is 2,000 ms
  pub leap : Every rahmisve_elapsed.ended rahmisve_elapsed_reads.Learnt (λ _ (from, (to, (leaps, _))) answer left.
      from.now ≡ 0x20 ∷ 0x16 ∷ 0x36 ∷ 0x62 ∷ 0x35 ∷ 0x95 ∷ 0x90 ∷ 0x00 ∷ [] → to.now ≡ 0x20 ∷ 0x17 ∷ 0x00 ∷ 0x10 ∷ 0x00 ∷ 0x00 ∷ 0x00 ∷ 0x00 ∷ [] → leaps.now ≡ 2016366 ∷ []
      → (answer ≡ 0) × (left ≡ (tt, (tt, (tt, (pos 2000, tt))))))
  -- the Sounder has no channel 257, which is not channel 1
  pub no_channel : Every rahmisve_sounder_suspect.ended rahmisve_sounder_suspect_reads.Learnt (λ _ (words, (leaps, (c, _))) answer left.
      (status_of leaps.now words.now).number ≡ 0 → c ≡ 257 → (answer ≡ 13) × (left ≡ (tt, (tt, (tt, (tt, (0, (0, tt))))))))
  -- block 3 comes to an open watch that expects it, 2,123 ms after the last tag, with the mark off, and is fill as block 0 was
  pub kept : Every rahmisve_watch_offer.ended rahmisve_watch_offer_reads.Learnt (λ _ (row, (block, (valid, (tag, (leaps, _))))) answer left.
      row.now ≡ 1 ∷ 3 ∷ 1987 ∷ 234 ∷ 21 ∷ 43 ∷ 56 ∷ 789 ∷ 1 ∷ 5000 ∷ 1 ∷ [] → block ≡ 3 → valid ≡ 2 → tag.now ≡ 0x19 ∷ 0x87 ∷ 0x23 ∷ 0x42 ∷ 0x14 ∷ 0x35 ∷ 0x89 ∷ 0x12 ∷ []
      → leaps.now ≡ []
      → (answer ≡ 0) × (left ≡ (1 ∷ 4 ∷ 1987 ∷ 234 ∷ 21 ∷ 43 ∷ 58 ∷ 912 ∷ 0 ∷ 5000 ∷ 9 ∷ [], (tt, (tt, (tt, (tt, (3, (0, (0, tt))))))))))
  -- block 10 completes a scan whose blocks 2 and 5 were fill, and is fill too: 4 + 32 + 1,024
  pub complete : Every rahmisve_watch_offer.ended rahmisve_watch_offer_reads.Learnt (λ _ (row, (block, (valid, (tag, (leaps, _))))) answer left.
      row.now ≡ 1 ∷ 10 ∷ 1987 ∷ 234 ∷ 21 ∷ 43 ∷ 56 ∷ 789 ∷ 1 ∷ 5000 ∷ 36 ∷ [] → block ≡ 10 → valid ≡ 0 → tag.now ≡ 0x19 ∷ 0x87 ∷ 0x23 ∷ 0x42 ∷ 0x14 ∷ 0x35 ∷ 0x89 ∷ 0x12 ∷ []
      → leaps.now ≡ []
      → (answer ≡ 0) × (left ≡ (0 ∷ 0 ∷ 0 ∷ 0 ∷ 0 ∷ 0 ∷ 0 ∷ 0 ∷ 0 ∷ 5000 ∷ 0 ∷ [], (tt, (tt, (tt, (tt, (7, (1060, (3, tt))))))))))
  -- block 0 breaks a scan of which block 1 was fill, and is fill itself: 2 is handed over, and the set of the new scan is 1
  pub anew : Every rahmisve_watch_offer.ended rahmisve_watch_offer_reads.Learnt (λ _ (row, (block, (valid, (tag, (leaps, _))))) answer left.
      row.now ≡ 1 ∷ 2 ∷ 1987 ∷ 234 ∷ 21 ∷ 43 ∷ 56 ∷ 789 ∷ 1 ∷ 5000 ∷ 2 ∷ [] → block ≡ 0 → valid ≡ 255 → tag.now ≡ 0x19 ∷ 0x87 ∷ 0x23 ∷ 0x42 ∷ 0x14 ∷ 0x35 ∷ 0x89 ∷ 0x12 ∷ []
      → leaps.now ≡ []
      → (answer ≡ 0) × (left ≡ (1 ∷ 1 ∷ 1987 ∷ 234 ∷ 21 ∷ 43 ∷ 58 ∷ 912 ∷ 0 ∷ 5000 ∷ 1 ∷ [], (tt, (tt, (tt, (tt, (6, (2, (1, tt))))))))))
  -- row 7, in a room of five
  pub row7 : Every rahmisve_take_words.ended rahmisve_take_words_reads.Learnt (λ _ (field, (size, (count, (room, _)))) answer left.
      field.now ≡ 0x00 ∷ 0x40 ∷ 0x20 ∷ 0x0C ∷ 0x04 ∷ [] → size ≡ 10 → count ≡ 4 → room.now ≡ 9 ∷ 8 ∷ 7 ∷ 6 ∷ 5 ∷ []
      → (answer ≡ 0) × (left ≡ (tt, (tt, (tt, (1 ∷ 2 ∷ 3 ∷ 4 ∷ 5 ∷ [], tt))))))
  -- a field of tag 1 whose length 01 02 is 258; with a byte fewer it is cut
  pub field : Every rahmisve_next_field.ended rahmisve_next_field_reads.Learnt (λ _ (recording, (at, _)) answer left.
      recording.now ≡ 0x01 ∷ 0x01 ∷ 0x02 ∷ replicate 258 0 → at ≡ 0 → (answer ≡ 1) × (left ≡ (tt, (tt, (1, (3, (258, tt)))))))
  pub cut : Every rahmisve_next_field.ended rahmisve_next_field_reads.Learnt (λ _ (recording, (at, _)) answer left.
      recording.now ≡ 0x01 ∷ 0x01 ∷ 0x02 ∷ replicate 257 0 → at ≡ 0 → (answer ≡ 2) × (left ≡ (tt, (tt, (0, (0, (0, tt)))))))
  -- line 1 of block 3, version 2, with 20 words: 1 3 2 20 0 and LF, in a room of twelve
  pub line_text_is : Every rahmisve_line_text.ended rahmisve_line_text_reads.Learnt (λ _ (seq, (block, (version, (count, (number, (room, _)))))) answer left.
      seq ≡ 1 → block ≡ 3 → version ≡ 2 → count ≡ 20 → number ≡ 0 → room.now ≡ replicate 12 7
      → (answer ≡ 0)
      × (left ≡ (tt, (tt, (tt, (tt, (tt, (0x31 ∷ 0x20 ∷ 0x33 ∷ 0x20 ∷ 0x32 ∷ 0x20 ∷ 0x32 ∷ 0x30 ∷ 0x20 ∷ 0x30 ∷ 0x0A ∷ 7 ∷ [], (11, tt)))))))))
