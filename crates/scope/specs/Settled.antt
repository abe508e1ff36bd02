-- Every public function but those that ask the system, and that its contract settles its outcome. Assumes nothing.
use Rattle.std.specs.Prelude.{◌≡◌}
use Rattle.ground.specs.contracts.Refusal.number
use Rattle.ground.proofs.Refusal.number.Reads as number_reads
use Rattle.bits.specs.contracts.two_bytes
use Rattle.bits.proofs.two_bytes.Reads as two_bytes_reads
use Rattle.bits.specs.contracts.turned
use Rattle.bits.proofs.turned.Reads as turned_reads
use Rattle.bits.specs.contracts.fitting.is_bad_size
use Rattle.bits.proofs.fitting.is_bad_size.Reads as is_bad_size_reads
use Rattle.bits.specs.contracts.fitting.they_fit
use Rattle.bits.proofs.fitting.they_fit.Reads as they_fit_reads
use Rattle.bits.specs.contracts.fill_is_zero
use Rattle.bits.proofs.fill_is_zero.Reads as fill_is_zero_reads
use Rattle.taking.specs.contracts.take_words
use Rattle.taking.proofs.take_words.Reads as take_words_reads
use Rattle.putting.specs.contracts.put_words
use Rattle.putting.proofs.put_words.Reads as put_words_reads
use Rattle.check_eight.specs.contracts.word_behind
use Rattle.check_eight.proofs.word_behind.Reads as word_behind_reads
use Rattle.check_eight.specs.contracts.check_from
use Rattle.check_eight.proofs.check_from.Reads as check_from_reads
use Rattle.check_eight.specs.contracts.check_by_eight
use Rattle.check_eight.proofs.check_by_eight.Reads as check_by_eight_reads
use Rattle.check_window.specs.contracts.check_by_turn
use Rattle.check_window.proofs.check_by_turn.Reads as check_by_turn_reads
use Rattle.check_word.specs.contracts.check_word
use Rattle.check_word.proofs.check_word.Reads as check_word_reads
use Rattle.check_word.specs.contracts.passes
use Rattle.check_word.proofs.passes.Reads as passes_reads
use Rattle.room.specs.contracts.lay
use Rattle.room.proofs.lay.Reads as lay_reads
use Rattle.row.specs.contracts.to_visible
use Rattle.row.proofs.to_visible.Reads as to_visible_reads
use Rattle.row.specs.contracts.row_of
use Rattle.row.proofs.row_of.Reads as row_of_reads
use Rattle.row.specs.contracts.scan_of
use Rattle.row.proofs.scan_of.Reads as scan_of_reads
use Rattle.row.specs.contracts.permits
use Rattle.row.proofs.permits.Reads as permits_reads
use Rattle.row.specs.contracts.field_bytes
use Rattle.row.proofs.field_bytes.Reads as field_bytes_reads
use Rattle.copies.specs.contracts.common_copy
use Rattle.copies.proofs.common_copy.Reads as common_copy_reads
use Rattle.header.specs.contracts.plan_of
use Rattle.header.proofs.plan_of.Reads as plan_of_reads
use Rattle.block.specs.contracts.read_by
use Rattle.block.proofs.read_by.Reads as read_by_reads
use Rattle.block.specs.contracts.read
use Rattle.block.proofs.read.Reads as read_reads
use Rattle.records.specs.contracts.locate
use Rattle.records.proofs.locate.Reads as locate_reads
use Rattle.records.specs.contracts.record_in
use Rattle.records.proofs.record_in.Reads as record_in_reads
use Rattle.writer.specs.contracts.write
use Rattle.writer.proofs.write.Reads as write_reads
use Rattle.placement.specs.contracts.place
use Rattle.placement.proofs.place.Reads as place_reads
use Rattle.parity.specs.contracts.parity_of
use Rattle.parity.proofs.parity_of.Reads as parity_of_reads
use Rattle.parity.specs.contracts.ground_of
use Rattle.parity.proofs.ground_of.Reads as ground_of_reads
use Rattle.parity.specs.contracts.check_sections
use Rattle.parity.proofs.check_sections.Reads as check_sections_reads
use Rattle.detectors.specs.contracts.spare_is_zero
use Rattle.detectors.proofs.spare_is_zero.Reads as spare_is_zero_reads
use Rattle.detectors.specs.contracts.suspects_of
use Rattle.detectors.proofs.suspects_of.Reads as suspects_of_reads
use Rattle.detectors.specs.contracts.ask
use Rattle.detectors.proofs.ask.Reads as ask_reads
use Rattle.calendar.specs.contracts.days_in
use Rattle.calendar.proofs.days_in.Reads as days_in_reads
use Rattle.calendar.specs.contracts.is_good_list
use Rattle.calendar.proofs.is_good_list.Reads as is_good_list_reads
use Rattle.calendar.specs.contracts.is_listed
use Rattle.calendar.proofs.is_listed.Reads as is_listed_reads
use Rattle.calendar.specs.contracts.listed_before
use Rattle.calendar.proofs.listed_before.Reads as listed_before_reads
use Rattle.tag.specs.contracts.in_bounds
use Rattle.tag.proofs.in_bounds.Reads as in_bounds_reads
use Rattle.tag.specs.contracts.zero_tag
use Rattle.tag.proofs.zero_tag.Reads as zero_tag_reads
use Rattle.tag.specs.contracts.read_by as tag_read_by
use Rattle.tag.proofs.read_by.Reads as tag_read_by_reads
use Rattle.tag.specs.contracts.read_tag
use Rattle.tag.proofs.read_tag.Reads as read_tag_reads
use Rattle.tag.specs.contracts.write_tag
use Rattle.tag.proofs.write_tag.Reads as write_tag_reads
use Rattle.time.specs.contracts.between
use Rattle.time.proofs.between.Reads as between_reads
use Rattle.time.specs.contracts.elapsed
use Rattle.time.proofs.elapsed.Reads as elapsed_reads
use Rattle.sounder.specs.contracts.judge
use Rattle.sounder.proofs.judge.Reads as judge_reads
use Rattle.sounder.specs.contracts.ask as sounder_ask
use Rattle.sounder.proofs.ask.Reads as sounder_ask_reads
use Rattle.watch_rule.specs.contracts.rule_of
use Rattle.watch_rule.proofs.rule_of.Reads as rule_of_reads
use Rattle.watch_bounds.specs.contracts.too_long
use Rattle.watch_bounds.proofs.too_long.Reads as too_long_reads
use Rattle.watch_bounds.specs.contracts.lent
use Rattle.watch_bounds.proofs.lent.Reads as lent_reads
use Rattle.watch_bounds.specs.contracts.offered as tested
use Rattle.watch_bounds.proofs.offered.Reads as tested_reads
use Rattle.watch.specs.contracts.begin
use Rattle.watch.proofs.begin.Reads as begin_reads
use Rattle.watch.specs.contracts.step
use Rattle.watch.proofs.step.Reads as step_reads
use Rattle.watch.specs.contracts.offer
use Rattle.recording.specs.contracts.front_of
use Rattle.recording.proofs.front_of.Reads as front_of_reads
use Rattle.recording.specs.contracts.body_length
use Rattle.recording.proofs.body_length.Reads as body_length_reads
use Rattle.recording.specs.contracts.next_field
use Rattle.recording.proofs.next_field.Reads as next_field_reads
use Rattle.recording.specs.contracts.line_of
use Rattle.recording.proofs.line_of.Reads as line_of_reads
use Rattle.made.specs.contracts.bytes_by
use Rattle.made.proofs.bytes_by.Reads as bytes_by_reads
use Rattle.salvaging.specs.contracts.salvage
use Rattle.salvaging.proofs.salvage.Reads as salvage_reads
use Rattle.text.specs.contracts.put_part
use Rattle.text.proofs.put_part.Reads as put_part_reads
use Rattle.text.specs.contracts.put_column
use Rattle.text.proofs.put_column.Reads as put_column_reads
use Rattle.text.specs.contracts.put_text
use Rattle.text.proofs.put_text.Reads as put_text_reads
use Rattle.listing.specs.contracts.put_first
use Rattle.listing.proofs.put_first.Reads as put_first_reads
use Rattle.listing.specs.contracts.put_line
use Rattle.listing.proofs.put_line.Reads as put_line_reads
use Rattle.listing.specs.contracts.put_last
use Rattle.listing.proofs.put_last.Reads as put_last_reads
use Rattle.report.specs.contracts.put_first as report_first
use Rattle.report.proofs.put_first.Reads as report_first_reads
use Rattle.report.specs.contracts.put_entry
use Rattle.report.proofs.put_entry.Reads as put_entry_reads
use Rattle.report.specs.contracts.put_last as report_last
use Rattle.report.proofs.put_last.Reads as report_last_reads
use Rattle.c_numbers.specs.contracts.in_byte
use Rattle.c_numbers.proofs.in_byte.Reads as in_byte_reads
use Rattle.c_numbers.specs.contracts.in_pair
use Rattle.c_numbers.proofs.in_pair.Reads as in_pair_reads
use Rattle.c_numbers.specs.contracts.is_on
use Rattle.c_numbers.proofs.is_on.Reads as is_on_reads
use Rattle.c_numbers.specs.contracts.marked
use Rattle.c_numbers.proofs.marked.Reads as marked_reads
use Rattle.c_numbers.specs.contracts.rahmisve_version
use Rattle.c_numbers.proofs.rahmisve_version.Reads as rahmisve_version_reads
use Rattle.c_fields.specs.contracts.rahmisve_check_word
use Rattle.c_fields.proofs.rahmisve_check_word.Reads as rahmisve_check_word_reads
use Rattle.c_fields.specs.contracts.rahmisve_take_words
use Rattle.c_fields.proofs.rahmisve_take_words.Reads as rahmisve_take_words_reads
use Rattle.c_fields.specs.contracts.rahmisve_put_words
use Rattle.c_fields.proofs.rahmisve_put_words.Reads as rahmisve_put_words_reads
use Rattle.c_blocks.specs.contracts.rahmisve_read
use Rattle.c_blocks.proofs.rahmisve_read.Reads as rahmisve_read_reads
use Rattle.c_blocks.specs.contracts.rahmisve_plan
use Rattle.c_blocks.proofs.rahmisve_plan.Reads as rahmisve_plan_reads
use Rattle.c_blocks.specs.contracts.rahmisve_write
use Rattle.c_blocks.proofs.rahmisve_write.Reads as rahmisve_write_reads
use Rattle.c_records.specs.contracts.rahmisve_record
use Rattle.c_records.proofs.rahmisve_record.Reads as rahmisve_record_reads
use Rattle.c_records.specs.contracts.rahmisve_place
use Rattle.c_records.proofs.rahmisve_place.Reads as rahmisve_place_reads
use Rattle.c_parity.specs.contracts.rahmisve_parity_imager
use Rattle.c_parity.proofs.rahmisve_parity_imager.Reads as rahmisve_parity_imager_reads
use Rattle.c_parity.specs.contracts.rahmisve_parity_sounder
use Rattle.c_parity.proofs.rahmisve_parity_sounder.Reads as rahmisve_parity_sounder_reads
use Rattle.c_tags.specs.contracts.tag_of
use Rattle.c_tags.proofs.tag_of.Reads as tag_of_reads
use Rattle.c_tags.specs.contracts.numbers_of
use Rattle.c_tags.proofs.numbers_of.Reads as numbers_of_reads
use Rattle.c_tags.specs.contracts.rahmisve_read_tag
use Rattle.c_tags.proofs.rahmisve_read_tag.Reads as rahmisve_read_tag_reads
use Rattle.c_tags.specs.contracts.rahmisve_write_tag
use Rattle.c_tags.proofs.rahmisve_write_tag.Reads as rahmisve_write_tag_reads
use Rattle.c_tags.specs.contracts.rahmisve_elapsed
use Rattle.c_tags.proofs.rahmisve_elapsed.Reads as rahmisve_elapsed_reads
use Rattle.c_sounder.specs.contracts.rahmisve_sounder_status
use Rattle.c_sounder.proofs.rahmisve_sounder_status.Reads as rahmisve_sounder_status_reads
use Rattle.c_sounder.specs.contracts.rahmisve_sounder_suspect
use Rattle.c_sounder.proofs.rahmisve_sounder_suspect.Reads as rahmisve_sounder_suspect_reads
use Rattle.c_watch.specs.contracts.rahmisve_watch_begin
use Rattle.c_watch.proofs.rahmisve_watch_begin.Reads as rahmisve_watch_begin_reads
use Rattle.c_watch.specs.contracts.rahmisve_watch_offer
use Rattle.c_watch.proofs.rahmisve_watch_offer.Reads as rahmisve_watch_offer_reads
use Rattle.c_recording.specs.contracts.rahmisve_next_field
use Rattle.c_recording.proofs.rahmisve_next_field.Reads as rahmisve_next_field_reads
use Rattle.c_recording.specs.contracts.rahmisve_line
use Rattle.c_recording.proofs.rahmisve_line.Reads as rahmisve_line_reads
use Rattle.c_recording.specs.contracts.rahmisve_first_text
use Rattle.c_recording.proofs.rahmisve_first_text.Reads as rahmisve_first_text_reads
use Rattle.c_recording.specs.contracts.rahmisve_line_text
use Rattle.c_recording.proofs.rahmisve_line_text.Reads as rahmisve_line_text_reads
use Rattle.c_recording.specs.contracts.rahmisve_last_text
use Rattle.c_recording.proofs.rahmisve_last_text.Reads as rahmisve_last_text_reads
use Rattle.c_salvage.specs.contracts.rahmisve_salvage
use Rattle.c_salvage.proofs.rahmisve_salvage.Reads as rahmisve_salvage_reads
use Rattle.scope.specs.Outcomes.{Settled, SettledUpTo, offered}

pub record AllSettled : Type 0 where
  pub ground : Settled number.ended number_reads.Learnt
  pub bits : Settled two_bytes.ended two_bytes_reads.Learnt × Settled turned.ended turned_reads.Learnt
      × Settled is_bad_size.ended is_bad_size_reads.Learnt × Settled they_fit.ended they_fit_reads.Learnt
      × Settled fill_is_zero.ended fill_is_zero_reads.Learnt
  pub taking : Settled take_words.ended take_words_reads.Learnt
  pub putting : Settled put_words.ended put_words_reads.Learnt
  pub check_eight_is : Settled word_behind.ended word_behind_reads.Learnt × Settled check_from.ended check_from_reads.Learnt
      × Settled check_by_eight.ended check_by_eight_reads.Learnt
  pub check_window_is : Settled check_by_turn.ended check_by_turn_reads.Learnt
  pub check_word_is : Settled check_word.ended check_word_reads.Learnt × Settled passes.ended passes_reads.Learnt
  pub room : Settled lay.ended lay_reads.Learnt
  pub row : Settled to_visible.ended to_visible_reads.Learnt × Settled row_of.ended row_of_reads.Learnt
      × Settled scan_of.ended scan_of_reads.Learnt × Settled permits.ended permits_reads.Learnt
      × Settled field_bytes.ended field_bytes_reads.Learnt
  pub copies : Settled common_copy.ended common_copy_reads.Learnt
  pub header : Settled plan_of.ended plan_of_reads.Learnt
  pub block : Settled read_by.ended read_by_reads.Learnt × Settled read.ended read_reads.Learnt
  -- record-in: the words of the part; where it stands is left open
  pub records : Settled locate.ended locate_reads.Learnt × SettledUpTo record_in.ended (λ _ a b. a.now ≡ b.now) record_in_reads.Learnt
  pub writer : Settled write.ended write_reads.Learnt
  pub placement : Settled place.ended place_reads.Learnt
  pub parity : Settled parity_of.ended parity_of_reads.Learnt × Settled ground_of.ended ground_of_reads.Learnt
      × Settled check_sections.ended check_sections_reads.Learnt
  pub detectors : Settled spare_is_zero.ended spare_is_zero_reads.Learnt × Settled suspects_of.ended suspects_of_reads.Learnt
      × Settled ask.ended ask_reads.Learnt
  pub calendar : Settled days_in.ended days_in_reads.Learnt × Settled is_good_list.ended is_good_list_reads.Learnt
      × Settled is_listed.ended is_listed_reads.Learnt × Settled listed_before.ended listed_before_reads.Learnt
  pub tag : Settled in_bounds.ended in_bounds_reads.Learnt × Settled zero_tag.ended zero_tag_reads.Learnt
      × Settled tag_read_by.ended tag_read_by_reads.Learnt × Settled read_tag.ended read_tag_reads.Learnt
      × Settled write_tag.ended write_tag_reads.Learnt
  pub time : Settled between.ended between_reads.Learnt × Settled elapsed.ended elapsed_reads.Learnt
  pub sounder : Settled judge.ended judge_reads.Learnt × Settled sounder_ask.ended sounder_ask_reads.Learnt
  pub watch_rule_is : Settled rule_of.ended rule_of_reads.Learnt
  pub watch_bounds_is : Settled too_long.ended too_long_reads.Learnt × Settled lent.ended lent_reads.Learnt
      × Settled tested.ended tested_reads.Learnt
  pub watch : Settled begin.ended begin_reads.Learnt × Settled step.ended step_reads.Learnt × Settled offer.ended offered
  pub recording : Settled front_of.ended front_of_reads.Learnt × Settled body_length.ended body_length_reads.Learnt
      × Settled next_field.ended next_field_reads.Learnt × Settled line_of.ended line_of_reads.Learnt
  pub made : Settled bytes_by.ended bytes_by_reads.Learnt
  pub salvaging : Settled salvage.ended salvage_reads.Learnt
  pub text : Settled put_part.ended put_part_reads.Learnt × Settled put_column.ended put_column_reads.Learnt
      × Settled put_text.ended put_text_reads.Learnt
  pub listing : Settled put_first.ended put_first_reads.Learnt × Settled put_line.ended put_line_reads.Learnt
      × Settled put_last.ended put_last_reads.Learnt
  pub report : Settled report_first.ended report_first_reads.Learnt × Settled put_entry.ended put_entry_reads.Learnt
      × Settled report_last.ended report_last_reads.Learnt
  pub c_numbers_is : Settled in_byte.ended in_byte_reads.Learnt × Settled in_pair.ended in_pair_reads.Learnt
      × Settled is_on.ended is_on_reads.Learnt × Settled marked.ended marked_reads.Learnt
      × Settled rahmisve_version.ended rahmisve_version_reads.Learnt
  pub c_fields_is : Settled rahmisve_check_word.ended rahmisve_check_word_reads.Learnt
      × Settled rahmisve_take_words.ended rahmisve_take_words_reads.Learnt
      × Settled rahmisve_put_words.ended rahmisve_put_words_reads.Learnt
  pub c_blocks_is : Settled rahmisve_read.ended rahmisve_read_reads.Learnt × Settled rahmisve_plan.ended rahmisve_plan_reads.Learnt
      × Settled rahmisve_write.ended rahmisve_write_reads.Learnt
  pub c_records_is : Settled rahmisve_record.ended rahmisve_record_reads.Learnt × Settled rahmisve_place.ended rahmisve_place_reads.Learnt
  pub c_parity_is : Settled rahmisve_parity_imager.ended rahmisve_parity_imager_reads.Learnt
      × Settled rahmisve_parity_sounder.ended rahmisve_parity_sounder_reads.Learnt
  pub c_tags_is : Settled tag_of.ended tag_of_reads.Learnt × Settled numbers_of.ended numbers_of_reads.Learnt
      × Settled rahmisve_read_tag.ended rahmisve_read_tag_reads.Learnt × Settled rahmisve_write_tag.ended rahmisve_write_tag_reads.Learnt
      × Settled rahmisve_elapsed.ended rahmisve_elapsed_reads.Learnt
  pub c_sounder_is : Settled rahmisve_sounder_status.ended rahmisve_sounder_status_reads.Learnt
      × Settled rahmisve_sounder_suspect.ended rahmisve_sounder_suspect_reads.Learnt
  pub c_watch_is : Settled rahmisve_watch_begin.ended rahmisve_watch_begin_reads.Learnt
      × Settled rahmisve_watch_offer.ended rahmisve_watch_offer_reads.Learnt
  pub c_recording_is : Settled rahmisve_next_field.ended rahmisve_next_field_reads.Learnt
      × Settled rahmisve_line.ended rahmisve_line_reads.Learnt × Settled rahmisve_first_text.ended rahmisve_first_text_reads.Learnt
      × Settled rahmisve_line_text.ended rahmisve_line_text_reads.Learnt
      × Settled rahmisve_last_text.ended rahmisve_last_text_reads.Learnt
  pub c_salvage_is : Settled rahmisve_salvage.ended rahmisve_salvage_reads.Learnt
