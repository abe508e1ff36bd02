-- The rooms suffice, and what is salvaged lies in them.
use Rattle.std.proofs.Common.{length}
use Rattle.salvage.proofs.LawsRooms.{in_rooms}
use Rattle.salvage.proofs.salvage_in.Goals as goal

pub returns-clause-fact : goal.returns-clause-fact
returns-clause-fact c =
    let a = c.args in
    let asked = c.requires in
    let found = c.salvage.ensures in
    (in_rooms a.input.now a.recording.now a.report.now (length a.scratch.now) c.salvage.result
    asked.input_len_bound asked.bytes_for_in_bounds asked.numbers_for_in_bounds asked.most_words_in_bounds
    found.value found.recording_after found.report_after).0

pub returns-clause-bytes_in_bounds : goal.returns-clause-bytes_in_bounds
returns-clause-bytes_in_bounds c =
    let a = c.args in
    let asked = c.requires in
    let found = c.salvage.ensures in
    (in_rooms a.input.now a.recording.now a.report.now (length a.scratch.now) c.salvage.result
    asked.input_len_bound asked.bytes_for_in_bounds asked.numbers_for_in_bounds asked.most_words_in_bounds
    found.value found.recording_after found.report_after).1.0

pub returns-clause-entries_in_bounds : goal.returns-clause-entries_in_bounds
returns-clause-entries_in_bounds c =
    let a = c.args in
    let asked = c.requires in
    let found = c.salvage.ensures in
    (in_rooms a.input.now a.recording.now a.report.now (length a.scratch.now) c.salvage.result
    asked.input_len_bound asked.bytes_for_in_bounds asked.numbers_for_in_bounds asked.most_words_in_bounds
    found.value found.recording_after found.report_after).1.1
