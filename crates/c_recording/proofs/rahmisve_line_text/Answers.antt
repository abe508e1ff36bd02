-- `c_recording::rahmisve_line_text` meets its contract: what putting the line of these numbers answers, and a number by its length.
-- Assumes nothing.
use Rattle.recording.specs.declared.Line.{Line}
use Rattle.listing.specs.Texts.{line_text}
use Rattle.c_recording.proofs.LawsTold.{line_some, told}
use Rattle.c_recording.proofs.rahmisve_line_text.Goals as goal

pub returns : goal.returns
returns c =
    let a = c.args in
    let line : Line = record { seq = a.seq; answer = c.in_byte.result; block = c.in_byte-2.result; version = c.in_byte-3.result; words = a.word_count } in
    let both = told a.room.now (line_text line) (line_some line) (c.put_line-put.ensures.value, c.put_line-put.ensures.room_after) c.number_of.ensures in
    rw (← c.in_byte.ensures, ← c.in_byte-2.ensures, ← c.in_byte-3.ensures) (record { value = both.0; bytes_after = both.1.0; room_after = both.1.1 })
