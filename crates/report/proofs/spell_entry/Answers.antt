-- `report::spell_entry` meets its contract: each column stands behind those before it.
-- Assumes nothing.
use mathlib.Core.Path.{ap}
use Prim.Native.Nat.{◌≤◌}
use native.Mathlib.Omega.{arith}
use lib.ListN.{length}
use Rattle.text.proofs.LawsPut.{nothing, more_as, more_column, as_text}
use Rattle.report.proofs.LawsTexts.{entry_columns, kind_short, changed_short}
use Rattle.report.proofs.spell_entry.Goals as goal

pub returns : goal.returns
returns c =
    let a = c.args in
    let one = more_column (nothing a.text.now) a.start 0x20 (omega arith) c.put_column-length.ensures.value c.put_column-length.ensures.room_after (omega arith) in
    let two = more_column one a.bytes 0x20 (omega arith) c.put_column-kind.ensures.value c.put_column-kind.ensures.room_after (omega arith) in
    let kind : length c.kind_column.result.now ≤ 6 = omega (arith, ap length c.kind_column.ensures, kind_short a.found) in
    let changed : length c.changed_column.result.now ≤ 6 = omega (arith, ap length c.changed_column.ensures, changed_short a.found) in
    let three = more_as two c.kind_column.ensures c.put_part-changed.ensures.value c.put_part-changed.ensures.room_after (omega (arith, kind_short a.found)) in
    let four = more_as three c.changed_column.ensures c.put_part.ensures.value c.put_part.ensures.room_after (omega (arith, kind, changed_short a.found)) in
    let line = as_text four (entry_columns a.start a.bytes a.found) in record { value = line.ends; upper_bound = omega (arith, kind, changed); text_after = line.says }
