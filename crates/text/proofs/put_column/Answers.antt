-- `text::put_column` meets its contract: the digits and the byte behind them are put as one part.
-- Assumes nothing.
use mathlib.Core.Path.{ap}
use native.Mathlib.Omega.{arith}
use lib.ListN.{length}
use Rattle.text.proofs.LawsPut.{column_fits, column_part, put_as}
use Rattle.text.proofs.put_column.Goals as goal

pub returns : goal.returns
returns c =
    let a = c.args in
    let e = column_part c.put_digits-start.new.column a.n a.end c.put_digits-start.result (omega arith) c.put_digits-start.ensures.column_after in
    let both = put_as a.room.now a.at 21 (c.put_part.ensures.value, (c.put_part.ensures.room_after, c.put_part.ensures.upper_bound)) e (omega (arith, ap length e, column_fits a.n a.end (omega arith))) in record { value = both.0; room_after = both.1.0; upper_bound = both.1.1 }
