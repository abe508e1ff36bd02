-- Each row was proved beside its definitions; here they are one statement.
-- Assumes nothing.
use Rattle.bits.proofs.Table.{row7, row8}
use Rattle.row.proofs.KeepsRows.{row1, row2, row3, row4, row5, row6}
use Rattle.tag.proofs.KeepsTable.{row11}
use Rattle.time.proofs.KeepsTable.{row9, row10, row12}
use Rattle.parity.proofs.KeepsParity.{row_13}
use Rattle.scope.specs.Table.{TableToProve}

pub table : TableToProve
table =
    record {
      row1 = row1;
      row2 = row2;
      row3 = row3;
      row4 = row4;
      row5 = row5;
      row6 = row6;
      row7 = row7;
      row8 = row8;
      row9 = row9;
      row10 = row10;
      row11 = row11;
      row12 = row12;
      row13 = row_13;
    }
