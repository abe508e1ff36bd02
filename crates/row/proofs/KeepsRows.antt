-- The decision over block numbers is the printed table, whose rows before version 3 are the earlier ones; a scan's width is its n; and rows
-- 1 to 6 of the scope's table of lengths.
-- Assumes nothing.
use Prim.Native.Nat.{ℕ, ◌+◌, ◌*◌, ◌≤◌}
use mathlib.Core.Path.{◌≡◌, refl, subst}
use native.Mathlib.Omega.{arith}
use lib.Dec.{lit<}
use Rattle.row.specs.declared.Row.{Row}
use Rattle.row.specs.Rows.{records_in, infrared_row, visible_row, row_of, scan_of}
use Rattle.row.specs.Field.{field_bits, field_bytes}
use Rattle.row.specs.Suits.{Suits, zeroth, first, second, second3, others, last6, last8, last10}
use Rattle.row.specs.Earlier as earlier
use Rattle.row.specs.Promises.{DecidesTable, Widths, Measures}
use Rattle.row.proofs.LawsScan.{scan_is}
use Rattle.row.proofs.LawsRow.{row_others, before_3, suits_takes, takes_suits}

pub decides_table : DecidesTable
decides_table block version size count known = (takes_suits known, suits_takes)

-- in each row of the one table stands that of the other
to_earlier : {b v w C : ℕ} → v ≤ 2 → Suits b v w C → earlier.Earlier b w C
to_earlier h zeroth = earlier.zeroth
to_earlier h (first s) = earlier.first s
to_earlier h (second _ s) = earlier.second s
to_earlier h (second3 s) = absurd (omega (arith, h))
to_earlier h (others l u s) = earlier.others l u s
to_earlier h last6 = earlier.last6
to_earlier h last8 = earlier.last8
to_earlier h last10 = earlier.last10

from_earlier : {b v w C : ℕ} → v ≤ 2 → earlier.Earlier b w C → Suits b v w C
from_earlier h earlier.zeroth = zeroth
from_earlier h (earlier.first s) = first s
from_earlier h (earlier.second s) = second h s
from_earlier h (earlier.others l u s) = others l u s
from_earlier h earlier.last6 = last6
from_earlier h earlier.last8 = last8
from_earlier h earlier.last10 = last10

pub earlier_rows : earlier.EarlierRows
earlier_rows block version size count h = (to_earlier h, from_earlier h)

pub widths : Widths
unfolding row_of records_in
widths =
    record {
      first = λ v n s. scan_is (infrared_row 4) (4 * (16 + n)) n (lit< tt) (omega (arith, s.wide)) (omega arith);
      second = λ v n l s.
          subst (λ (r : ℕ). scan_of (infrared_row r) (3 * (16 + n)) ≡ n) (before_3 v l)
          (scan_is (infrared_row 3) (3 * (16 + n)) n (lit< tt) (omega (arith, s.wide)) (omega arith));
      second3 = λ n s. scan_is (infrared_row 4) (4 * (16 + n)) n (lit< tt) (omega (arith, s.wide)) (omega arith);
      others = λ b v n l h s.
          subst (λ (r : Row). scan_of r (16 + 4 * n) ≡ n) (row_others b v 10 l h) (scan_is visible_row (16 + 4 * n) n (lit< tt) (omega (arith, s.wide)) refl);
    }

pub row1 : Measures 1 68 2680 20760
unfolding field_bytes field_bits
row1 = record { long = refl; rest = refl }

pub row2 : Measures 1 21008 26260 0
unfolding field_bytes field_bits
row2 = record { long = refl; rest = refl }

pub row3 : Measures 2 15756 19696 8
unfolding field_bytes field_bits
row3 = record { long = refl; rest = refl }

pub row4 : Measures 3 20960 26200 0
unfolding field_bytes field_bits
row4 = record { long = refl; rest = refl }

pub row5 : Measures 1 2144 2680 0
unfolding field_bytes field_bits
row5 = record { long = refl; rest = refl }

pub row6 : Measures 1 2148 2686 8
unfolding field_bytes field_bits
row6 = record { long = refl; rest = refl }
