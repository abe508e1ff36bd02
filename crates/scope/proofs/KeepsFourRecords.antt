-- Four records in block 2: the bounds of a count by its row, the rest by computing at the headers and places named.
-- Assumes nothing.
use Prim.Native.Nat.{ℕ, zero, suc, ◌+◌, ◌-◌, ◌*◌, ◌≤◌}
use mathlib.Core.Path.{◌≡◌, refl}
use native.Mathlib.Omega.{arith}
use Rattle.row.specs.Rows.{records_in, row_of, permits}
use Rattle.row.specs.Field.{field_bits, field_bytes}
use Rattle.row.specs.Suits.{Suits, second3, others}
use Rattle.row.specs.Suits as suits
use Rattle.row.proofs.KeepsRows.{earlier_rows}
use Rattle.header.specs.Says.{number_of}
use Rattle.header.specs.Plans.{plan_of}
use Rattle.records.specs.Records.{record_length, refusal_of, part_of}
use Rattle.placement.specs.Placement.{group_of, held_in, records_held, place_of}
use Rattle.scope.specs.FourRecords.{second, Shared, FourRecords}
use Rattle.scope.proofs.KeepsRecords.{Each, below}

bounded : (C : ℕ) → Suits 2 3 10 C → (68 ≤ C) × (C ≤ 21008)
bounded _ (second3 s) = (omega (arith, s.narrow), omega (arith, s.wide))
bounded _ (suits.second l _) = absurd (omega (arith, l))
bounded _ (others l _ _) = absurd (omega (arith, l))

-- record k of so many pixels in each
abbrev Lies : (v C n k : ℕ) → Type 0
Lies v C n k = part_of (second v C) k C ≡ record { number = 0; start = (k - 1) * (16 + n); length = 16 + n }

from_1 : (v C r n : ℕ) → Each r (λ k. Lies v C n (suc k)) → (k : ℕ) → 1 ≤ k → k ≤ r → Lies v C n k
from_1 v C r n e zero l h = absurd (omega arith)
from_1 v C r n e (suc k) l h = below r (λ j. Lies v C n (suc j)) e k (omega arith)

shared3 : (v : ℕ) → Each 3 (λ k. Lies v 84 12 (suc k)) → part_of (second v 84) 4 84 ≡ record { number = 13; start = 0; length = 0 } → Shared v 84 3 12
shared3 v e f = record { there = from_1 v 84 3 12 e; no_more = f }

pub four_records : FourRecords
unfolding plan_of number_of row_of permits records_in field_bits field_bytes part_of refusal_of record_length place_of held_in group_of records_held
four_records =
    record {
      earlier = earlier_rows;
      three =
          λ v l.
          below 3 (λ v. Shared v 84 3 12)
          (shared3 0 (refl, (refl, (refl, tt))) refl, (shared3 1 (refl, (refl, (refl, tt))) refl, (shared3 2 (refl, (refl, (refl, tt))) refl, tt))) v (omega arith);
      four = record { there = from_1 3 84 4 5 (refl, (refl, (refl, (refl, tt)))); no_more = refl };
      bounds = bounded;
      least = refl;
      most = refl;
      too_few = refl;
      fourth = refl;
      no_fifth = refl;
      no_fourth = refl;
    }
