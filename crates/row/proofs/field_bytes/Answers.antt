-- `field_bytes` is the field's length in bits, by eight.
-- Assumes nothing.
use Prim.Native.Nat.{ℕ, ◌/◌}
use mathlib.Core.Path.{ap}
use Rattle.row.specs.Field.{field_bytes}
use Rattle.row.proofs.field_bytes.Goals as goal

pub returns : goal.returns
unfolding field_bytes
returns c = ap (λ (bits : ℕ). bits / 8) c.field_bits.ensures
