-- `spacelook::row_of` meets its contract: no field 0, none behind the last, and an array for each between.
-- Assumes nothing.
use Rattle.std.specs.Prelude.{Option, unwrap_or}
use mathlib.Core.Path.{◌≡◌, sym, ap, ◌∙◌}
use Prim.Native.Nat.{◌≤◌}
use native.Mathlib.Omega.{arith}
use lib.ListN.{get_or}
use Rattle.spacelook.specs.declared.Array.{Array}
use Rattle.spacelook.specs.Arrays.{no_array, row_of}
use Rattle.spacelook.proofs.LawsArrays.{no_field, field_at}
use Rattle.spacelook.proofs.row_of.Goals as goal

pub returns-in_err-k : goal.returns-in_err-k
returns-in_err-k c =
    let none : c.args.field ≡ 0 = omega (arith, c.in_err-k.ensures) in
    ap (λ (o : Option Array). unwrap_or o no_array) c.from_residual.ensures ∙ sym (ap (row_of c.args.layout) none ∙ no_field c.args.layout)

pub returns : goal.returns
returns c =
    let a = c.args in
    let here : 1 ≤ a.field = c.in_ok-k.ensures.0 in
    ap (λ (o : Option Array). unwrap_or o no_array) c.copied.ensures
    ∙ c.get.ensures.lookup.4 (omega arith) no_array
    ∙ (λ i. get_or (c.arrays_in.ensures i) (c.in_ok-k.ensures.1 i) no_array)
    ∙ sym (field_at a.layout a.field here)
