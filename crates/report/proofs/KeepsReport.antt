-- A report prints what the scope prints: the texts are computed.
-- Assumes nothing.
use mathlib.Core.Path.{refl, ap}
use mathlib.Core.Bool.{Bool}
use Prim.Native.Nat.{◌+◌, ◌*◌}
use native.Mathlib.Omega.{arith}
use borrow.Author.Tests.{ne_eqb}
use Rattle.ground.specs.Choice.{pick}
use Rattle.text.specs.Texts.{bytes_of, digits, decimal}
use Rattle.report.specs.Texts.{changed_text, entry_text, last_text}
use Rattle.report.specs.Promises.{PrintsReport, PrintsKinds, PrintsChanged}
use Rattle.report.proofs.LawsChanged.{changed_0, changed_1, changed_2, changed_3, changed_4, changed_5, changed_6, changed_7}

pub prints_report : PrintsReport
unfolding entry_text changed_text last_text decimal digits
prints_report = refl

pub prints_kinds : PrintsKinds
prints_kinds = record {
  block = λ n l. ap (λ (t : Bool). pick t (bytes_of "span") (bytes_of "block")) (ne_eqb n 8 (λ e. omega arith));
  span = refl;
}

pub prints_changed : PrintsChanged
prints_changed = record {
  none = λ k. changed_0 (k * 8) (omega arith);
  first = λ k. changed_1 (k * 8 + 1) (omega arith);
  second = λ k. changed_2 (k * 8 + 2) (omega arith);
  first_two = λ k. changed_3 (k * 8 + 3) (omega arith);
  third = λ k. changed_4 (k * 8 + 4) (omega arith);
  outer_two = λ k. changed_5 (k * 8 + 5) (omega arith);
  last_two = λ k. changed_6 (k * 8 + 6) (omega arith);
  all = λ k. changed_7 (k * 8 + 7) (omega arith);
}
