-- `report::changed_column` meets its contract: of the eight texts the one that what was found modulo 8 tells.
-- Assumes nothing.
use mathlib.Core.Path.{◌≡◌, sym, ap}
use mathlib.Core.List.{List}
use Prim.Native.Nat.{ℕ}
use native.Mathlib.Omega.{arith}
use Rattle.text.specs.Texts.{ended}
use Rattle.report.proofs.LawsChanged.{changed_0, changed_1, changed_2, changed_3, changed_4, changed_5, changed_6, changed_7}
use Rattle.report.proofs.changed_column.Goals as goal

line : {xs ys : List ℕ} → ys ≡ xs → ended xs 0x0A ≡ ended ys 0x0A
line e = ap (λ (l : List ℕ). ended l 0x0A) (sym e)

pub returns-in-0 : goal.returns-in-0
returns-in-0 c = line (changed_0 c.args.found (omega arith))

pub returns-in-1 : goal.returns-in-1
returns-in-1 c = line (changed_1 c.args.found (omega arith))

pub returns-in-2 : goal.returns-in-2
returns-in-2 c = line (changed_2 c.args.found (omega arith))

pub returns-in-3 : goal.returns-in-3
returns-in-3 c = line (changed_3 c.args.found (omega arith))

pub returns-in-4 : goal.returns-in-4
returns-in-4 c = line (changed_4 c.args.found (omega arith))

pub returns-in-5 : goal.returns-in-5
returns-in-5 c = line (changed_5 c.args.found (omega arith))

pub returns-in-6 : goal.returns-in-6
returns-in-6 c = line (changed_6 c.args.found (omega arith))

pub returns-in_default : goal.returns-in_default
returns-in_default c = line (changed_7 c.args.found (omega arith))
