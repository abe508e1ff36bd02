-- `records::record_in` meets its contract: the part that `locate` names, which ends inside the words.
-- Assumes nothing.
use mathlib.Core.Path.{◌≡◌, sym, ap, ◌∙◌, subst}
use Prim.Native.Nat.{ℕ, ◌+◌, ◌-◌, ◌≤◌}
use native.Mathlib.Omega.{arith}
use mathlib.Core.List.{List}
use lib.ListN.{length, take, drop}
use Rattle.records.specs.Records.{PartAnswer, part_of, part_in}
use Rattle.records.proofs.LawsRecords.{part_inside}
use Rattle.records.proofs.record_in.Goals as goal

-- the part ends inside the words
inside : (h : List ℕ) (k words : ℕ) {q : PartAnswer} → q ≡ part_of h k words → q.start + q.length ≤ words
inside h k words e = subst (λ (q : PartAnswer). q.start + q.length ≤ words) (sym e) (part_inside h k words)

pub returns-in_default : goal.returns-in_default
returns-in_default c = ap (λ (r : PartAnswer). part_in r c.args.words.now) c.in_default.ensures

pub overflow_add-end : goal.overflow_add-end
overflow_add-end c = omega (arith, inside c.args.header.now c.args.k (length c.args.words.now) c.in-Ok.ensures)

pub offset_bounds-words-part : goal.offset_bounds-words-part
offset_bounds-words-part c = omega (arith, inside c.args.header.now c.args.k (length c.args.words.now) c.in-Ok.ensures)

pub slice_bounds-result-end-2 : goal.slice_bounds-result-end-2
slice_bounds-result-end-2 c = omega (arith, inside c.args.header.now c.args.k (length c.args.words.now) c.in-Ok.ensures)

pub returns : goal.returns
returns c =
    let a = c.args in
    let q = c.in-Ok.part in
    let e : q.start + q.length - q.start ≡ q.length = omega arith in
    ap (λ (n : ℕ). take n (drop q.start a.words.now)) e ∙ ap (λ (r : PartAnswer). part_in r a.words.now) c.in-Ok.ensures
