-- `spacelook::read_all` meets its contract: the block's ground, then 9, then the numbers.
-- Assumes nothing.
use mathlib.Core.Path.{refl, sym, ap, ◌∙◌, subst}
use Rattle.std.specs.Prelude.{Ok}
use Prim.Native.Nat.{ℕ, ◌<◌, ◌≤◌}
use native.Mathlib.Omega.{arith}
use lib.ListN.{length}
use Rattle.ground.proofs.LawsRefusals.{never_zero, passed_on}
use Rattle.spacelook.specs.Arrays.{size_of}
use Rattle.spacelook.specs.Numbers.{told_of_all}
use Rattle.spacelook.proofs.LawsFound.{all_refused, small_room, small_cases, enough, leaves, gives}
use Rattle.spacelook.proofs.read_all.Goals as goal

pub returns-in_err-ground_of : goal.returns-in_err-ground_of
returns-in_err-ground_of c =
    let a = c.args in
    let e = c.in_err-ground_of.ensures in
    let not_zero = never_zero c.in_err-ground_of.field-0.0 in
    let why = all_refused a.layout a.words.now (length a.numbers.now) (length a.cases.now) (λ z. not_zero (e ∙ z)) in
    let left = leaves a.layout a.words.now a.numbers.now a.cases.now (e ∙ why) not_zero in record {
      value = ap told_of_all (passed_on c.from_residual.result c.from_residual.ensures.1) ∙ left.0;
      numbers_after = left.1.0;
      cases_after = left.1.1;
    }

pub returns-then-numbers-count : goal.returns-then-numbers-count
returns-then-numbers-count c =
    let a = c.args in
    let small : length a.numbers.now < (size_of a.layout).1 = subst (λ (n : ℕ). length a.numbers.now < n) c.count_in-count.ensures c.if-numbers-count.true in
    let why = small_room a.layout a.words.now (length a.numbers.now) (length a.cases.now) (sym c.in_ok-ground_of.ensures) small in
    let left = leaves a.layout a.words.now a.numbers.now a.cases.now why (λ e. omega arith) in record { value = left.0; numbers_after = left.1.0; cases_after = left.1.1 }

pub returns-then-cases-count : goal.returns-then-cases-count
returns-then-cases-count c =
    let a = c.args in
    let small : length a.cases.now < (size_of a.layout).1 = subst (λ (n : ℕ). length a.cases.now < n) c.count_in-count.ensures c.if-cases-count.true in
    let why = small_cases a.layout a.words.now (length a.numbers.now) (length a.cases.now) (sym c.in_ok-ground_of.ensures) small in
    let left = leaves a.layout a.words.now a.numbers.now a.cases.now why (λ e. omega arith) in record { value = left.0; numbers_after = left.1.0; cases_after = left.1.1 }

pub fill-requires : goal.fill-requires
fill-requires c = record {
  words_value = sym c.in_ok-ground_of.ensures;
  layout_in_bounds = (
    subst (λ (n : ℕ). n ≤ length c.args.numbers.now) c.count_in-count.ensures c.if-numbers-count.false,
    subst (λ (n : ℕ). n ≤ length c.args.cases.now) c.count_in-count.ensures c.if-cases-count.false,
  );
}

pub returns : goal.returns
returns c =
    let a = c.args in
    let size = c.count_in-count.ensures in
    let room : (size_of a.layout).1 ≤ length a.numbers.now = subst (λ (n : ℕ). n ≤ length a.numbers.now) size c.if-numbers-count.false in
    let cases : (size_of a.layout).1 ≤ length a.cases.now = subst (λ (n : ℕ). n ≤ length a.cases.now) size c.if-cases-count.false in
    let why = enough a.layout a.words.now (length a.numbers.now) (length a.cases.now) (sym c.in_ok-ground_of.ensures) room cases in
    let left = gives a.layout a.words.now a.numbers.now a.cases.now why refl in record {
      value = ap (λ (n : ℕ). told_of_all (Ok n)) size ∙ left.0;
      numbers_after = c.fill.ensures.numbers_after ∙ left.1.0;
      cases_after = c.fill.ensures.cases_after ∙ left.1.1;
    }
