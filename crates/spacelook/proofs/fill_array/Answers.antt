-- `spacelook::fill_array` meets its contract: after k turns the first k numbers stand in one room, and their cases in the other.
-- Assumes nothing.
use mathlib.Core.Path.{◌≡◌, ap, ◌∙◌}
use mathlib.Core.List.{map}
use Prim.Native.Nat.{◌<◌}
use native.Mathlib.Omega.{arith}
use Rattle.floating.specs.Floating.{reading_of}
use Rattle.floating.specs.Cases.{case_of, value_of}
use Rattle.spacelook.specs.Numbers.{number_at, readings_in}
use Rattle.spacelook.proofs.LawsNumbers.{none_laid, one_laid, all_laid}
use Rattle.spacelook.proofs.fill_array.Goals as goal

pub loop-k-init : goal.loop-k-init
loop-k-init c =
    let a = c.args in
    let rs = readings_in a.words.now a.row in
    (none_laid a.numbers.now a.at (map value_of rs), none_laid a.cases.now a.at (map case_of rs))

pub overflow_mul-k : goal.overflow_mul-k
overflow_mul-k c = omega (arith, c.requires.words_value.1.1)

pub overflow_add-first : goal.overflow_add-first
overflow_add-first c = omega (arith, c.requires.words_value.1.1)

pub word_at-requires : goal.word_at-requires
word_at-requires c =
    let p = c.requires.words_value in
    (p.0, (omega (arith, p.1.0), omega (arith, p.1.1)))

pub overflow_add-numbers : goal.overflow_add-numbers
overflow_add-numbers c = omega (arith, c.requires.row_in_bounds.0)

pub offset_bounds-numbers-at : goal.offset_bounds-numbers-at
offset_bounds-numbers-at c = omega (arith, c.requires.row_in_bounds.0)

pub bounds-numbers-at : goal.bounds-numbers-at
bounds-numbers-at c = omega (arith, c.requires.row_in_bounds.0, c.loop-k.invariant.0.same)

pub overflow_add-cases : goal.overflow_add-cases
overflow_add-cases c = omega (arith, c.requires.row_in_bounds.1)

pub bounds-cases-at : goal.bounds-cases-at
bounds-cases-at c = omega (arith, c.requires.row_in_bounds.1, c.loop-k.invariant.1.same)

pub loop-k-preserved : goal.loop-k-preserved
loop-k-preserved c =
    let l = c.loop-k in
    let there : l.k < c.args.row.1 = omega (arith, c.loop-k-test.true) in
    let read : c.read-reading.result ≡ number_at c.args.words.now c.args.row l.k =
    c.read-reading.ensures ∙ ap reading_of c.word_at.ensures in (
      one_laid value_of c.args.words.now c.args.row l.invariant.0 there (omega (arith, c.requires.row_in_bounds.0)) (c.value_of.ensures ∙ ap value_of read),
      one_laid case_of c.args.words.now c.args.row l.invariant.1 there (omega (arith, c.requires.row_in_bounds.1)) (c.case_of.ensures ∙ ap case_of read),
    )

pub shape_of-numbers : goal.shape_of-numbers
shape_of-numbers c = c.loop-k.invariant.0.same

pub shape_of-cases : goal.shape_of-cases
shape_of-cases c = c.loop-k.invariant.1.same

pub returns : goal.returns
returns c =
    let l = c.loop-k in
    let row = c.args.row in
    let all : l.k ≡ row.1 = omega arith in record { numbers_after = all_laid l.invariant.0 all; cases_after = all_laid l.invariant.1 all }
