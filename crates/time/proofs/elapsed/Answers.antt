-- `time::elapsed` tests the list and reads both tags, each of which refuses a bad one with 12.
-- Assumes nothing.
use mathlib.Core.Path.{ap, sym, ◌∙◌}
use mathlib.Core.Bool.{Bool, ◌&&◌}
use lib.IntN.{ℤ, pos}
use mir.Syntax.{w64}
use mir.Facts.{to_z-of_z}
use borrow.Author.Rules.{sfits_of}
use Prim.Native.Nat.{ℕ}
use Rattle.calendar.proofs.LawsLists.{all_first}
use Rattle.tag.specs.Tags.{good_tag}
use Rattle.ground.proofs.LawsRefusals.{passed_on}
use Rattle.ground.proofs.LawsTests.{not_second}
use Rattle.tag.proofs.LawsTags.{was_good, was_bad}
use Rattle.time.specs.Times.{told, between}
use Rattle.time.proofs.LawsTimes.{answer, counted, not_counted, not_listed}
use Rattle.time.proofs.elapsed.Goals as goal

pub returns-then-not-is_good_list : goal.returns-then-not-is_good_list
returns-then-not-is_good_list c =
    let a = c.args in
    sym (not_listed a.leaps.now a.from.now a.to.now (sym c.is_good_list.ensures ∙ c.if-not-is_good_list.true))

pub returns-in_err-start : goal.returns-in_err-start
returns-in_err-start c =
    let a = c.args in
    let l = sym c.is_good_list.ensures ∙ c.if-not-is_good_list.false in
    let k = was_bad a.leaps.now a.from.now _ c.in_err-start.ensures in
    ap told (passed_on c.from_residual.result c.from_residual.ensures.1)
    ∙ ap (λ (n : ℕ). answer n (pos 0)) k.1
    ∙ sym (not_counted a.leaps.now a.from.now a.to.now l (ap (λ (t : Bool). t && good_tag a.leaps.now a.to.now) k.0))

pub returns-in_err-end : goal.returns-in_err-end
returns-in_err-end c =
    let a = c.args in
    let l = sym c.is_good_list.ensures ∙ c.if-not-is_good_list.false in
    let k = was_bad a.leaps.now a.to.now _ c.in_err-end.ensures in
    ap told (passed_on c.from_residual-in_err-end.result c.from_residual-in_err-end.ensures.1)
    ∙ ap (λ (n : ℕ). answer n (pos 0)) k.1
    ∙ sym (not_counted a.leaps.now a.from.now a.to.now l (not_second (good_tag a.leaps.now a.from.now) k.0))

pub returns : goal.returns
returns c =
    let a = c.args in
    let l = sym c.is_good_list.ensures ∙ c.if-not-is_good_list.false in
    let p = was_good a.leaps.now a.from.now _ c.in_ok-start.ensures in
    let q = was_good a.leaps.now a.to.now _ c.in_ok-end.ensures in
    ap (λ (d : ℤ). answer 0 d)
    (to_z-of_z (sfits_of {w = w64} c.between.type_inv) ∙ c.between.ensures ∙ (λ i. between (all_first a.leaps.now l i) (p.1 i) (q.1 i)))
    ∙ sym (counted a.leaps.now a.from.now a.to.now l p.0 q.0)
