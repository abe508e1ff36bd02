-- `putting::put_words` meets its contract: its tests are those of `put_answer` in their order, and only behind the
-- last is the field written.
-- Assumes nothing.
use mathlib.Core.Path.{refl, sym, ap, ◌∙◌}
use mathlib.Core.Bool.{not}
use Prim.Native.Nat.{ℕ}
use borrow.Author.Tests.{leb-true}
use lib.Dec.{eqb}
use Rattle.ground.proofs.LawsChoice.{yes, no}
use Rattle.bits.proofs.LawsFitting.{size_bounds}
use Rattle.putting.proofs.put_words.Goals as goal

pub returns-then-is_bad_size : goal.returns-then-is_bad_size
returns-then-is_bad_size c =
    let e = yes _ c.is_bad_size.ensures c.if-is_bad_size.true refl in
    record {
      value = e;
      field_after = no _ (ap (λ (n : ℕ). eqb n 0) e) refl refl;
    }

pub returns-then-not-they_fit : goal.returns-then-not-they_fit
returns-then-not-they_fit c =
    let e =
    no _ c.is_bad_size.ensures c.if-is_bad_size.false
    (yes _ (ap not c.they_fit.ensures) (ap not c.if-not-they_fit.true) refl) in
    record {
      value = e;
      field_after = no _ (ap (λ (n : ℕ). eqb n 0) e) refl refl;
    }

pub all_fit-requires : goal.all_fit-requires
all_fit-requires c = (size_bounds _ (sym c.is_bad_size.ensures ∙ c.if-is_bad_size.false)).1

pub returns-then-not-all_fit : goal.returns-then-not-all_fit
returns-then-not-all_fit c =
    let e =
    no _ c.is_bad_size.ensures c.if-is_bad_size.false
    (no _ (ap not c.they_fit.ensures) (ap not c.if-not-they_fit.false)
    (yes _ (ap not c.all_fit.ensures) (ap not c.if-not-all_fit.true) refl)) in
    record {
      value = e;
      field_after = no _ (ap (λ (n : ℕ). eqb n 0) e) refl refl;
    }

pub put_fitting-requires : goal.put_fitting-requires
put_fitting-requires c = record { size_in_bounds = leb-true _ _ (sym c.they_fit.ensures ∙ c.if-not-they_fit.false) }

pub returns : goal.returns
returns c =
    let e =
    no _ c.is_bad_size.ensures c.if-is_bad_size.false
    (no _ (ap not c.they_fit.ensures) (ap not c.if-not-they_fit.false)
    (no _ (ap not c.all_fit.ensures) (ap not c.if-not-all_fit.false) refl)) in
    record {
      value = e;
      field_after = yes _ (ap (λ (n : ℕ). eqb n 0) e) refl c.put_fitting.ensures;
    }
