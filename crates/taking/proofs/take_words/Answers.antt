-- `taking::take_words` meets its contract: its tests are those of `take_answer` in their order, and only behind the
-- last is the room written.
-- Assumes nothing.
use mathlib.Core.Path.{refl, ap}
use mathlib.Core.Bool.{not}
use Prim.Native.Nat.{ℕ}
use borrow.Author.Tests.{lt-ltb, le-ltb}
use lib.Dec.{eqb}
use Rattle.ground.proofs.LawsChoice.{yes, no}
use Rattle.taking.proofs.take_words.Goals as goal

pub returns-then-is_bad_size : goal.returns-then-is_bad_size
returns-then-is_bad_size c =
    let e = yes _ c.is_bad_size.ensures c.if-is_bad_size.true refl in
    record {
      value = e;
      room_after = no _ (ap (λ (n : ℕ). eqb n 0) e) refl refl;
    }

pub returns-then-not-they_fit : goal.returns-then-not-they_fit
returns-then-not-they_fit c =
    let e =
    no _ c.is_bad_size.ensures c.if-is_bad_size.false
    (yes _ (ap not c.they_fit.ensures) (ap not c.if-not-they_fit.true) refl) in
    record {
      value = e;
      room_after = no _ (ap (λ (n : ℕ). eqb n 0) e) refl refl;
    }

pub returns-then-room-count : goal.returns-then-room-count
returns-then-room-count c =
    let e =
    no _ c.is_bad_size.ensures c.if-is_bad_size.false
    (no _ (ap not c.they_fit.ensures) (ap not c.if-not-they_fit.false) (yes _ refl (lt-ltb _ _ c.if-room-count.true) refl)) in
    record {
      value = e;
      room_after = no _ (ap (λ (n : ℕ). eqb n 0) e) refl refl;
    }

pub returns : goal.returns
returns c =
    let e =
    no _ c.is_bad_size.ensures c.if-is_bad_size.false
    (no _ (ap not c.they_fit.ensures) (ap not c.if-not-they_fit.false)
    (no _ refl (le-ltb _ _ c.if-room-count.false) refl)) in
    record {
      value = e;
      room_after = yes _ (ap (λ (n : ℕ). eqb n 0) e) refl c.take_fitting.ensures;
    }
