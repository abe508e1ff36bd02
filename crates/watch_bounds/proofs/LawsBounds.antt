-- What no refusal says: every ground failed, so an open watch's expected block and set are in bounds, the list is one and the offered tag
-- is good.
-- Assumes nothing.
use mathlib.Core.Path.{◌≡◌, refl, sym, ap, ◌∙◌}
use Prim.Native.Nat.{ℕ, ◌≤◌}
use mathlib.Core.Bool.{Bool, true, false, ◌&&◌, ◌||◌}
use mathlib.Core.List.{List}
use native.Mathlib.Omega.{arith}
use lib.Dec.{eqb, ltb}
use borrow.Author.Tests.{ltb-false, not-false, ne_eqb}
use Rattle.ground.specs.Grounds.{first_of}
use Rattle.calendar.specs.Leaps.{good_list}
use Rattle.tag.specs.Tags.{good_tag}
use Rattle.ground.proofs.LawsTests.{never}
use Rattle.ground.proofs.LawsGrounds.{first_none, first_then}
use Rattle.ground.specs.Choice.{pick}
use Rattle.ground.proofs.LawsChoice.{yes, no, either}
use Rattle.row.specs.Rows.{last_block}
use Rattle.watch_rule.specs.Rules.{last_of_scan}
use Rattle.watch_bounds.specs.Bounds.{bad_limit, bad_expected, bounding, bad_fill, bad_last, lent, offered, grounds, refusal_of}
use Rattle.watch_bounds.specs.declared.Watch.{Watch}

-- What a number of 0 says: each ground failed.
pub record Passed (leaps : List ℕ) (w : Watch) (b : ℕ) (good : Bool) : Type 0 where
  pub limit : bad_limit w ≡ false
  pub expected : bad_expected w ≡ false
  pub fill : bad_fill w ≡ false
  pub list : good_list leaps ≡ true
  pub last : bad_last leaps w ≡ false
  pub block : ltb last_block b ≡ false
  pub tag : good ≡ true

pub passed : (leaps : List ℕ) (w : Watch) (b : ℕ) (good : Bool) → first_of (grounds leaps w b good) ≡ 0 → Passed leaps w b good
passed leaps w b good h =
    let n = first_none (grounds leaps w b good) refl h in
    let o = n.1.1.1.1.1 in
    record {
      limit = n.0;
      expected = n.1.0;
      fill = n.1.1.0;
      list = not-false (good_list leaps) n.1.1.1.0;
      last = n.1.1.1.1.0;
      block = o.0;
      tag = not-false good o.1.0;
    }

neither : (o p q : Bool) → o && (p || q) ≡ false → o ≡ true → (p ≡ false) × (q ≡ false)
neither true true q h e = never (sym h)
neither true false q h e = (refl, h)
neither false p q h e = never e

-- An open watch's expected block.
pub from_one : (w : Watch) → bad_expected w ≡ false → w.opened ≡ true → 1 ≤ w.expected
from_one w h o = ltb-false w.expected 1 (neither w.opened (ltb w.expected 1) (ltb last_of_scan w.expected) h o).0

pub to_ten : (w : Watch) → bad_expected w ≡ false → w.opened ≡ true → w.expected ≤ 10
to_ten w h o = ltb-false last_of_scan w.expected (neither w.opened (ltb w.expected 1) (ltb last_of_scan w.expected) h o).1

pub bounding_to_ten : (w : Watch) → (w.opened ≡ true → w.expected ≤ 10) → bounding w ≤ 10
bounding_to_ten w h = either (λ (k : ℕ). k ≤ 10) w.opened h (λ _. omega arith)

pub accepted_for : (leaps : List ℕ) (w : Watch) (b : ℕ) (s : List ℕ) → refusal_of leaps w b s ≡ 0 → Passed leaps w b (good_tag leaps s)
unfolding refusal_of
accepted_for leaps w b s h = passed leaps w b (good_tag leaps s) h

-- The number of an offer, by the two lists of grounds: that of the lent record, or where it has none what the offer is refused for.
module _ (leaps : List ℕ) (w : Watch) (b : ℕ) (s : List ℕ) where
  both_lists : refusal_of leaps w b s ≡ pick (eqb (first_of (lent leaps w)) 0) (first_of (offered b (good_tag leaps s))) (first_of (lent leaps w))
  unfolding refusal_of
  both_lists = first_then (lent leaps w) (offered b (good_tag leaps s)) refl

  pub lent_number : {n : ℕ} → n ≡ first_of (lent leaps w) → (n ≡ 0 → ⊥) → n ≡ refusal_of leaps w b s
  lent_number e h = sym (both_lists ∙ sym (no _ refl (ne_eqb (first_of (lent leaps w)) 0 (λ z. h (e ∙ z))) e))

  -- of a record that passed, by whether the offered tag is good
  pub offered_number : {m : ℕ} {good : Bool} → 0 ≡ first_of (lent leaps w) → m ≡ first_of (offered b good) → good ≡ good_tag leaps s → m ≡ refusal_of leaps w b s
  offered_number {m} {good} none offered-is good-is =
      offered-is
      ∙ ap (λ (g : Bool). first_of (offered b g)) good-is
      ∙ yes _ refl (ap (λ (k : ℕ). eqb k 0) (sym none)) refl
      ∙ sym both_lists
