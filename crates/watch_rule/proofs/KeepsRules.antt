-- The promises on the rules are kept, each by its tests in their order.
-- Assumes nothing.
use mathlib.Core.Path.{◌≡◌, refl, sym, ap, subst}
use Prim.Native.Nat.{ℕ}
use native.Mathlib.Omega.{arith}
use mathlib.Core.Bool.{Bool, true, false, not}
use lib.Dec.{T}
use lib.IntN.{ℤ, pos, negsuc}
use lib.Signed.{lt_z, ◌≤ℤ◌, ◌<ℤ◌, lt_z_yes, clash_ℤ}
use borrow.Author.Tests.{eq-eqb, ne_eqb, le-ltb}
use Rattle.ground.proofs.LawsChoice.{yes, no}
use Rattle.watch_rule.specs.Rules.{in_time, rule_of}
use Rattle.watch_rule.specs.Promises.{OpenRules}

lt_true : {a b : ℤ} → a <ℤ b → lt_z a b ≡ true
lt_true {a} {b} h = go (lt_z a b) h.lt
  where
    go : (t : Bool) → T t → t ≡ true
    go true x = refl
    go false x = absurd x

lt_false : {a b : ℤ} → b ≤ℤ a → lt_z a b ≡ false
lt_false {a} {b} h = go (lt_z a b) refl
  where
    go : (t : Bool) → lt_z a b ≡ t → t ≡ false
    go true e = clash_ℤ (lt_z_yes (subst T (sym e) tt)) h
    go false e = refl

-- what is above a limit is not below 0
above : (l : ℕ) (d : ℤ) → pos l <ℤ d → lt_z d (pos 0) ≡ false
above l (pos n) h = le-ltb n 0 (omega arith)
above l (negsuc n) h = absurd h.lt

pub open_rules : (expected limit : ℕ) → OpenRules expected limit
unfolding in_time rule_of
open_rules expected limit = record {
  back = λ b d h. sym (yes _ refl (lt_true h) refl);
  late = λ b d h. sym (no _ refl (above limit d h) (yes _ refl (lt_true h) refl));
  broken = λ b d f s n. sym (no _ refl (lt_false f) (no _ refl (lt_false s) (yes _ refl (ap not (ne_eqb b expected n)) refl)));
  complete = λ b d f s e n. sym (no _ refl (lt_false f) (no _ refl (lt_false s) (no _ refl (ap not (eq-eqb b expected e)) (yes _ refl (eq-eqb b 10 n) refl))));
  keeps = λ b d f s e n. sym (no _ refl (lt_false f) (no _ refl (lt_false s) (no _ refl (ap not (eq-eqb b expected e)) (no _ refl (ne_eqb b 10 n) refl))));
}
