-- The three ends of the comparison of copies, by what the calls of `agree` gave.
-- Assumes nothing.
use Prim.Native.Nat.{ℕ}
use mathlib.Core.Path.{◌≡◌, refl, sym, ◌∙◌}
use mathlib.Core.Bool.{Bool, true, false, not, ◌&&◌, ◌||◌}
use mathlib.Core.List.{List}
use native.Mathlib.Omega.{arith}
use lib.ListN.{take}
use Rattle.ground.specs.Choice.{pick}
use Rattle.ground.proofs.LawsChoice.{yes, no}
use Rattle.ground.proofs.LawsGrounds.{accepts, refuses}
use Rattle.check_rule.specs.Check.{passes}
use Rattle.copies.specs.Copies.{header_length, same_as, none_passes, two_differ, common, refused_common, found_common, agreed_of}

-- which of three copies pass
pub record Tested (a b c : List ℕ) (p q r : Bool) : Type 0 where
  pub first : p ≡ passes a
  pub second : q ≡ passes b
  pub third : r ≡ passes c

module _ {a b c : List ℕ} {p q r : Bool} (t : Tested a b c p q r) where
  none_is : not (p || (q || r)) ≡ none_passes a b c
  none_is i = not (t.first i || (t.second i || t.third i))

  pub none_refused : not (p || (q || r)) ≡ true → refused_common 2 ≡ agreed_of a b c
  unfolding agreed_of
  none_refused h = refuses (found_common a b c) refused_common (sym (yes _ none_is h refl)) (λ z. omega arith)

  module _ {x y z : Bool} (some : not (p || (q || r)) ≡ false)
      (one : x ≡ p && (q && not (same_as a b))) (two : y ≡ p && (r && not (same_as a c))) (three : z ≡ q && (r && not (same_as b c))) where
    differ_is : (x || (y || z)) ≡ two_differ a b c
    differ_is =
        (λ i. one i || (two i || three i))
        ∙ (λ i. (t.first i && (t.second i && not (same_as a b))) || ((t.first i && (t.third i && not (same_as a c))) || (t.second i && (t.third i && not (same_as b c)))))

    pub differ_refused : (x || (y || z)) ≡ true → refused_common 3 ≡ agreed_of a b c
    unfolding agreed_of
    differ_refused h = refuses (found_common a b c) refused_common (sym (no _ none_is some (yes _ differ_is h refl))) (λ z. omega arith)

    pub common_found : (x || (y || z)) ≡ false → {h : List ℕ} → h ≡ take header_length (pick p a (pick q b c))
        → record { number = 0; header = h; first = p; second = q; third = r } ≡ agreed_of a b c
    unfolding agreed_of common
    common_found none e =
        (λ i. record {
          number = 0;
          header = (e ∙ (λ j. take header_length (pick (t.first j) a (pick (t.second j) b c)))) i;
          first = t.first i;
          second = t.second i;
          third = t.third i;
        })
        ∙ accepts (found_common a b c) refused_common (sym (no _ none_is some (no _ differ_is none refl)))
