-- What a branch returns is what a choice of specs/ picks. The branch's test is r, often a call's result, and b is what the call ensures of
-- it; where the test stands in the code itself, r ≡ b is `refl` and the other premise comes of `lt-ltb`, `eq-eqb` and their like.
-- Assumes nothing.
use mathlib.Core.Path.{◌≡◌, refl, sym, ◌∙◌, subst}
use mathlib.Core.Bool.{Bool, true, false}
use Rattle.ground.specs.Choice.{pick}

pub yes : {X : Type 0} {r b : Bool} {x a : X} (d : X) → r ≡ b → r ≡ true → x ≡ a → x ≡ pick b a d
yes {X} {r} {b} {x} {a} d e t h = subst (λ (z : Bool). x ≡ pick z a d) (sym t ∙ e) h

pub no : {X : Type 0} {r b : Bool} {x d : X} (a : X) → r ≡ b → r ≡ false → x ≡ d → x ≡ pick b a d
no {X} {r} {b} {x} {d} a e t h = subst (λ (z : Bool). x ≡ pick z a d) (sym t ∙ e) h

-- what holds of each of two, where its side of the test is taken, holds of the one that is picked
pub either : {X : Type 0} (P : X → Type 0) (t : Bool) {a d : X} → (t ≡ true → P a) → (t ≡ false → P d) → P (pick t a d)
either P true f g = f refl
either P false f g = g refl
