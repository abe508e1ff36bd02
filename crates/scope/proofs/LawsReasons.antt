-- The first of several reasons is one number; and the first ground of a list of tests, as the code has them, is the first of the reasons
-- that these tell: test by test, what was found decides the reason.
-- Assumes nothing.
use Prim.Native.Nat.{ℕ, ◌<◌}
use mathlib.Core.Path.{◌≡◌, refl, sym, ◌∙◌}
use mathlib.Core.Logic.{◌⊎◌, inl, inr, ◌↔◌}
use mathlib.Core.Bool.{Bool, true, false, not, ◌&&◌, ◌||◌}
use mathlib.Core.List.{List, [], ◌∷◌, ◌++◌}
use native.Mathlib.Omega.{arith}
use lib.Dec.{eqb, ltb}
use borrow.Author.Tests.{eqb-true, eqb-false, ltb-true, ltb-false, not-true, not-false}
use Rattle.ground.specs.Choice.{pick}
use Rattle.ground.specs.Grounds.{Ground, first_of, NoneHolds}
use Rattle.ground.proofs.LawsTests.{never, split, neither}
use Rattle.scope.specs.Notions.{Reason, ◌if◌, FirstOf, GivenOnce}

pub given_once : GivenOnce
given_once [] m n x y = x ∙ sym y
given_once (r ∷ rs) m n (inl x) (inl y) = x.1 ∙ sym y.1
given_once (r ∷ rs) m n (inl x) (inr y) = absurd (y.0 x.0)
given_once (r ∷ rs) m n (inr x) (inl y) = absurd (x.0 y.0)
given_once (r ∷ rs) m n (inr x) (inr y) = given_once rs m n x.1 y.1

-- ---- a test tells a reason: that it holds, or that it does not

pub record Tells (t : Bool) (P : Type 0) : Type 0 where
  pub yes : t ≡ true → P
  pub no : t ≡ false → P → ⊥

-- the reason in other words
pub told_as : {t : Bool} {P Q : Type 0} → P ↔ Q → Tells t P → Tells t Q
told_as e h = record { yes = λ y. e.0 (h.yes y); no = λ n q. h.no n (e.1 q) }

pub tells_true : (t : Bool) → Tells t (t ≡ true)
tells_true t = record { yes = λ y. y; no = λ n y. never (sym n ∙ y) }

pub tells_eq : (m n : ℕ) → Tells (eqb m n) (m ≡ n)
tells_eq m n = record { yes = eqb-true m n; no = eqb-false m n }

pub tells_less : (m n : ℕ) → Tells (ltb m n) (m < n)
tells_less m n = record { yes = ltb-true m n; no = λ f h. omega (arith, ltb-false m n f) }

pub tells_not : {t : Bool} {P : Type 0} → Tells t P → Tells (not t) (P → ⊥)
tells_not {t} h = record { yes = λ y. h.no (not-true t y); no = λ n f. f (h.yes (not-false t n)) }

pub tells_both : {t u : Bool} {P Q : Type 0} → Tells t P → Tells u Q → Tells (t && u) (P × Q)
tells_both {t} {u} {P} {Q} h k = record { yes = λ y. let s = split t u y in (h.yes s.0, k.yes s.1); no = λ n p. either_fails t h n p }
  where
    either_fails : (t : Bool) → Tells t P → t && u ≡ false → P × Q → ⊥
    either_fails true h n p = k.no n p.1
    either_fails false h n p = h.no n p.0

pub tells_either : {t u : Bool} {P Q : Type 0} → Tells t P → Tells u Q → Tells (t || u) (P ⊎ Q)
tells_either {t} {u} {P} {Q} h k = record { yes = one_holds t h; no = λ n. none (neither t u n) }
  where
    one_holds : (t : Bool) → Tells t P → t || u ≡ true → P ⊎ Q
    one_holds true h y = inl (h.yes y)
    one_holds false h y = inr (k.yes y)

    none : (t ≡ false) × (u ≡ false) → P ⊎ Q → ⊥
    none n (inl p) = h.no n.0 p
    none n (inr q) = k.no n.1 q

-- a reason that a test tells, with what follows where it does not hold: the shape of `FirstOf`
pub decided : {t : Bool} {P R : Type 0} {m n : ℕ} → Tells t P → (t ≡ true → P → n ≡ m) → (t ≡ false → (P → ⊥) → R) → (P × (n ≡ m)) ⊎ ((P → ⊥) × R)
decided {t} {P} {R} {m} {n} h f g = by t refl
  where
    by : (u : Bool) → t ≡ u → (P × (n ≡ m)) ⊎ ((P → ⊥) × R)
    by true e = inl (h.yes e, f e (h.yes e))
    by false e = inr (h.no e, g e (h.no e))

-- ---- tests in a row tell reasons in a row, of the same numbers; of a later one it is enough to know it where the earlier do not hold

abbrev pub AllTell : List Ground → List Reason → Type 0
AllTell [] [] = Unit {0}
AllTell [] (r ∷ rs) = ⊥
AllTell (g ∷ gs) [] = ⊥
AllTell (g ∷ gs) (r ∷ rs) = (g.number ≡ r.number) × Tells g.holds r.holds × (g.holds ≡ false → (r.holds → ⊥) → AllTell gs rs)

pub first_reason : (gs : List Ground) (rs : List Reason) → AllTell gs rs → FirstOf rs (first_of gs)
first_reason [] [] h = refl
first_reason [] (r ∷ rs) h = absurd h
first_reason (g ∷ gs) [] h = absurd h
first_reason (g ∷ gs) (r ∷ rs) h = by g.holds refl (λ e. first_reason gs rs (h.2 e (h.1.no e)))
  where
    by : (t : Bool) → g.holds ≡ t → (g.holds ≡ false → FirstOf rs (first_of gs)) → FirstOf (r ∷ rs) (pick t g.number (first_of gs))
    by true e f = inl (h.1.yes e, h.0)
    by false e f = inr (h.1.no e, f e)

-- a first reason that does not hold is passed over; the last one may be said in other words
pub passed_over : (r : Reason) (rs : List Reason) {n : ℕ} → (r.holds → ⊥) → FirstOf (r ∷ rs) n → FirstOf rs n
passed_over r rs h (inl p) = absurd (h p.0)
passed_over r rs h (inr p) = p.1

pub in_other_words : {P Q : Type 0} {k n : ℕ} → P ↔ Q → FirstOf (k if P ∷ []) n → FirstOf (k if Q ∷ []) n
in_other_words e (inl p) = inl (e.0 p.0, p.1)
in_other_words e (inr p) = inr (λ q. p.0 (e.1 q), p.1)

-- none of the reasons holds
abbrev pub NoReason : List Reason → Type 0
NoReason [] = Unit {0}
NoReason (r ∷ rs) = (r.holds → ⊥) × NoReason rs

-- one row behind another
pub tell_joined : (gs : List Ground) (rs : List Reason) (hs : List Ground) (ss : List Reason) → AllTell gs rs → (NoneHolds gs → NoReason rs → AllTell hs ss)
    → AllTell (gs ++ hs) (rs ++ ss)
tell_joined [] [] hs ss h k = k tt tt
tell_joined [] (r ∷ rs) hs ss h k = absurd h
tell_joined (g ∷ gs) [] hs ss h k = absurd h
tell_joined (g ∷ gs) (r ∷ rs) hs ss h k = (h.0, h.1, λ e n. tell_joined gs rs hs ss (h.2 e n) (λ es ns. k (e, es) (n, ns)))

-- none has the number 0, which is acceptance
abbrev pub NoZero : List Reason → Type 0
NoZero [] = Unit {0}
NoZero (r ∷ rs) = (r.number ≡ 0 → ⊥) × NoZero rs

-- reasons tested one row behind another: the second row decides where the first gave 0, and only there
pub behind : (rs more : List Reason) → NoZero rs → {k m : ℕ} → FirstOf rs k → ((k ≡ 0 → ⊥) → m ≡ k) → (k ≡ 0 → FirstOf more m) → FirstOf (rs ++ more) m
behind [] more u h same f = f h
behind (r ∷ rs) more u (inl h) same f = inl (h.0, same (λ z. u.0 (sym h.1 ∙ z)) ∙ h.1)
behind (r ∷ rs) more u (inr h) same f = inr (h.0, behind rs more u.1 h.1 same f)
