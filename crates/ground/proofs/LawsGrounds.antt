-- No ground holds exactly where the first that holds is 0; a ground behind others that do not hold is the first; and the two ends of
-- an answer that goes by the number.
-- Assumes nothing.
use Prim.Native.Nat.{ℕ}
use mathlib.Core.Path.{◌≡◌, refl, sym, ap, ◌∙◌}
use mathlib.Core.Logic.{◌↔◌}
use mathlib.Core.Bool.{Bool, true, false, not, ◌&&◌}
use mathlib.Core.List.{List, [], ◌∷◌, ◌++◌}
use lib.Dec.{eqb}
use borrow.Author.Tests.{eqb-true, eqb-false, eq-eqb, ne_eqb, not-true}
use Rattle.ground.specs.Choice.{pick}
use Rattle.ground.specs.Grounds.{Ground, first_of, NoneHolds}
use Rattle.ground.proofs.LawsChoice.{yes, no, either}
use Rattle.ground.proofs.LawsTests.{split}

-- none has the number 0, which is acceptance
abbrev pub numbered : List Ground → Bool
numbered [] = true
numbered (g ∷ gs) = not (eqb g.number 0) && numbered gs

pub none_first : (gs : List Ground) → NoneHolds gs → first_of gs ≡ 0
none_first [] h = refl
none_first (g ∷ gs) h = ap (λ (t : Bool). pick t g.number (first_of gs)) h.0 ∙ none_first gs h.1

pub first_none : (gs : List Ground) → numbered gs ≡ true → first_of gs ≡ 0 → NoneHolds gs
first_none [] n e = tt
first_none (g ∷ gs) n e = let s = split (not (eqb g.number 0)) (numbered gs) n in go g.holds refl s.0 e (first_none gs s.1)
  where
    go : (t : Bool) → g.holds ≡ t → not (eqb g.number 0) ≡ true → pick t g.number (first_of gs) ≡ 0 → (first_of gs ≡ 0 → NoneHolds gs) → NoneHolds (g ∷ gs)
    go true h n e f = absurd (eqb-false g.number 0 (not-true (eqb g.number 0) n) e)
    go false h n e f = (h, f e)

pub none_append : (xs ys : List Ground) → NoneHolds xs → NoneHolds ys → NoneHolds (xs ++ ys)
none_append [] ys h k = k
none_append (g ∷ gs) ys h k = (h.0, none_append gs ys h.1 k)

pub none_split : (xs ys : List Ground) → NoneHolds (xs ++ ys) → NoneHolds xs × NoneHolds ys
none_split [] ys h = (tt, h)
none_split (g ∷ gs) ys h = let s = none_split gs ys h.1 in ((h.0, s.0), s.1)

pub first_is : (before : List Ground) (g : Ground) (after : List Ground) → NoneHolds before → g.holds ≡ true → first_of (before ++ (g ∷ after)) ≡ g.number
first_is [] g after h e = ap (λ (t : Bool). pick t g.number (first_of after)) e
first_is (b ∷ bs) g after h e = ap (λ (t : Bool). pick t b.number (first_of (bs ++ (g ∷ after)))) h.0 ∙ first_is bs g after h.1 e

-- no ground of a list has this number; and no two have one
abbrev pub absent : ℕ → List Ground → Bool
absent n [] = true
absent n (g ∷ gs) = not (eqb g.number n) && absent n gs

abbrev pub distinct : List Ground → Bool
distinct [] = true
distinct (g ∷ gs) = absent g.number gs && distinct gs

never_first : (n : ℕ) (gs : List Ground) → (n ≡ 0 → ⊥) → absent n gs ≡ true → first_of gs ≡ n → ⊥
never_first n [] z a e = z (sym e)
never_first n (g ∷ gs) z a e = let s = split (not (eqb g.number n)) (absent n gs) a in go g.holds s.0 e (never_first n gs z s.1)
  where
    go : (t : Bool) → not (eqb g.number n) ≡ true → pick t g.number (first_of gs) ≡ n → (first_of gs ≡ n → ⊥) → ⊥
    go true a e f = eqb-false g.number n (not-true (eqb g.number n) a) e
    go false a e f = f e

absent_at : (n : ℕ) (before : List Ground) (g : Ground) (after : List Ground) → absent n (before ++ (g ∷ after)) ≡ true → g.number ≡ n → ⊥
absent_at n [] g after a e = eqb-false g.number n (not-true (eqb g.number n) (split (not (eqb g.number n)) (absent n after) a).0) e
absent_at n (b ∷ bs) g after a e = absent_at n bs g after (split (not (eqb b.number n)) (absent n (bs ++ (g ∷ after))) a).1 e

first_holds : (before : List Ground) (g : Ground) (after : List Ground) → numbered (before ++ (g ∷ after)) ≡ true → distinct (before ++ (g ∷ after)) ≡ true
    → first_of (before ++ (g ∷ after)) ≡ g.number → NoneHolds before × (g.holds ≡ true)
first_holds [] g after n d e = go g.holds refl e
  where
    go : (t : Bool) → g.holds ≡ t → pick t g.number (first_of after) ≡ g.number → Unit {0} × (g.holds ≡ true)
    go true h e = (tt, h)
    go false h e =
        absurd
        (never_first g.number after (eqb-false g.number 0 (not-true (eqb g.number 0) (split (not (eqb g.number 0)) (numbered after) n).0))
        (split (absent g.number after) (distinct after) d).0 e)
first_holds (b ∷ bs) g after n d e =
    let x = split (not (eqb b.number 0)) (numbered (bs ++ (g ∷ after))) n in
    let y = split (absent b.number (bs ++ (g ∷ after))) (distinct (bs ++ (g ∷ after))) d in
    go b.holds refl (absent_at b.number bs g after y.0) e (first_holds bs g after x.1 y.1)
  where
    go : (t : Bool) → b.holds ≡ t → (g.number ≡ b.number → ⊥) → pick t b.number (first_of (bs ++ (g ∷ after))) ≡ g.number
        → (first_of (bs ++ (g ∷ after)) ≡ g.number → NoneHolds bs × (g.holds ≡ true)) → NoneHolds (b ∷ bs) × (g.holds ≡ true)
    go true h f e k = absurd (f (sym e))
    go false h f e k = let r = k e in ((h, r.0), r.1)

-- the number of the first ground is given exactly where that holds and none before it does
pub exactly : (gs : List Ground) → numbered gs ≡ true → distinct gs ≡ true → {given : ℕ} → given ≡ first_of gs
    → (before : List Ground) (g : Ground) (after : List Ground) → gs ≡ before ++ (g ∷ after) → (given ≡ g.number) ↔ (NoneHolds before × (g.holds ≡ true))
exactly gs n d m before g after e = (
  λ f. first_holds before g after (sym (ap numbered e) ∙ n) (sym (ap distinct e) ∙ d) (sym (ap first_of e) ∙ sym m ∙ f),
  λ h. m ∙ ap first_of e ∙ first_is before g after h.0 h.1,
)

-- an answer that goes by a refusal's number: a where it is 0, and f of it where it is not
module _ {X : Type 0} (a : X) (f : ℕ → X) where
  pub accepts : {n : ℕ} → n ≡ 0 → a ≡ pick (eqb n 0) a (f n)
  accepts {n} e = yes _ refl (eq-eqb n 0 e) refl

  pub refuses : {n m : ℕ} → n ≡ m → (m ≡ 0 → ⊥) → f m ≡ pick (eqb n 0) a (f n)
  refuses {n} {m} e k = no _ refl (ne_eqb n 0 (λ z. k (sym e ∙ z))) (ap f (sym e))

  -- what is read off it is the number, where it is so of both
  pub reads_number : (get : X → ℕ) → get a ≡ 0 → ((n : ℕ) → get (f n) ≡ n) → (n : ℕ) → get (pick (eqb n 0) a (f n)) ≡ n
  reads_number get ea ef n = either (λ (x : X). get x ≡ n) (eqb n 0) (λ e. ea ∙ sym (eqb-true n 0 e)) (λ _. ef n)

-- grounds tested one list after another: the first list's, or where none of that holds the second's
pub first_then : (gs hs : List Ground) → numbered gs ≡ true → first_of (gs ++ hs) ≡ pick (eqb (first_of gs) 0) (first_of hs) (first_of gs)
first_then [] hs n = refl
first_then (g ∷ gs) hs n =
    let s = split (not (eqb g.number 0)) (numbered gs) n in
    by g.holds (not-true (eqb g.number 0) s.0) (first_then gs hs s.1)
  where
    by : (t : Bool) → eqb g.number 0 ≡ false → first_of (gs ++ hs) ≡ pick (eqb (first_of gs) 0) (first_of hs) (first_of gs)
        → pick t g.number (first_of (gs ++ hs)) ≡ pick (eqb (pick t g.number (first_of gs)) 0) (first_of hs) (pick t g.number (first_of gs))
    by true k e = sym (ap (λ (z : Bool). pick z (first_of hs) g.number) k)
    by false k e = e
