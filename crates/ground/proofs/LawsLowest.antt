-- Grounds whose numbers rise: the first that holds is the lowest of what they tell.
-- Assumes nothing.
use Prim.Native.Nat.{ℕ, ◌<◌}
use mathlib.Core.Path.{◌≡◌, refl, sym, subst}
use mathlib.Core.Logic.{◌⊎◌, inl, inr}
use mathlib.Core.Bool.{Bool, true, false, ◌&&◌}
use mathlib.Core.List.{List, [], ◌∷◌}
use native.Mathlib.Omega.{arith}
use lib.Dec.{ltb}
use borrow.Author.Tests.{ltb-true}
use Rattle.ground.specs.Choice.{pick}
use Rattle.ground.specs.Grounds.{Ground, first_of, NoneHolds}
use Rattle.ground.proofs.LawsGrounds.{numbered, first_none}
use Rattle.ground.proofs.LawsTests.{split}

-- every number is above n; each is above the one before it, the first above n
abbrev pub all_above : ℕ → List Ground → Bool
all_above n [] = true
all_above n (g ∷ gs) = ltb n g.number && all_above n gs

abbrev pub rising : List Ground → Bool
rising [] = true
rising (g ∷ gs) = all_above g.number gs && rising gs

-- one of them has this number
abbrev pub Has : List Ground → ℕ → Type 0
Has [] k = ⊥
Has (g ∷ gs) k = (k ≡ g.number) ⊎ Has gs k

pub has_above : (n : ℕ) (gs : List Ground) → all_above n gs ≡ true → {k : ℕ} → Has gs k → n < k
has_above n [] a h = absurd h
has_above n (g ∷ gs) a (inl e) = let s = split (ltb n g.number) (all_above n gs) a in omega (arith, ltb-true n g.number s.0)
has_above n (g ∷ gs) a (inr h) = has_above n gs (split (ltb n g.number) (all_above n gs) a).1 h

-- each ground tells whether P is so of its number
module _ (P : ℕ → Type 0) where
  abbrev pub TellsAll : List Ground → Type 0
  TellsAll [] = Unit {0}
  TellsAll (g ∷ gs) = (g.holds ≡ true → P g.number) × (g.holds ≡ false → P g.number → ⊥) × TellsAll gs

  -- one that P is so of, and no lower one is, is the first
  pub lowest_first : (gs : List Ground) → TellsAll gs → rising gs ≡ true → (k : ℕ) → Has gs k → P k → ((j : ℕ) → j < k → P j → ⊥) → first_of gs ≡ k
  lowest_first [] t r k h p low = absurd h
  lowest_first (g ∷ gs) t r k h p low =
      let s = split (all_above g.number gs) (rising gs) r in
      by g.holds refl s.0 h (λ m. lowest_first gs t.2 s.1 k m p low)
    where
      by : (u : Bool) → g.holds ≡ u → all_above g.number gs ≡ true → Has (g ∷ gs) k → (Has gs k → first_of gs ≡ k) → pick u g.number (first_of gs) ≡ k
      by true e a (inl m) f = sym m
      by true e a (inr m) f = absurd (low g.number (has_above g.number gs a m) (t.0 e))
      by false e a (inl m) f = absurd (t.1 e (subst P m p))
      by false e a (inr m) f = f m

  -- k is one that P is so of, and no lower one of them is
  abbrev pub IsLowest : List Ground → ℕ → Type 0
  IsLowest gs k = P k × ((j : ℕ) → Has gs j → j < k → P j → ⊥)

  with_first : (g : Ground) (gs : List Ground) → all_above g.number gs ≡ true → P g.number → IsLowest (g ∷ gs) g.number
  with_first g gs a p = (p, none)
    where
      none : (j : ℕ) → Has (g ∷ gs) j → j < g.number → P j → ⊥
      none j (inl m) l q = omega arith
      none j (inr m) l q = let b = has_above g.number gs a m in omega arith

  with_later : (g : Ground) (gs : List Ground) (k : ℕ) → (P g.number → ⊥) → IsLowest gs k → IsLowest (g ∷ gs) k
  with_later g gs k n r = (r.0, none)
    where
      none : (j : ℕ) → Has (g ∷ gs) j → j < k → P j → ⊥
      none j (inl m) l q = n (subst P m q)
      none j (inr m) l q = r.1 j m l q

  pub first_lowest : (gs : List Ground) → TellsAll gs → rising gs ≡ true → (first_of gs ≡ 0 → ⊥) → IsLowest gs (first_of gs)
  first_lowest [] t r n = absurd (n refl)
  first_lowest (g ∷ gs) t r n =
      let s = split (all_above g.number gs) (rising gs) r in
      by g.holds refl s.0 n (first_lowest gs t.2 s.1)
    where
      by : (u : Bool) → g.holds ≡ u → all_above g.number gs ≡ true → (pick u g.number (first_of gs) ≡ 0 → ⊥)
          → ((first_of gs ≡ 0 → ⊥) → IsLowest gs (first_of gs)) → IsLowest (g ∷ gs) (pick u g.number (first_of gs))
      by true e a n f = with_first g gs a (t.0 e)
      by false e a n f = with_later g gs (first_of gs) (t.1 e) (f n)

  -- P is so of none of them where no ground holds
  pub none_lowest : (gs : List Ground) → TellsAll gs → first_of gs ≡ 0 → numbered gs ≡ true → (k : ℕ) → Has gs k → P k → ⊥
  none_lowest gs t z n k h p = go gs t (first_none gs n z) h
    where
      go : (gs : List Ground) → TellsAll gs → NoneHolds gs → Has gs k → ⊥
      go [] t n h = h
      go (g ∷ gs) t n (inl m) = t.1 n.0 (subst P m p)
      go (g ∷ gs) t n (inr m) = go gs t.2 n.1 m
