-- A list with one number more at its end: what is among it, and that it rises. And that the blocks of any set can be listed so.
-- Assumes nothing.
use mathlib.Core.Path.{◌≡◌, refl, sym, ap, ◌∙◌, subst}
use mathlib.Core.Logic.{◌⊎◌, ◌↔◌, inl, inr}
use Prim.Native.Nat.{ℕ, zero, suc, ◌+◌, ◌-◌, ◌^◌, ◌≤◌, ◌<◌}
use native.Mathlib.Nat.{eq-or-lt_of_le, not-suc-le-zero, pow-suc}
use native.Mathlib.Omega.{arith}
use mathlib.Core.Bool.{Bool, true, false}
use mathlib.Core.List.{List, [], ◌∷◌, ◌++◌}
use lib.Arith.{lt-one}
use lib.Dec.{ltb}
use lib.ListN.{length, get_or, length-append, get_or-append}
use lib.Count.{ones}
use borrow.Author.Tests.{ltb-true, ltb-false}
use Rattle.watch_bounds.specs.Sets.{Has}
use Rattle.watch_bounds.proofs.LawsSets.{none_in_empty, below_all, below_power, it_has, still_has, had, one_more}
use Rattle.watch.specs.Filled.{Among, Rising, HowMany}

-- ---- one number more

at_end : (ks : List ℕ) (n : ℕ) → get_or (ks ++ (n ∷ [])) (length ks) 0 ≡ n
at_end [] n = refl
at_end (k ∷ ks) n = at_end ks n

pub longer : (ks : List ℕ) (n : ℕ) → length (ks ++ (n ∷ [])) ≡ length ks + 1
longer ks n = length-append ks (n ∷ [])

module _ (ks : List ℕ) (n : ℕ) where
  -- a place in the longer list is one in the list, or the end
  place : (i : ℕ) → i < length (ks ++ (n ∷ [])) → (i < length ks) ⊎ (i ≡ length ks)
  place i h = let most : i ≤ length ks = omega (arith, longer ks n) in by (eq-or-lt_of_le most)
    where
      by : (i ≡ length ks) ⊎ (i < length ks) → (i < length ks) ⊎ (i ≡ length ks)
      by (inl e) = inr e
      by (inr l) = inl l

  pub among_more : (k : ℕ) → Among k (ks ++ (n ∷ [])) ↔ (Among k ks ⊎ (k ≡ n))
  among_more k = (λ a. was a (place a.0 a.1), now)
    where
      was : (a : Among k (ks ++ (n ∷ []))) → (a.0 < length ks) ⊎ (a.0 ≡ length ks) → Among k ks ⊎ (k ≡ n)
      was a (inl l) = inl (a.0, l, sym (get_or-append ks (n ∷ []) 0 a.0 l) ∙ a.2)
      was a (inr e) = inr (sym a.2 ∙ ap (λ (i : ℕ). get_or (ks ++ (n ∷ [])) i 0) e ∙ at_end ks n)

      now : Among k ks ⊎ (k ≡ n) → Among k (ks ++ (n ∷ []))
      now (inl a) = (a.0, omega (arith, a.1, longer ks n), get_or-append ks (n ∷ []) 0 a.0 a.1 ∙ a.2)
      now (inr e) = (length ks, omega (arith, longer ks n), at_end ks n ∙ sym e)

  rises : Rising ks → ((k : ℕ) → Among k ks → k < n) → Rising (ks ++ (n ∷ []))
  rises r f i h = by (place (suc i) h)
    where
      by : (suc i < length ks) ⊎ (suc i ≡ length ks) → get_or (ks ++ (n ∷ [])) i 0 < get_or (ks ++ (n ∷ [])) (suc i) 0
      by (inl l) =
          subst (λ (x : ℕ). x < get_or (ks ++ (n ∷ [])) (suc i) 0) (sym (get_or-append ks (n ∷ []) 0 i (omega arith)))
          (subst (λ (y : ℕ). get_or ks i 0 < y) (sym (get_or-append ks (n ∷ []) 0 (suc i) l)) (r i l))
      by (inr e) =
          subst (λ (x : ℕ). x < get_or (ks ++ (n ∷ [])) (suc i) 0) (sym (get_or-append ks (n ∷ []) 0 i (omega arith)))
          (subst (λ (y : ℕ). get_or ks i 0 < y) (sym (ap (λ (j : ℕ). get_or (ks ++ (n ∷ [])) j 0) e ∙ at_end ks n)) (f (get_or ks i 0) (i, omega arith, refl)))

-- ---- the blocks of a set

none_listed : HowMany 0 (ones 0)
unfolding ones
none_listed = record { blocks = []; rising = λ i h. absurd (not-suc-le-zero h); exactly = λ k. (λ i. absurd (none_in_empty k i), λ a. absurd (not-suc-le-zero a.1)); many = refl }

-- block n on top of the blocks below it
module _ (set n : ℕ) (h : set < 2 ^ n) (H : HowMany set (ones set)) where
  one_listed : HowMany (set + 2 ^ n) (ones (set + 2 ^ n))
  one_listed = record {
    blocks = H.blocks ++ (n ∷ []);
    rising = rises H.blocks n H.rising (λ k a. below_all set n k h ((H.exactly k).1 a));
    exactly = λ k. (λ i. (among_more H.blocks n k).1 (was k (had set n h k i)), λ a. now k ((among_more H.blocks n k).0 a));
    many = longer H.blocks n ∙ ap (λ (m : ℕ). m + 1) H.many ∙ sym (one_more set n h);
  }
    where
      was : (k : ℕ) → Has set k ⊎ (k ≡ n) → Among k H.blocks ⊎ (k ≡ n)
      was k (inl i) = inl ((H.exactly k).0 i)
      was k (inr e) = inr e

      now : (k : ℕ) → Among k H.blocks ⊎ (k ≡ n) → Has (set + 2 ^ n) k
      now k (inl a) = still_has set n h k ((H.exactly k).1 a)
      now k (inr e) = subst (Has (set + 2 ^ n)) (sym e) (it_has set n h)

listed_below : (n set : ℕ) → set < 2 ^ n → HowMany set (ones set)
listed_below zero set h = subst (λ (x : ℕ). HowMany x (ones x)) (sym (lt-one h)) none_listed
listed_below (suc n) set h = by (listed_below n) (ltb set (2 ^ n)) refl
  where
    by : ((x : ℕ) → x < 2 ^ n → HowMany x (ones x)) → (t : Bool) → ltb set (2 ^ n) ≡ t → HowMany set (ones set)
    by lower true e = lower set (ltb-true set (2 ^ n) e)
    by lower false e =
        let top : 2 ^ n ≤ set = ltb-false set (2 ^ n) e in
        let low : set - 2 ^ n < 2 ^ n = omega (arith, pow-suc 2 n) in
        let whole : set - 2 ^ n + 2 ^ n ≡ set = omega arith in
        subst (λ (x : ℕ). HowMany x (ones x)) whole (one_listed (set - 2 ^ n) n low (lower (set - 2 ^ n) low))

pub how_many : (set : ℕ) → HowMany set (ones set)
how_many set = listed_below set set (below_power set)
