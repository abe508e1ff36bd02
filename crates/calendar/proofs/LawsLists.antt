-- What callers cite of lists: the empty list is one, the first 64 days of a list are all of it, and a later day has at least as many listed
-- days before it, one more where the earlier one is listed.
-- Assumes nothing.
use mathlib.Core.Path.{◌≡◌, refl}
use Prim.Native.Nat.{ℕ, ◌+◌, ◌≤◌, ◌<◌}
use native.Mathlib.Omega.{arith}
use mathlib.Core.Bool.{Bool, true, false, ◌||◌}
use mathlib.Core.List.{List, [], ◌∷◌}
use lib.Dec.{eqb}
use lib.ListN.{length, take}
use borrow.Author.Tests.{eqb-true, leb-true, lt-ltb, le-ltb, ltb-true, ltb-false}
use Rattle.ground.specs.Choice.{pick}
use Rattle.ground.proofs.LawsTests.{never, first}
use Rattle.calendar.specs.Leaps.{most_leaps, rises_from, good_list, listed, counts_for, listed_before}
use Rattle.calendar.proofs.LawsLeaps.{firsts}

pub none_good : good_list [] ≡ true
unfolding good_list rises_from
none_good = refl

pub none_before : (n : ℕ) → listed_before [] n ≡ 0
unfolding listed_before
none_before n = refl

pub short : (leaps : List ℕ) → good_list leaps ≡ true → length leaps ≤ most_leaps
unfolding good_list
short leaps h = leb-true (length leaps) most_leaps (first _ (rises_from 0 leaps) h)

pub all_first : (leaps : List ℕ) → good_list leaps ≡ true → take most_leaps leaps ≡ leaps
all_first leaps h = firsts leaps (short leaps h)

-- one day's part in the counts of two days, the first no later
one_up : {m n : ℕ} (d : ℕ) → m ≤ n → pick (counts_for d m) 1 0 ≤ pick (counts_for d n) 1 0
one_up {m} {n} d h = by (counts_for d m) (counts_for d n) refl refl
  where
    by : (s t : Bool) → counts_for d m ≡ s → counts_for d n ≡ t → pick s 1 0 ≤ pick t 1 0
    by true true x y = omega arith
    by true false x y = absurd (omega (arith, ltb-true d m x, ltb-false d n y))
    by false true x y = omega arith
    by false false x y = omega arith

pub counts_up : (leaps : List ℕ) {m n : ℕ} → m ≤ n → listed_before leaps m ≤ listed_before leaps n
unfolding listed_before
counts_up [] h = omega arith
counts_up (d ∷ ds) h = omega (arith, one_up d h, counts_up ds h)

pub counts_one : (leaps : List ℕ) {m n : ℕ} → listed leaps m ≡ true → m < n → listed_before leaps m + 1 ≤ listed_before leaps n
unfolding listed listed_before
counts_one [] l h = never l
counts_one (d ∷ ds) {m} {n} l h = by (eqb d m) refl l (λ k. counts_one ds k h)
  where
    by : (t : Bool) → eqb d m ≡ t → t || listed ds m ≡ true → (listed ds m ≡ true → listed_before ds m + 1 ≤ listed_before ds n)
        → pick (counts_for d m) 1 0 + listed_before ds m + 1 ≤ pick (counts_for d n) 1 0 + listed_before ds n
    by true e k f =
        let is : d ≡ m = eqb-true d m e in
        let up : listed_before ds m ≤ listed_before ds n = counts_up ds (omega arith) in
        rw (le-ltb d m (omega arith), lt-ltb d n (omega arith)) (omega arith)
    by false e k f =
        let one : pick (counts_for d m) 1 0 ≤ pick (counts_for d n) 1 0 = one_up d (omega arith) in
        omega (arith, f k)
