-- The promises on lists of leap days are kept, each by induction on the list.
-- Assumes nothing.
use mathlib.Core.Path.{◌≡◌, refl, sym, ap, subst}
use mathlib.Core.Logic.{◌↔◌}
use Prim.Native.Nat.{ℕ, zero, suc, ◌+◌, ◌/◌, ◌%◌, ◌≤◌, ◌<◌}
use native.Mathlib.Omega.{arith}
use mathlib.Core.Bool.{Bool, true, false, ◌||◌}
use mathlib.Core.List.{List, [], ◌∷◌}
use lib.Dec.{eqb, leb, ltb}
use lib.ListN.{length, get_or}
use borrow.Author.Tests.{eqb-true, eq-eqb, le-leb, leb-true, lt-ltb, le-ltb, ltb-true, ltb-false}
use Rattle.ground.specs.Choice.{pick}
use Rattle.ground.proofs.LawsTests.{never, both, first, second, or_second}
use Rattle.calendar.specs.Years.{days_in}
use Rattle.calendar.specs.Leaps.{most_leaps, possible, follows, rises_from, good_list, listed, counts_for, listed_before}
use Rattle.calendar.specs.Promises.{IsDay, IsList, InList, Passed, Lists}
use Rattle.calendar.proofs.LawsLists.{short}
use Rattle.calendar.proofs.LawsYears.{at_most_366}
use Rattle.calendar.proofs.LawsLeaps.{at_most_1}

-- ---- a possible day

is_day : (n : ℕ) → possible n ≡ true → IsDay n
unfolding possible
is_day n h =
    let r = second (leb (n / 1000) 9999) _ h in
    record {
      year = n / 1000;
      day = n % 1000;
      number = omega arith;
      to_9999 = leb-true (n / 1000) 9999 (first (leb (n / 1000) 9999) _ h);
      from_1 = leb-true 1 (n % 1000) (first (leb 1 (n % 1000)) _ r);
      to_last = leb-true (n % 1000) (days_in (n / 1000)) (second (leb 1 (n % 1000)) _ r);
    }

day_is : (n : ℕ) → IsDay n → possible n ≡ true
unfolding possible
day_is n h =
    let low : h.day < 1000 = omega (arith, h.to_last, at_most_366 h.year) in
    let year : n / 1000 ≡ h.year = omega (arith, h.number) in
    let day : n % 1000 ≡ h.day = omega (arith, h.number) in
    let last : n % 1000 ≤ days_in (n / 1000) = subst (λ (y : ℕ). n % 1000 ≤ days_in y) (sym year) (omega (arith, h.to_last)) in
    both (le-leb (n / 1000) 9999 (omega (arith, h.to_9999))) (both (le-leb 1 (n % 1000) (omega (arith, h.from_1))) (le-leb (n % 1000) (days_in (n / 1000)) last))

-- ---- days that rise from one

pub record Rises (n : ℕ) (leaps : List ℕ) : Type 0 where
  pub days : (i : ℕ) → i < length leaps → IsDay (get_or leaps i 0)
  pub rising : (i : ℕ) → suc i < length leaps → get_or leaps i 0 < get_or leaps (suc i) 0
  pub from : 0 < length leaps → n < get_or leaps 0 0

tests_rise : (n : ℕ) (leaps : List ℕ) → rises_from n leaps ≡ true → Rises n leaps
unfolding rises_from
tests_rise n [] h = record { days = λ i p. absurd (omega arith); rising = λ i p. absurd (omega arith); from = λ p. absurd (omega arith) }
tests_rise n (d ∷ ds) h =
    let front : follows n d ≡ true = first _ (rises_from d ds) h in
    let rest : Rises d ds = tests_rise d ds (second (follows n d) _ h) in
    record { days = days (is_day d (second (ltb n d) _ front)) rest.days; rising = rising rest; from = λ p. ltb-true n d (first (ltb n d) _ front) }
  where
    days : IsDay d → ((i : ℕ) → i < length ds → IsDay (get_or ds i 0)) → (i : ℕ) → i < length (d ∷ ds) → IsDay (get_or (d ∷ ds) i 0)
    days p q zero l = p
    days p q (suc i) l = q i (omega arith)

    rising : Rises d ds → (i : ℕ) → suc i < length (d ∷ ds) → get_or (d ∷ ds) i 0 < get_or (d ∷ ds) (suc i) 0
    rising r zero l = r.from (omega arith)
    rising r (suc i) l = r.rising i (omega arith)

rise_tests : (n : ℕ) (leaps : List ℕ) → Rises n leaps → rises_from n leaps ≡ true
unfolding rises_from
rise_tests n [] r = refl
rise_tests n (d ∷ ds) r =
    both (both (lt-ltb n d (r.from (omega arith))) (day_is d (r.days 0 (omega arith))))
    (rise_tests d ds (record { days = λ i p. r.days (suc i) (omega arith); rising = λ i p. r.rising (suc i) (omega arith); from = λ p. r.rising 0 (omega arith) }))

positive : (n : ℕ) → IsDay n → 0 < n
positive n h = omega (arith, h.number, h.from_1)

pub is_list : (leaps : List ℕ) → good_list leaps ≡ true → IsList leaps
unfolding good_list
is_list leaps h =
    let r : Rises 0 leaps = tests_rise 0 leaps (second (leb (length leaps) most_leaps) _ h) in
    record { most = short leaps h; days = r.days; rising = r.rising }

pub list_is : (leaps : List ℕ) → IsList leaps → good_list leaps ≡ true
unfolding good_list
list_is leaps h =
    both (le-leb (length leaps) most_leaps h.most)
    (rise_tests 0 leaps (record { days = h.days; rising = h.rising; from = λ p. positive (get_or leaps 0 0) (h.days 0 p) }))

-- ---- a day in a list

pub in_list : (leaps : List ℕ) (n : ℕ) → listed leaps n ≡ true → InList leaps n
unfolding listed
in_list [] n h = never h
in_list (d ∷ ds) n h = by (eqb d n) refl h (in_list ds n)
  where
    by : (t : Bool) → eqb d n ≡ t → t || listed ds n ≡ true → (listed ds n ≡ true → InList ds n) → InList (d ∷ ds) n
    by true e k f = record { place = 0; within = omega arith; is = eqb-true d n e }
    by false e k f = let r = f k in record { place = suc r.place; within = omega (arith, r.within); is = r.is }

pub list_has : (leaps : List ℕ) (n : ℕ) → InList leaps n → listed leaps n ≡ true
unfolding listed
list_has [] n h = absurd (omega (arith, h.within))
list_has (d ∷ ds) n h = by h.place h.within h.is (list_has ds n)
  where
    by : (i : ℕ) → i < length (d ∷ ds) → get_or (d ∷ ds) i 0 ≡ n → (InList ds n → listed ds n ≡ true) → eqb d n || listed ds n ≡ true
    by zero l e f = ap (λ (t : Bool). t || listed ds n) (eq-eqb d n e)
    by (suc i) l e f = or_second (eqb d n) (f (record { place = i; within = omega arith; is = e }))

-- ---- the days before one

none_from : (leaps : List ℕ) (d n : ℕ) → rises_from d leaps ≡ true → n ≤ d → listed_before leaps n ≡ 0
unfolding rises_from listed_before
none_from [] d n h l = refl
none_from (e ∷ es) d n h l =
    let above : d < e = ltb-true d e (first (ltb d e) _ (first _ (rises_from e es) h)) in
    rw (le-ltb e n (omega arith)) (omega (arith, none_from es e n (second (follows d e) _ h) (omega arith)))

at_most : (leaps : List ℕ) (n : ℕ) → listed_before leaps n ≤ length leaps
unfolding listed_before
at_most [] n = omega arith
at_most (d ∷ ds) n = omega (arith, at_most_1 (counts_for d n), at_most ds n)

before : (leaps : List ℕ) (low n : ℕ) → rises_from low leaps ≡ true → (i : ℕ) → i < length leaps → (get_or leaps i 0 < n) ↔ (i < listed_before leaps n)
unfolding rises_from listed_before
before [] low n h i l = absurd (omega arith)
before (d ∷ ds) low n h i l = by (ltb d n) refl i l (before ds d n rest)
  where
    rest : rises_from d ds ≡ true
    rest = second (follows low d) _ h

    by : (t : Bool) → ltb d n ≡ t → (i : ℕ) → i < length (d ∷ ds) → ((i : ℕ) → i < length ds → (get_or ds i 0 < n) ↔ (i < listed_before ds n))
        → (get_or (d ∷ ds) i 0 < n) ↔ (i < pick t 1 0 + listed_before ds n)
    by true e zero l f = (λ p. omega arith, λ p. ltb-true d n e)
    by true e (suc i) l f =
        let k = f i (omega arith) in
        (λ p. omega (arith, k.0 p), λ p. k.1 (omega arith))
    by false e zero l f = (λ p. absurd (omega (arith, ltb-false d n e)), λ p. absurd (omega (arith, none_from ds d n rest (ltb-false d n e))))
    by false e (suc i) l f =
        let none : listed_before ds n ≡ 0 = none_from ds d n rest (ltb-false d n e) in
        (λ p. absurd (omega (arith, none, (f i (omega arith)).0 p)), λ p. absurd (omega (arith, none)))

passed : (leaps : List ℕ) (n : ℕ) → IsList leaps → Passed leaps n (listed_before leaps n)
unfolding good_list
passed leaps n h = record { most = at_most leaps n; before = before leaps 0 n (second (leb (length leaps) most_leaps) _ (list_is leaps h)) }

-- two numbers of first days are one: the smaller would be the place of a day that is before and is not
same : {leaps : List ℕ} {n j k : ℕ} → Passed leaps n j → Passed leaps n k → j ≤ k
same {leaps} {n} {j} {k} p q = by (ltb k j) refl
  where
    by : (t : Bool) → ltb k j ≡ t → j ≤ k
    by true e =
        let l : k < j = ltb-true k j e in
        let within : k < length leaps = omega (arith, p.most) in
        absurd (omega (arith, (q.before k within).0 ((p.before k within).1 l)))
    by false e = ltb-false k j e

pub lists : Lists
lists = record {
  good = λ leaps. (is_list leaps, list_is leaps);
  has = λ leaps n. (in_list leaps n, list_has leaps n);
  counts = passed;
  once = λ leaps n k h q. let p = passed leaps n h in omega (arith, same p q, same q p);
}
