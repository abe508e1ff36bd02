-- The bounds of a tag as tests and as plain facts, either way.
-- Assumes nothing.
use mathlib.Core.Path.{◌≡◌, refl, ap}
use mathlib.Core.Logic.{◌⊎◌, inl, inr}
use Prim.Native.Nat.{ℕ, ◌≤◌, ◌<◌}
use native.Mathlib.Omega.{arith}
use mathlib.Core.Bool.{Bool, true, false, ◌&&◌, ◌||◌}
use mathlib.Core.List.{List}
use lib.Dec.{eqb, leb}
use borrow.Author.Tests.{le-leb, leb-true, eq-eqb, eqb-true}
use Rattle.calendar.specs.Years.{days_in}
use Rattle.calendar.specs.Leaps.{day_of, listed}
use Rattle.calendar.proofs.KeepsLists.{in_list, list_has}
use Rattle.calendar.proofs.LawsYears.{at_most_366}
use Rattle.tag.specs.Tags.{ends_day, good_second, in_bounds}
use Rattle.tag.specs.Promises.{LeapSecond, Bounded}
use Rattle.tag.specs.declared.Tag.{Tag}
use Rattle.ground.proofs.LawsTests.{both, first, second, or_second}

-- What the first of a row of tests says.
head : (m n : ℕ) (b : Bool) → leb m n && b ≡ true → m ≤ n
head m n b h = leb-true m n (first (leb m n) b h)

-- ---- the second

module _ (leaps : List ℕ) (t : Tag) where
  is_leap_second : ends_day t && listed leaps (day_of t.year t.day) ≡ true → LeapSecond leaps t
  is_leap_second h =
      let e = first (ends_day t) _ h in
      let r = second (eqb t.hour 23) _ e in
      record {
        hour = eqb-true t.hour 23 (first (eqb t.hour 23) _ e);
        minute = eqb-true t.minute 59 (first (eqb t.minute 59) _ r);
        second = eqb-true t.second 60 (second (eqb t.minute 59) _ r);
        listed = in_list leaps (day_of t.year t.day) (second (ends_day t) _ h);
      }

  leap_second_is : LeapSecond leaps t → ends_day t && listed leaps (day_of t.year t.day) ≡ true
  leap_second_is l =
      both (both (eq-eqb t.hour 23 l.hour) (both (eq-eqb t.minute 59 l.minute) (eq-eqb t.second 60 l.second)))
      (list_has leaps (day_of t.year t.day) l.listed)

  second_facts : good_second leaps t ≡ true → (t.second ≤ 59) ⊎ LeapSecond leaps t
  unfolding good_second
  second_facts h = by (leb t.second 59) refl h
    where
      by : (b : Bool) → leb t.second 59 ≡ b → b || (ends_day t && listed leaps (day_of t.year t.day)) ≡ true → (t.second ≤ 59) ⊎ LeapSecond leaps t
      by true e k = inl (leb-true t.second 59 e)
      by false e k = inr (is_leap_second k)

  second_tests : (t.second ≤ 59) ⊎ LeapSecond leaps t → good_second leaps t ≡ true
  unfolding good_second
  second_tests (inl h) = ap (λ (b : Bool). b || (ends_day t && listed leaps (day_of t.year t.day))) (le-leb t.second 59 h)
  second_tests (inr l) = or_second (leb t.second 59) (leap_second_is l)

-- ---- all of them

module _ (leaps : List ℕ) (t : Tag) where
  pub facts : in_bounds leaps t ≡ true → Bounded leaps t
  unfolding in_bounds
  facts h₀ =
      let h₁ = second (leb t.year 9999) _ h₀ in
      let h₂ = second (leb 1 t.day) _ h₁ in
      let h₃ = second (leb t.day (days_in t.year)) _ h₂ in
      let h₄ = second (leb t.hour 23) _ h₃ in
      let h₅ = second (leb t.minute 59) _ h₄ in
      record {
        year = head t.year 9999 _ h₀;
        day = head 1 t.day _ h₁;
        to_last = head t.day (days_in t.year) _ h₂;
        hour = head t.hour 23 _ h₃;
        minute = head t.minute 59 _ h₄;
        second = second_facts leaps t (first (good_second leaps t) _ h₅);
        ms = leb-true t.ms 999 (second (good_second leaps t) _ h₅);
      }

  pub tests : Bounded leaps t → in_bounds leaps t ≡ true
  unfolding in_bounds
  tests b =
      both (le-leb t.year 9999 b.year) (both (le-leb 1 t.day b.day) (both (le-leb t.day (days_in t.year) b.to_last)
      (both (le-leb t.hour 23 b.hour) (both (le-leb t.minute 59 b.minute) (both (second_tests leaps t b.second) (le-leb t.ms 999 b.ms))))))

  pub day_below : in_bounds leaps t ≡ true → t.day < 800
  day_below h = omega (arith, (facts h).to_last, at_most_366 t.year)

-- no bound is over 99: the seconds take two digits
pub second_below : {leaps : List ℕ} {t : Tag} → (t.second ≤ 59) ⊎ LeapSecond leaps t → t.second < 100
second_below (inl h) = omega arith
second_below (inr l) = omega (arith, l.second)
