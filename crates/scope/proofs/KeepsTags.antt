-- The scope's statements on time tags are kept: they are those on leap seconds with the empty list; and a day, or a year's turn, is so many
-- milliseconds on its count.
-- Assumes nothing.
use Prim.Native.Nat.{ℕ, suc, ◌+◌, ◌*◌, ◌-◌}
use mathlib.Core.Path.{◌≡◌, refl, sym, ap, ◌∙◌}
use mathlib.Core.Logic.{◌⊎◌, inl, inr, ⊎_elim, ◌↔◌}
use mathlib.Core.Bool.{Bool, true, false, cond}
use mathlib.Core.List.{List, [], ◌∷◌}
use native.Mathlib.Numerals.{add-one}
use native.Mathlib.Omega.{arith}
use lib.Dec.{ltb}
use lib.IntN.{pos, negsuc, ◌-ℤ◌, +ℤ-neg_ℤ_cancel}
use borrow.Author.Tests.{ltb-true, ltb-false, lt-ltb, le-ltb}
use Rattle.ground.specs.Choice.{pick}
use Rattle.calendar.specs.Years.{leap, days_in}
use Rattle.calendar.proofs.LawsLists.{none_good, none_before}
use Rattle.calendar.proofs.KeepsLists.{is_list}
use Rattle.time.specs.Years.{days_before}
use Rattle.time.specs.Times.{count_of, time_of, between}
use Rattle.tag.specs.declared.Tag.{Tag}
use Rattle.time.proofs.LawsTimes.{minus}
use Rattle.time.proofs.KeepsTimes as Times
use Rattle.scope.specs.Notions.{◌if◌, FirstOf}
use Rattle.scope.specs.Tags.{LeapYear, Bounds, Bad, of_day, Reading, Writing, Elapsing}
use Rattle.scope.specs.LeapSeconds as Leap
use Rattle.scope.proofs.LawsReasons.{Tells, passed_over, in_other_words}
use Rattle.scope.proofs.KeepsLeapTags as Kept
use Rattle.scope.proofs.KeepsLeapTags.{tells_leap}

-- ---- the empty list is one, and has no day

pub no_days : Leap.LeapDays []
no_days = Kept.to_days [] (is_list [] none_good)

pub same_bounds : (t : Tag) → Leap.Bounds [] t ↔ Bounds t
same_bounds t = (
  λ b. record {
    year = b.year;
    from_day = b.from_day;
    to_day = b.to_day;
    hour = b.hour;
    minute = b.minute;
    second = ⊎_elim (λ h. h) (λ p. absurd (omega (arith, p.3.1.0))) b.second;
    ms = b.ms;
  },
  λ b. record { year = b.year; from_day = b.from_day; to_day = b.to_day; hour = b.hour; minute = b.minute; second = inl b.second; ms = b.ms },
)

pub same_bad : (s : List ℕ) → Leap.Bad [] s ↔ Bad s
same_bad s = (λ f t y b. f t y ((same_bounds t).1 b), λ f t y b. f t y ((same_bounds t).0 b))

-- what the list is refused for does not hold, so that 12 is the only number left
module _ {P Q : Type 0} {n : ℕ} (same : P ↔ Q) (f : FirstOf (19 if (Leap.LeapDays [] → ⊥) ∷ 12 if P ∷ []) n) where
  only_12 : FirstOf (12 if Q ∷ []) n
  only_12 = in_other_words same (passed_over (19 if (Leap.LeapDays [] → ⊥)) (12 if P ∷ []) (λ h. h no_days) f)

  is_12 : (n ≡ 0 → ⊥) → n ≡ 12
  is_12 h = by only_12
    where
      by : FirstOf (12 if Q ∷ []) n → n ≡ 12
      by (inl p) = p.1
      by (inr p) = absurd (h p.1)

-- ---- reading and writing

pub reading : Reading
reading = record {
  number = λ s. only_12 (same_bad s) ((Kept.reading []).number s);
  taken = (Kept.reading []).taken;
  refused = λ s h. λ i. record { number = is_12 (same_bad s) ((Kept.reading []).number s) h i; tag = (Kept.reading []).refused s h i };
}

not_same : (t : Tag) → (Leap.Bounds [] t → ⊥) ↔ (Bounds t → ⊥)
not_same t = (λ f b. f ((same_bounds t).1 b), λ f b. f ((same_bounds t).0 b))

pub writing : Writing
writing = record {
  number = λ t. only_12 (not_same t) ((Kept.writing []).number t);
  taken = (Kept.writing []).taken;
  refused = λ t h. λ i. record { number = is_12 (not_same t) ((Kept.writing []).number t) h i; bytes = (Kept.writing []).refused t h i };
  bounds = λ t. (λ e. (same_bounds t).0 ((Kept.bounds [] t).0 e), λ b. (Kept.bounds [] t).1 ((same_bounds t).1 b));
  read_written = (Kept.writing []).read_written;
  write_read = (Kept.writing []).write_read;
}

-- ---- elapsed time

either_same : (a b : List ℕ) → (Leap.Bad [] a ⊎ Leap.Bad [] b) ↔ (Bad a ⊎ Bad b)
either_same a b = (
  ⊎_elim (λ p. inl ((same_bad a).0 p)) (λ p. inr ((same_bad b).0 p)),
  ⊎_elim (λ p. inl ((same_bad a).1 p)) (λ p. inr ((same_bad b).1 p)),
)

-- the same added to both
shifted : (k m n : ℕ) → pos (m + k) -ℤ pos (n + k) ≡ pos m -ℤ pos n
shifted k m n =
    let x : n + k - suc (m + k) ≡ n - suc m = omega arith in
    let y : m + k - (n + k) ≡ m - n = omega arith in
    minus (m + k) (n + k) ∙ (λ i. cond (by (ltb m n) refl i) (negsuc (x i)) (pos (y i))) ∙ sym (minus m n)
  where
    by : (t : Bool) → ltb m n ≡ t → ltb (m + k) (n + k) ≡ t
    by true e = lt-ltb (m + k) (n + k) (omega (arith, ltb-true m n e))
    by false e = le-ltb (m + k) (n + k) (omega (arith, ltb-false m n e))

abbrev midnight : Tag → ℕ
midnight t = (days_before t.year + t.day) * 86400000

since_midnight : (t : Tag) → time_of [] t ≡ of_day t + midnight t
unfolding time_of count_of
since_midnight t = omega (arith, none_before (t.year * 1000 + t.day))

module _ (a b : Tag) where
  in_a_day : a.year ≡ b.year → a.day ≡ b.day → between [] a b ≡ pos (of_day b) -ℤ pos (of_day a)
  in_a_day y d =
      (λ i. pos (since_midnight b i) -ℤ pos (since_midnight a i)) ∙ (λ i. pos (of_day b + midnight b) -ℤ pos (of_day a + (days_before (y i) + d i) * 86400000))
      ∙ shifted (midnight b) (of_day b) (of_day a)

  a_day_later : of_day a ≡ of_day b → days_before b.year + b.day ≡ days_before a.year + a.day + 1 → between [] a b ≡ pos 86400000
  a_day_later o n =
      let e : time_of [] b ≡ 86400000 + time_of [] a = omega (arith, since_midnight a, since_midnight b) in
      ap (λ (n : ℕ). pos n -ℤ pos (time_of [] a)) e ∙ +ℤ-neg_ℤ_cancel (pos 86400000) (pos (time_of [] a))

one_year_more : (y : ℕ) → days_before (y + 1) ≡ days_before y + days_in y
unfolding days_before
one_year_more y = ap days_before (add-one y)

last_of_year : (y d : ℕ) → ((d ≡ 366) × LeapYear y) ⊎ ((d ≡ 365) × (LeapYear y → ⊥)) → d ≡ days_in y
last_of_year y d h = by (leap y) (tells_leap y) h
  where
    by : (t : Bool) → Tells t (LeapYear y) → ((d ≡ 366) × LeapYear y) ⊎ ((d ≡ 365) × (LeapYear y → ⊥)) → d ≡ pick t 366 365
    by true l (inl p) = p.0
    by true l (inr p) = absurd (p.1 (l.yes refl))
    by false l (inl p) = absurd (l.no refl p.1)
    by false l (inr p) = p.0

next_year : (a b : Tag) → a.year + 1 ≡ b.year → b.day ≡ 1 → of_day a ≡ of_day b
    → ((a.day ≡ 366) × LeapYear a.year) ⊎ ((a.day ≡ 365) × (LeapYear a.year → ⊥)) → between [] a b ≡ pos 86400000
next_year a b y d o l =
    let n : days_before b.year ≡ days_before a.year + days_in a.year = ap days_before (sym y) ∙ one_year_more a.year in
    let m : a.day ≡ days_in a.year = last_of_year a.year a.day l in
    a_day_later a b o (omega arith)

pub elapsing : Elapsing
elapsing = record {
  number = λ a b. only_12 (either_same a b) ((Kept.elapsing []).number a b);
  refused = λ a b h. λ i. record { number = is_12 (either_same a b) ((Kept.elapsing []).number a b) h i; ms = (Kept.elapsing []).refused a b h i };
  taken = λ a b from to y p z q. (Kept.elapsing []).taken a b from to no_days y ((same_bounds from).1 p) z ((same_bounds to).1 q);
  in_a_day = in_a_day;
  next_day = λ a b y d o. a_day_later a b o (omega (arith, ap days_before y));
  next_year = next_year;
  additive = (Times.elapsing []).additive;
  backward = (Times.elapsing []).backward;
}
