-- The promises on elapsed time are kept. The order goes by the days before a year, which grow with it, and by numbers that stay below the
-- next one's unit, but for a leap second, which every later day counts; sign and sum are laws of integers.
-- Assumes nothing.
use mathlib.Core.Path.{◌≡◌, refl, sym, ap, ◌∙◌, subst}
use Prim.Native.Nat.{ℕ, zero, suc, ◌+◌, ◌*◌, ◌-◌, ◌%◌, ◌≤◌, ◌<◌}
use native.Mathlib.Omega.{arith}
use native.Mathlib.Nat.{mod-mod, zero-add, suc-add}
use mathlib.Core.Logic.{◌⊎◌, inl, inr}
use mathlib.Core.Bool.{Bool, true, false, not, ◌&&◌}
use mathlib.Core.List.{List, [], ◌∷◌}
use lib.Dec.{eqb, ltb}
use borrow.Author.Tests.{ltb-true, ltb-false}
use lib.Signed.{◌<ℤ◌}
use lib.ListN.{get_or, length-set}
use lib.IntN.{ℤ, pos, neg_ℤ, ◌+ℤ◌, ◌-ℤ◌, +ℤ_assoc, +ℤ_comm, +ℤ_invr, neg_ℤ-+ℤ, neg_ℤ-neg_ℤ, -ℤ-+ℤ_cancel}
use Rattle.ground.specs.Choice.{pick}
use Rattle.calendar.specs.Years.{days_in}
use Rattle.calendar.specs.Leaps.{day_of, good_list, listed_before}
use Rattle.calendar.proofs.LawsLists.{counts_up, counts_one}
use Rattle.calendar.proofs.KeepsLists.{list_is, list_has}
use Rattle.calendar.proofs.LawsYears.{at_most_366}
use Rattle.time.specs.Years.{days_before}
use Rattle.tag.specs.Digits.{digits_of, decimal}
use Rattle.tag.specs.Tags.{unmarked, tag_digits, part, tag_of, good_second, in_bounds, good_tag}
use Rattle.time.specs.Times.{count_of, time_of, between, elapsed_of}
use Rattle.tag.specs.Promises.{LeapSecond, Bounded}
use Rattle.time.specs.Promises.{Earlier, by_year, by_day, by_hour, by_minute, by_second, by_ms, SameTime, Elapsing, Quick}
use Rattle.tag.specs.declared.Tag.{Tag}
use Rattle.ground.proofs.LawsTests.{not_second}
use Rattle.time.proofs.LawsYears as Years
use Rattle.tag.proofs.LawsTags.{tag}
use Rattle.time.proofs.LawsTimes as Times
use Rattle.time.proofs.LawsTimes.{answer, counted, not_counted, not_listed}
use Rattle.tag.proofs.KeepsTags.{good, bad, not_list}

pub quick : Quick
quick = Years.quick

-- ---- integers

turned : (x y : ℤ) → x -ℤ y ≡ neg_ℤ (y -ℤ x)
turned x y = sym (neg_ℤ-+ℤ y (neg_ℤ x) ∙ ap (λ (z : ℤ). neg_ℤ y +ℤ z) (neg_ℤ-neg_ℤ x) ∙ +ℤ_comm (neg_ℤ y) x)

added : (x y z : ℤ) → (y -ℤ x) +ℤ (z -ℤ y) ≡ z -ℤ x
added x y z = +ℤ_comm (y -ℤ x) (z -ℤ y) ∙ sym (+ℤ_assoc (z -ℤ y) y (neg_ℤ x)) ∙ ap (λ (w : ℤ). w -ℤ x) (-ℤ-+ℤ_cancel z y)

-- ---- the order of tags is that of their times

grows : (y k : ℕ) → days_before y ≤ days_before (k + y)
unfolding days_before
grows y zero = rw (zero-add y) (omega arith)
grows y (suc k) = rw (suc-add k y) (omega (arith, grows y k))

year_before : (y z : ℕ) → y < z → days_before y + days_in y ≤ days_before z
unfolding days_before
year_before y z h =
    let e : z - suc y + suc y ≡ z = omega arith in
    subst (λ (n : ℕ). days_before (suc y) ≤ days_before n) e (grows (suc y) (z - suc y))

-- the seconds of a day are over before the next one's begin: a leap second is counted for every later day
carried : {leaps : List ℕ} {a : Tag} {n : ℕ} → (a.second ≤ 59) ⊎ LeapSecond leaps a → day_of a.year a.day < n
    → a.second + listed_before leaps (day_of a.year a.day) ≤ 59 + listed_before leaps n
carried {leaps} {a} {n} (inl s) h =
    let up : listed_before leaps (day_of a.year a.day) ≤ listed_before leaps n = counts_up leaps (omega arith) in
    omega arith
carried {leaps} {a} (inr l) h = omega (arith, l.second, counts_one leaps (list_has leaps (day_of a.year a.day) l.listed) h)

-- before the last minute of a day there is no second 60
before_last : {leaps : List ℕ} {a : Tag} → (a.second ≤ 59) ⊎ LeapSecond leaps a → a.hour * 60 + a.minute < 1439 → a.second ≤ 59
before_last (inl s) h = s
before_last (inr l) h = absurd (omega (arith, l.hour, l.minute))

one_day : (leaps : List ℕ) (a b : Tag) → a.year ≡ b.year → a.day ≡ b.day → listed_before leaps (day_of a.year a.day) ≡ listed_before leaps (day_of b.year b.day)
one_day leaps a b y d = λ i. listed_before leaps (day_of (y i) (d i))

in_order : (leaps : List ℕ) (a b : Tag) → Bounded leaps a → Bounded leaps b → Earlier a b → time_of leaps a < time_of leaps b
unfolding time_of count_of
in_order leaps a b p q (by_year y) =
    let later : day_of a.year a.day < day_of b.year b.day = omega (arith, p.to_last, at_most_366 a.year) in
    omega (arith, year_before a.year b.year y, carried p.second later)
in_order leaps a b p q (by_day y d) =
    let later : day_of a.year a.day < day_of b.year b.day = omega arith in
    omega (arith, ap days_before y, carried p.second later)
in_order leaps a b p q (by_hour y d h) = omega (arith, ap days_before y, one_day leaps a b y d, before_last p.second (omega arith))
in_order leaps a b p q (by_minute y d h m) = omega (arith, ap days_before y, one_day leaps a b y d, before_last p.second (omega arith))
in_order leaps a b p q (by_second y d h m s) = omega (arith, ap days_before y, one_day leaps a b y d)
in_order leaps a b p q (by_ms y d h m s k) = omega (arith, ap days_before y, one_day leaps a b y d)

same_time : (leaps : List ℕ) (a b : Tag) → SameTime a b → between leaps a b ≡ pos 0
unfolding time_of count_of
same_time leaps a b e =
    let t : time_of leaps a ≡ time_of leaps b = omega (arith, ap days_before e.year, one_day leaps a b e.year e.day) in
    ap (λ (n : ℕ). pos n -ℤ pos (time_of leaps a)) (sym t) ∙ +ℤ_invr (pos (time_of leaps a))

-- ---- two tags are in order one way or the other, or of one time

by_three : {X : Type 0} (m n : ℕ) → (m < n → X) → (m ≡ n → X) → (n < m → X) → X
by_three {X} m n below same above = by (ltb m n) (ltb n m) refl refl
  where
    by : (s t : Bool) → ltb m n ≡ s → ltb n m ≡ t → X
    by true t e f = below (ltb-true m n e)
    by false true e f = above (ltb-true n m f)
    by false false e f = same (omega (arith, ltb-false m n e, ltb-false n m f))

order : (a b : Tag) → Earlier a b ⊎ (SameTime a b ⊎ Earlier b a)
order a b =
    by_three a.year b.year (λ l. inl (by_year l)) (λ y.
    by_three a.day b.day (λ l. inl (by_day y l)) (λ d.
    by_three a.hour b.hour (λ l. inl (by_hour y d l)) (λ h.
    by_three a.minute b.minute (λ l. inl (by_minute y d h l)) (λ m.
    by_three a.second b.second (λ l. inl (by_second y d h m l)) (λ s.
    by_three a.ms b.ms (λ l. inl (by_ms y d h m s l)) (λ k. inr (inl (record { year = y; day = d; hour = h; minute = m; second = s; ms = k })))
    (λ g. inr (inr (by_ms (sym y) (sym d) (sym h) (sym m) (sym s) g))))
    (λ g. inr (inr (by_second (sym y) (sym d) (sym h) (sym m) g))))
    (λ g. inr (inr (by_minute (sym y) (sym d) (sym h) g))))
    (λ g. inr (inr (by_hour (sym y) (sym d) g))))
    (λ g. inr (inr (by_day (sym y) g))))
    (λ g. inr (inr (by_year g)))

clash : {X : Type 0} → pos 0 <ℤ pos 0 → X
clash h = absurd h.lt

-- what is not zero is not the time between tags in order
apart : (leaps : List ℕ) (a b : Tag) → Bounded leaps a → Bounded leaps b → between leaps a b ≡ pos 0 → SameTime a b
apart leaps a b p q e = by (order a b)
  where
    by : Earlier a b ⊎ (SameTime a b ⊎ Earlier b a) → SameTime a b
    by (inl h) = clash (subst (λ (z : ℤ). pos 0 <ℤ z) e (Times.later leaps a b (in_order leaps a b p q h)))
    by (inr (inl h)) = h
    by (inr (inr h)) = clash (subst (λ (z : ℤ). z <ℤ pos 0) e (Times.earlier leaps a b (in_order leaps b a q p h)))

-- ---- the mark

once : (s : List ℕ) → unmarked (unmarked s) ≡ unmarked s
once [] = refl
once (a ∷ []) = refl
once (a ∷ b ∷ []) = refl
once (a ∷ b ∷ c ∷ s) = ap (λ (n : ℕ). a ∷ b ∷ n ∷ s) (mod-mod c 128)

-- A tag's numbers, under any mark.
abbrev numbers : List ℕ → Bool → Tag
numbers ds f = tag (part 0 4 ds) (part 4 3 ds) (part 7 2 ds) (part 9 2 ds) (part 11 2 ds) (part 13 3 ds) f

module _ (s : List ℕ) where
  same_digits : tag_digits (unmarked s) ≡ tag_digits s
  same_digits = ap digits_of (once s)

  module _ (leaps : List ℕ) where
    still_good : good_tag leaps (unmarked s) ≡ good_tag leaps s
    unfolding good_tag good_second in_bounds tag_of
    still_good = λ i. eqb (length-set s 2 (get_or s 2 0 % 128) i) 8 && (decimal (same_digits i) && in_bounds leaps (numbers (same_digits i) false))

    still_then : time_of leaps (tag_of (unmarked s)) ≡ time_of leaps (tag_of s)
    unfolding time_of count_of tag_of
    still_then = ap (λ (ds : List ℕ). time_of leaps (numbers ds false)) same_digits

module _ (leaps : List ℕ) where
  no_mark : (a b : List ℕ) → elapsed_of leaps (unmarked a) (unmarked b) ≡ elapsed_of leaps a b
  unfolding elapsed_of
  no_mark a b = λ i.
      pick (not (good_list leaps)) (answer 19 (pos 0))
      (pick (still_good a leaps i && still_good b leaps i) (answer 0 (pos (still_then b leaps i) -ℤ pos (still_then a leaps i))) (answer 12 (pos 0)))

  -- ---- the answers

  pub elapsing : Elapsing leaps
  elapsing = record {
    no_list = λ a b h. not_listed leaps a b (not_list leaps h);
    taken = λ a b l p q. counted leaps a b (list_is leaps l) (good leaps a p) (good leaps b q);
    bad_first = λ a b l h. not_counted leaps a b (list_is leaps l) (ap (λ (t : Bool). t && good_tag leaps b) (bad leaps a h));
    bad_second = λ a b l h. not_counted leaps a b (list_is leaps l) (not_second (good_tag leaps a) (bad leaps b h));
    no_mark = no_mark;
    later = λ a b p q e. Times.later leaps a b (in_order leaps a b p q e);
    earlier = λ a b p q e. Times.earlier leaps a b (in_order leaps b a q p e);
    same = same_time leaps;
    apart = apart leaps;
    backward = λ a b. turned (pos (time_of leaps a)) (pos (time_of leaps b));
    additive = λ a b c. added (pos (time_of leaps a)) (pos (time_of leaps b)) (pos (time_of leaps c));
  }
