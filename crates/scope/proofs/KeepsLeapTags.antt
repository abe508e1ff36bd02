-- The statements on leap seconds are kept, of tags and of elapsed time: of eight bytes, one by one, what the digits say is what the crate
-- reads; the days of a list, the bounds and the leap years are told by the crate's tests; and a count is the plain one and so many seconds
-- more.
-- Assumes nothing.
use Prim.Native.Nat.{ℕ, zero, suc, ◌+◌, ◌*◌, ◌/◌, ◌%◌, ◌≤◌, ◌<◌}
use mathlib.Core.Path.{◌≡◌, refl, sym, ap, ◌∙◌, subst}
use mathlib.Core.Logic.{◌⊎◌, inl, inr, ⊎_elim, ◌↔◌}
use mathlib.Core.Bool.{Bool, true, false, not, ◌&&◌, ◌||◌}
use mathlib.Core.List.{List, [], ◌∷◌}
use native.Mathlib.Omega.{arith}
use lib.Dec.{leb}
use lib.IntN.{ℤ, pos, neg_ℤ, ◌-ℤ◌, ◌+ℤ◌, +ℤ_assoc, +ℤ_comm, neg_ℤ-+ℤ, pos-+ℤ-pos}
use lib.ListN.{length, get_or, replicate}
use borrow.Author.Tests.{leb-true, leb-false, le-leb, not-true, not-false}
use Rattle.ground.specs.Choice.{pick}
use Rattle.ground.proofs.LawsTests.{never, split}
use Rattle.bits.specs.Bits.{Below}
use Rattle.bits.proofs.LawsBelow.{below_at}
use Rattle.calendar.specs.Years.{leap, days_in}
use Rattle.calendar.specs.Leaps.{good_list}
use Rattle.calendar.specs.Promises as Days
use Rattle.calendar.specs.Promises.{IsDay, IsList}
use Rattle.calendar.proofs.LawsLists.{none_before}
use Rattle.calendar.proofs.KeepsLists.{is_list, list_is, lists}
use Rattle.tag.specs.Digits.{digits_of}
use Rattle.tag.specs.Tags.{tag_digits, tag_of, bytes_of, in_bounds, good_tag, read_tag, write_tag}
use Rattle.time.specs.Times.{time_of, between, elapsed_of}
use Rattle.tag.specs.Promises.{LeapSecond, IsTag, Bounded}
use Rattle.tag.specs.declared.Tag.{Tag}
use Rattle.tag.specs.Tags.{TagRead}
use Rattle.tag.specs.Tags.{TagBytes}
use Rattle.time.specs.Times.{Elapsed}
use Rattle.tag.proofs.LawsTags.{tag, says, spells_out, good_bounds, reads, refuses, by_list, no_list}
use Rattle.tag.proofs.LawsBounds.{facts, tests, day_below}
use Rattle.time.proofs.LawsTimes.{answer, counted, not_counted, not_listed}
use Rattle.tag.proofs.KeepsTags as Kept
use Rattle.time.proofs.KeepsTimes as Times
use Rattle.scope.specs.Notions.{◌if◌, FirstOf}
use Rattle.scope.specs.Tags.{digits, digit, Says, LeapYear, no_tag}
use Rattle.scope.specs.LeapSeconds.{LeapDay, LeapDays, day_of, Listed, Bounds, Bad, Passed, Reading, Writing, Elapsing}
use Rattle.scope.proofs.LawsReasons.{Tells, told_as, tells_true, tells_eq, tells_not, tells_both, tells_either, decided}

-- ---- a list of known length, element by element

abbrev Rows : ℕ → (List ℕ → Type 0) → Type 0
Rows zero P = P []
Rows (suc n) P = (x : ℕ) → Rows n (λ s. P (x ∷ s))

all_rows : (n : ℕ) (P : List ℕ → Type 0) → Rows n P → (s : List ℕ) → length s ≡ n → P s
all_rows zero P f [] e = f
all_rows zero P f (x ∷ s) e = absurd (omega arith)
all_rows (suc n) P f [] e = absurd (omega arith)
all_rows (suc n) P f (x ∷ s) e = all_rows n (λ l. P (x ∷ l)) (f x) s (omega arith)

-- ---- what eight bytes say

thousands : (p q r s : ℕ) → (p * 10 + q) * 100 + (r * 10 + s) ≡ p * 1000 + q * 100 + r * 10 + s
thousands p q r s = omega arith

tens_first : (p q r : ℕ) → (p * 10 + q) * 10 + r ≡ p * 100 + q * 10 + r
tens_first p q r = omega arith

tens_last : (p q r : ℕ) → p * 100 + (q * 10 + r) ≡ p * 100 + q * 10 + r
tens_last p q r = omega arith

-- two tests that hold together
same_test : (x y : Bool) → (x ≡ true → y ≡ true) → (y ≡ true → x ≡ true) → x ≡ y
same_test true y f g = sym (f refl)
same_test false true f g = g refl
same_test false false f g = refl

module _ (a b c d e f g h : ℕ) where
  abbrev bytes : List ℕ
  bytes = a ∷ b ∷ c ∷ d ∷ e ∷ f ∷ g ∷ h ∷ []

  low_digit : c % 128 % 16 ≡ c % 16
  low_digit = omega arith

  same_digits : tag_digits bytes ≡ digits bytes
  unfolding digits_of
  same_digits = λ i.
      a / 16 ∷ a % 16 ∷ b / 16 ∷ b % 16 ∷ c % 128 / 16 ∷ low_digit i ∷ d / 16 ∷ d % 16
      ∷ e / 16 ∷ e % 16 ∷ f / 16 ∷ f % 16 ∷ g / 16 ∷ g % 16 ∷ h / 16 ∷ h % 16 ∷ []

  day_is : (c % 128 / 16 * 10 + c % 128 % 16) * 10 + d / 16 ≡ c % 128 / 16 * 100 + c % 16 * 10 + d / 16
  day_is = tens_first (c % 128 / 16) (c % 128 % 16) (d / 16) ∙ ap (λ (n : ℕ). c % 128 / 16 * 100 + n * 10 + d / 16) low_digit

  said : ((i : ℕ) → i < 16 → get_or (tag_digits bytes) i 0 ≤ 9) → Says bytes (tag_of bytes)
  said k =
      subst (Says bytes) (says a b c d e f g h refl refl refl refl refl refl refl)
      (record {
        eight = refl;
        decimal = λ i p. subst (λ (l : List ℕ). get_or l i 0 ≤ 9) same_digits (k i p);
        year = thousands (a / 16) (a % 16) (b / 16) (b % 16);
        day = day_is;
        hour = refl;
        minute = refl;
        second = refl;
        ms = tens_last (g % 16) (h / 16) (h % 16);
        flywheel = (leb-true 128 c, le-leb 128 c);
      })

  said_only : (t : Tag) → Says bytes t → t ≡ tag_of bytes
  said_only t y =
      ap (λ (m : Bool). tag t.year t.day t.hour t.minute t.second t.ms m)
      (same_test t.flywheel (leb 128 c) (λ m. le-leb 128 c (y.flywheel.0 m)) (λ m. y.flywheel.1 (leb-true 128 c m)))
      ∙ says a b c d e f g h (y.year ∙ sym (thousands (a / 16) (a % 16) (b / 16) (b % 16))) refl (y.day ∙ sym day_is) y.hour y.minute y.second
      (y.ms ∙ sym (tens_last (g % 16) (h / 16) (h % 16)))

  said_digits : ((i : ℕ) → i < 16 → digit i bytes ≤ 9) → (i : ℕ) → i < 16 → get_or (tag_digits bytes) i 0 ≤ 9
  said_digits k i p = subst (λ (l : List ℕ). get_or l i 0 ≤ 9) (sym same_digits) (k i p)

says_it : (leaps s : List ℕ) → IsTag leaps s → Says s (tag_of s)
says_it leaps s i = all_rows 8 (λ l. ((i : ℕ) → i < 16 → get_or (tag_digits l) i 0 ≤ 9) → Says l (tag_of l)) said s i.eight i.digits

pub says_only : (s : List ℕ) (t : Tag) → Says s t → t ≡ tag_of s
says_only s t y = all_rows 8 (λ l. Says l t → t ≡ tag_of l) (λ a b c d e f g h. said_only a b c d e f g h t) s y.eight y

-- ---- the bounds

leap_cases : (y : ℕ) → (y % 400 ≡ 0) ⊎ ((y % 100 ≡ 0 → ⊥) × (y % 4 ≡ 0)) → LeapYear y
leap_cases y (inl e) = record { fourth = omega arith; century = inr e }
leap_cases y (inr p) = record { fourth = p.1; century = inl p.0 }

pub tells_leap : (y : ℕ) → Tells (leap y) (LeapYear y)
tells_leap y =
    told_as (leap_cases y, λ l. ⊎_elim (λ n. inr (n, l.fourth)) (λ e. inl e) l.century)
    (tells_either (tells_eq (y % 400) 0) (tells_both (tells_not (tells_eq (y % 100) 0)) (tells_eq (y % 4) 0)))

up_to_366 : {L : Type 0} (d : ℕ) → L → d ≤ 366 → (d ≤ 365) ⊎ ((d ≡ 366) × L)
up_to_366 {L} d l h = by (leb d 365) refl
  where
    by : (t : Bool) → leb d 365 ≡ t → (d ≤ 365) ⊎ ((d ≡ 366) × L)
    by true e = inl (leb-true d 365 e)
    by false e = inr (omega (arith, leb-false d 365 e), l)

pub last_day : (y d : ℕ) → (d ≤ days_in y) ↔ ((d ≤ 365) ⊎ ((d ≡ 366) × LeapYear y))
last_day y d = by (leap y) (tells_leap y)
  where
    by : (t : Bool) → Tells t (LeapYear y) → (d ≤ pick t 366 365) ↔ ((d ≤ 365) ⊎ ((d ≡ 366) × LeapYear y))
    by true l = (up_to_366 d (l.yes refl), ⊎_elim (λ h. omega arith) (λ p. omega (arith, p.0)))
    by false l = (λ h. inl h, ⊎_elim (λ h. h) (λ p. absurd (l.no refl p.1)))

-- ---- bytes that are written

mark_at_most : (f : Bool) → pick f 128 0 ≤ 128
mark_at_most true = omega arith
mark_at_most false = omega arith

bytes_below : (t : Tag) → t.day < 800 → Below 256 (bytes_of t)
bytes_below t h =
    subst (Below 256) (spells_out t)
    (omega arith, (omega arith, (omega (arith, mark_at_most t.flywheel), (omega arith, (omega arith, (omega arith, (omega arith, (omega arith, tt))))))))

-- a difference of sums is a sum of differences
apart : (x y u v : ℤ) → (x +ℤ y) -ℤ (u +ℤ v) ≡ (x -ℤ u) +ℤ (y -ℤ v)
apart x y u v =
    ap (λ (z : ℤ). (x +ℤ y) +ℤ z) (neg_ℤ-+ℤ u v)
    ∙ +ℤ_assoc x y (neg_ℤ u +ℤ neg_ℤ v)
    ∙ ap (λ (z : ℤ). x +ℤ z) (sym (+ℤ_assoc y (neg_ℤ u) (neg_ℤ v)) ∙ ap (λ (z : ℤ). z +ℤ neg_ℤ v) (+ℤ_comm y (neg_ℤ u)) ∙ +ℤ_assoc (neg_ℤ u) y (neg_ℤ v))
    ∙ sym (+ℤ_assoc x (neg_ℤ u) (y -ℤ v))

not_both : (x y : Bool) → not x || not y ≡ not (x && y)
not_both true y = refl
not_both false y = refl

-- ---- the list

module _ (n : ℕ) where
  to_day : IsDay n → LeapDay n
  to_day d = record {
    year = d.year;
    day = d.day;
    number = d.number;
    to_9999 = d.to_9999;
    from_day = d.from_1;
    to_day = (last_day d.year d.day).0 d.to_last;
  }

  of_day : LeapDay n → IsDay n
  of_day d = record {
    year = d.year;
    day = d.day;
    number = d.number;
    to_9999 = d.to_9999;
    from_1 = d.from_day;
    to_last = (last_day d.year d.day).1 d.to_day;
  }

module _ (leaps : List ℕ) where
  pub to_days : IsList leaps → LeapDays leaps
  to_days l = record { most = l.most; days = λ i h. to_day (get_or leaps i 0) (l.days i h); rising = l.rising }

  of_days : LeapDays leaps → IsList leaps
  of_days l = record { most = l.most; days = λ i h. of_day (get_or leaps i 0) (l.days i h); rising = l.rising }

  pub tells_list : Tells (not (good_list leaps)) (LeapDays leaps → ⊥)
  tells_list = tells_not (told_as (λ e. to_days (is_list leaps e), λ l. list_is leaps (of_days l)) (tells_true (good_list leaps)))

  -- ---- the second

  leap_second : (t : Tag) → LeapSecond leaps t → (t.second ≡ 60) × (t.minute ≡ 59) × (t.hour ≡ 23) × Listed leaps t
  leap_second t l = (l.second, l.minute, l.hour, (l.listed.place, (l.listed.within, l.listed.is)))

  second_leap : (t : Tag) → (t.second ≡ 60) × (t.minute ≡ 59) × (t.hour ≡ 23) × Listed leaps t → LeapSecond leaps t
  second_leap t p = record { hour = p.2; minute = p.1; second = p.0; listed = record { place = p.3.0; within = p.3.1.0; is = p.3.1.1 } }

  -- ---- the bounds of a tag

  pub bounds : (t : Tag) → (in_bounds leaps t ≡ true) ↔ Bounds leaps t
  bounds t = (
    λ e.
        let b = facts leaps t e in
        record {
          year = b.year;
          from_day = b.day;
          to_day = (last_day t.year t.day).0 b.to_last;
          hour = b.hour;
          minute = b.minute;
          second = ⊎_elim (λ h. inl h) (λ l. inr (leap_second t l)) b.second;
          ms = b.ms;
        },
    λ b.
        tests leaps t
        (record {
          year = b.year;
          day = b.from_day;
          to_last = (last_day t.year t.day).1 b.to_day;
          hour = b.hour;
          minute = b.minute;
          second = ⊎_elim (λ h. inl h) (λ p. inr (second_leap t p)) b.second;
          ms = b.ms;
        }),
  )

  pub tells_bounds : (t : Tag) → Tells (in_bounds leaps t) (Bounds leaps t)
  tells_bounds t = told_as (bounds t) (tells_true (in_bounds leaps t))

  -- ---- reading

  pub is_tag : (s : List ℕ) (t : Tag) → Says s t → Bounds leaps t → IsTag leaps s
  is_tag s t y b =
      let f : Bounded leaps (tag_of s) = subst (Bounded leaps) (says_only s t y) (facts leaps t ((bounds t).1 b)) in
      record {
        eight = y.eight;
        digits = all_rows 8 (λ l. ((i : ℕ) → i < 16 → digit i l ≤ 9) → (i : ℕ) → i < 16 → get_or (tag_digits l) i 0 ≤ 9) said_digits s y.eight y.decimal;
        day = f.day;
        to_last = f.to_last;
        hour = f.hour;
        minute = f.minute;
        second = f.second;
      }

  pub tells_bad : (s : List ℕ) → Tells (not (good_tag leaps s)) (Bad leaps s)
  tells_bad s = record {
    yes = λ e t y b. never (sym (not-true (good_tag leaps s) e) ∙ Kept.good leaps s (is_tag s t y b));
    no = λ e bad.
        let g : good_tag leaps s ≡ true = not-false (good_tag leaps s) e in
        bad (tag_of s) (says_it leaps s (Kept.is_tag leaps s g)) ((bounds (tag_of s)).0 (good_bounds leaps s g));
  }

  taken : (s : List ℕ) → (read_tag leaps s).number ≡ 0 → Says s (read_tag leaps s).tag
  taken s h =
      let k = (Kept.reading leaps).only s h in
      subst (λ (r : TagRead). Says s r.tag) (sym ((Kept.reading leaps).taken s k.0 k.1)) (says_it leaps s k.1)

  abbrev number_read : TagRead → ℕ
  number_read r = r.number

  read_refused : (s : List ℕ) → ((read_tag leaps s).number ≡ 0 → ⊥) → (read_tag leaps s).tag ≡ no_tag
  read_refused s n = by (good_list leaps) (good_tag leaps s) refl refl
    where
      by : (l g : Bool) → good_list leaps ≡ l → good_tag leaps s ≡ g → (read_tag leaps s).tag ≡ no_tag
      by true true e f = absurd (n (ap number_read (by_list leaps s e ∙ reads leaps s f)))
      by true false e f = λ i. ((by_list leaps s e ∙ refuses leaps s f) i).tag
      by false g e f = λ i. (no_list leaps s e i).tag

  pub reading : Reading leaps
  reading = record {
    number = λ s.
        decided tells_list (λ e _. ap number_read (no_list leaps s (not-true (good_list leaps) e))) (λ l _.
        let list : good_list leaps ≡ true = not-false (good_list leaps) l in
        decided (tells_bad s) (λ e _. ap number_read (by_list leaps s list ∙ refuses leaps s (not-true (good_tag leaps s) e)))
        (λ e _. ap number_read (by_list leaps s list ∙ reads leaps s (not-false (good_tag leaps s) e))));
    taken = taken;
    refused = read_refused;
  }

  -- ---- writing

  abbrev number_written : TagBytes → ℕ
  number_written r = r.number

  written : (t : Tag) → (write_tag leaps t).number ≡ 0 → Says (write_tag leaps t).bytes t × Below 256 (write_tag leaps t).bytes
  written t h =
      let r = (Kept.there_and_back leaps).read_written t h in
      let k = (Kept.writing leaps).only t h in (
        subst (λ (q : TagRead). Says (write_tag leaps t).bytes q.tag) r (taken (write_tag leaps t).bytes (ap number_read r)),
        subst (λ (w : TagBytes). Below 256 w.bytes) (sym ((Kept.writing leaps).taken t k.0 k.1)) (bytes_below t (day_below leaps t (tests leaps t k.1))),
      )

  write_refused : (t : Tag) → ((write_tag leaps t).number ≡ 0 → ⊥) → (write_tag leaps t).bytes ≡ replicate 8 0
  write_refused t n = by (good_list leaps) (in_bounds leaps t) refl refl
    where
      by : (l g : Bool) → good_list leaps ≡ l → in_bounds leaps t ≡ g → (write_tag leaps t).bytes ≡ replicate 8 0
      by true true e f = absurd (n (ap number_written ((Kept.writing leaps).taken t (is_list leaps e) (facts leaps t f))))
      by true false e f = λ i. ((Kept.writing leaps).refused t (is_list leaps e) (λ b. never (sym f ∙ tests leaps t b)) i).bytes
      by false g e f = λ i. ((Kept.writing leaps).no_list t (λ l. never (sym e ∙ list_is leaps l)) i).bytes

  pub writing : Writing leaps
  writing = record {
    number = λ t.
        decided tells_list (λ e _. ap number_written ((Kept.writing leaps).no_list t (λ l. never (sym (not-true (good_list leaps) e) ∙ list_is leaps l)))) (λ l _.
        let list : IsList leaps = is_list leaps (not-false (good_list leaps) l) in
        decided (tells_not (tells_bounds t)) (λ e _. ap number_written ((Kept.writing leaps).refused t list (λ b. never (sym (not-true (in_bounds leaps t) e) ∙ tests leaps t b))))
        (λ e _. ap number_written ((Kept.writing leaps).taken t list (facts leaps t (not-false (in_bounds leaps t) e)))));
    taken = written;
    refused = write_refused;
    bounds = bounds;
    read_written = (Kept.there_and_back leaps).read_written;
    write_read = λ s b h. (Kept.there_and_back leaps).write_read s (below_at 256 s (omega arith) b) h;
  }

  -- ---- elapsed time

  module _ (a b : List ℕ) where
    tells_either_bad : Tells (not (good_tag leaps a && good_tag leaps b)) (Bad leaps a ⊎ Bad leaps b)
    tells_either_bad = subst (λ (t : Bool). Tells t (Bad leaps a ⊎ Bad leaps b)) (not_both (good_tag leaps a) (good_tag leaps b)) (tells_either (tells_bad a) (tells_bad b))

    both_good : good_list leaps ≡ true → good_tag leaps a && good_tag leaps b ≡ true → elapsed_of leaps a b ≡ answer 0 (between leaps (tag_of a) (tag_of b))
    both_good l e = let s = split (good_tag leaps a) (good_tag leaps b) e in counted leaps a b l s.0 s.1

    abbrev number_of : Elapsed → ℕ
    number_of r = r.number

    elapsed_number : FirstOf (19 if (LeapDays leaps → ⊥) ∷ 12 if (Bad leaps a ⊎ Bad leaps b) ∷ []) (elapsed_of leaps a b).number
    elapsed_number =
        decided tells_list (λ e _. ap number_of (not_listed leaps a b (not-true (good_list leaps) e))) (λ l _.
        let list : good_list leaps ≡ true = not-false (good_list leaps) l in
        decided tells_either_bad (λ e _. ap number_of (not_counted leaps a b list (not-true (good_tag leaps a && good_tag leaps b) e)))
        (λ e _. ap number_of (both_good list (not-false (good_tag leaps a && good_tag leaps b) e))))

    elapsed_refused : ((elapsed_of leaps a b).number ≡ 0 → ⊥) → (elapsed_of leaps a b).ms ≡ pos 0
    elapsed_refused n = by (good_list leaps) (good_tag leaps a && good_tag leaps b) refl refl
      where
        by : (l t : Bool) → good_list leaps ≡ l → good_tag leaps a && good_tag leaps b ≡ t → (elapsed_of leaps a b).ms ≡ pos 0
        by true true e f = absurd (n (ap number_of (both_good e f)))
        by true false e f = λ i. (not_counted leaps a b e f i).ms
        by false t e f = λ i. (not_listed leaps a b e i).ms

    elapsed_taken : (from to : Tag) → LeapDays leaps → Says a from → Bounds leaps from → Says b to → Bounds leaps to → elapsed_of leaps a b ≡ answer 0 (between leaps from to)
    elapsed_taken from to l y p z q =
        let u = sym (says_only a from y) in
        let v = sym (says_only b to z) in
        (Times.elapsing leaps).taken a b (of_days l) (is_tag a from y p) (is_tag b to z q) ∙ (λ i. answer 0 (between leaps (u i) (v i)))

  -- a count is the plain one, and so many seconds more
  more : (t : Tag) (k : ℕ) → LeapDays leaps → Passed leaps t k → time_of leaps t ≡ time_of [] t + 1000 * k
  unfolding time_of
  more t k l p =
      let passed : Days.Passed leaps (day_of t) k = record { most = p.most; before = p.before } in
      omega (arith, lists.once leaps (day_of t) k (of_days l) passed, none_before (day_of t))

  counted_so : (a b : Tag) (m n : ℕ) → LeapDays leaps → Passed leaps a m → Passed leaps b n → between leaps a b ≡ between [] a b +ℤ (pos (1000 * n) -ℤ pos (1000 * m))
  counted_so a b m n l p q =
      (λ i. pos (more b n l q i) -ℤ pos (more a m l p i))
      ∙ (λ i. sym (pos-+ℤ-pos (time_of [] b) (1000 * n)) i -ℤ sym (pos-+ℤ-pos (time_of [] a) (1000 * m)) i)
      ∙ apart (pos (time_of [] b)) (pos (1000 * n)) (pos (time_of [] a)) (pos (1000 * m))

  pub elapsing : Elapsing leaps
  elapsing = record {
    number = elapsed_number;
    refused = elapsed_refused;
    taken = elapsed_taken;
    counted = counted_so;
    ordered = Times.elapsing leaps;
  }
