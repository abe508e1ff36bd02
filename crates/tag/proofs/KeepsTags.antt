-- The promises on reading and writing tags are kept: tests and plain facts agree, and each way undoes the other because bytes
-- and digits, digits and numbers, and the mark do.
-- Assumes nothing.
use mathlib.Core.Path.{◌≡◌, refl, sym, ap, ◌∙◌, subst}
use Prim.Native.Nat.{ℕ, ◌+◌, ◌*◌, ◌%◌, ◌^◌, ◌≤◌, ◌<◌}
use native.Mathlib.Omega.{arith}
use mathlib.Core.Bool.{Bool, true, false, not, ◌&&◌}
use mathlib.Core.List.{List, [], ◌∷◌, ◌++◌}
use lib.Dec.{eqb, leb}
use lib.ListN.{length, get_or, set, take, drop, length-set, length-drop, take-append-drop}
use lib.Seq.{set-set, set-get_or, get_or-set_same, length-take-le, take_all, drop-drop}
use borrow.Author.Tests.{le-leb, lt-leb, leb-true, leb-false, eq-eqb, eqb-true}
use Rattle.ground.specs.Choice.{pick}
use Rattle.calendar.specs.Leaps.{good_list}
use Rattle.calendar.specs.Promises.{IsList}
use Rattle.calendar.proofs.KeepsLists.{is_list, list_is}
use Rattle.tag.specs.Digits.{digits_of, paired, decimal, spelt}
use Rattle.tag.specs.Tags.{marked, unmarked, with_mark, tag_digits, part, tag_of, digits_of_tag, bytes_of, in_bounds, good_tag, read_by, read_tag, write_tag}
use Rattle.tag.specs.Promises.{IsTag, Bounded, Reading, Writing, ThereAndBack}
use Rattle.tag.specs.declared.Tag.{Tag}
use Rattle.ground.proofs.LawsTests.{both, first, second}
use Rattle.tag.proofs.LawsDigits.{decimal_drop, decimal_take, decimal_append, decimal_at, at_decimal, length_digits, paired_digits, digits_paired, decimal_spelt, spells, value_below, spelt_value}
use Rattle.tag.proofs.LawsTags.{tag, read, written, good_bounds, reads, refuses, accepted_by, by_list, no_list}
use Rattle.tag.proofs.LawsBounds.{facts, tests, day_below, second_below}

-- ---- the digits of a part

module _ (i k : ℕ) (ds : List ℕ) (fits : i + k ≤ length ds) where
  part_length : length (take k (drop i ds)) ≡ k
  part_length = length-take-le k (drop i ds) (omega (arith, length-drop i ds))

  part_decimal : decimal ds ≡ true → decimal (take k (drop i ds)) ≡ true
  part_decimal h = decimal_take k (drop i ds) (decimal_drop i ds h)

  part_below : decimal ds ≡ true → part i k ds < 10 ^ k
  part_below h = subst (λ (n : ℕ). part i k ds < 10 ^ n) part_length (value_below (take k (drop i ds)) (part_decimal h))

  spelt_part : decimal ds ≡ true → spelt k (part i k ds) ≡ take k (drop i ds)
  spelt_part h = ap (λ (n : ℕ). spelt n (part i k ds)) (sym part_length) ∙ spelt_value (take k (drop i ds)) (part_decimal h)

sixteen : (s : List ℕ) → length s ≡ 8 → length (tag_digits s) ≡ 16
sixteen s e = omega (arith, length_digits (unmarked s), length-set s 2 (get_or s 2 0 % 128))

-- ---- reading: the tests are the facts

module _ (leaps : List ℕ) where
  bounded : (s : List ℕ) → IsTag leaps s → decimal (tag_digits s) ≡ true → Bounded leaps (tag_of s)
  unfolding tag_of
  bounded s t d =
      let l : length (tag_digits s) ≡ 16 = sixteen s t.eight in
      let y : part 0 4 (tag_digits s) < 10 ^ 4 = part_below 0 4 (tag_digits s) (omega arith) d in
      let k : part 13 3 (tag_digits s) < 10 ^ 3 = part_below 13 3 (tag_digits s) (omega arith) d in
      record {
        year = omega arith;
        day = t.day;
        to_last = t.to_last;
        hour = t.hour;
        minute = t.minute;
        second = t.second;
        ms = omega arith;
      }

  pub good : (s : List ℕ) → IsTag leaps s → good_tag leaps s ≡ true
  unfolding good_tag
  good s t =
      let d : decimal (tag_digits s) ≡ true = at_decimal (tag_digits s) (λ i p. t.digits i (omega (arith, sixteen s t.eight))) in
      both (eq-eqb (length s) 8 t.eight) (both d (tests leaps (tag_of s) (bounded s t d)))

  pub is_tag : (s : List ℕ) → good_tag leaps s ≡ true → IsTag leaps s
  unfolding good_tag
  is_tag s h =
      let r : decimal (tag_digits s) && in_bounds leaps (tag_of s) ≡ true = second (eqb (length s) 8) _ h in
      let b : Bounded leaps (tag_of s) = facts leaps (tag_of s) (second (decimal (tag_digits s)) _ r) in
      record {
        eight = eqb-true (length s) 8 (first (eqb (length s) 8) _ h);
        digits = λ i p. decimal_at (tag_digits s) (first (decimal (tag_digits s)) _ r) i;
        day = b.day;
        to_last = b.to_last;
        hour = b.hour;
        minute = b.minute;
        second = b.second;
      }

-- What makes a test true is false where the test is.
pub fails : {X : Type 0} (b : Bool) → (b ≡ true → X) → (X → ⊥) → b ≡ false
fails true f h = absurd (h (f refl))
fails false f h = refl

module _ (leaps : List ℕ) where
  pub bad : (s : List ℕ) → (IsTag leaps s → ⊥) → good_tag leaps s ≡ false
  bad s h = fails (good_tag leaps s) (is_tag leaps s) h

  pub not_list : (IsList leaps → ⊥) → good_list leaps ≡ false
  not_list h = fails (good_list leaps) (is_list leaps) h

  -- an answer of 0 says that the list is one and the tag good
  pub taken : (s : List ℕ) → (read_tag leaps s).number ≡ 0 → (good_list leaps ≡ true) × (good_tag leaps s ≡ true)
  taken s h = by (good_list leaps) refl
    where
      by : (b : Bool) → good_list leaps ≡ b → (b ≡ true) × (good_tag leaps s ≡ true)
      by true e = (refl, sym (accepted_by leaps s) ∙ eq-eqb (read_by leaps s).number 0 (sym (λ i. (by_list leaps s e i).number) ∙ h))
      by false e = absurd (let z : ◌≡◌ {A = ℕ} 19 0 = sym (λ i. (no_list leaps s e i).number) ∙ h in omega arith)

  pub reading : Reading leaps
  reading = record {
    no_list = λ s h. no_list leaps s (not_list h);
    taken = λ s l t. by_list leaps s (list_is leaps l) ∙ reads leaps s (good leaps s t);
    refused = λ s l h. by_list leaps s (list_is leaps l) ∙ refuses leaps s (bad s h);
    only = λ s h. let k = taken s h in (is_list leaps k.0, is_tag leaps s k.1);
  }

-- ---- writing

abbrev zeros : List ℕ
zeros = 0 ∷ 0 ∷ 0 ∷ 0 ∷ 0 ∷ 0 ∷ 0 ∷ 0 ∷ []

module _ (leaps : List ℕ) (t : Tag) where
  writes : (l b : Bool) → good_list leaps ≡ l → in_bounds leaps t ≡ b → write_tag leaps t ≡ pick (not l) (written 19 zeros) (pick (not b) (written 12 zeros) (written 0 (bytes_of t)))
  unfolding write_tag
  writes l b g h = λ i. pick (not (g i)) (written 19 zeros) (pick (not (h i)) (written 12 zeros) (written 0 (bytes_of t)))

  within : (write_tag leaps t).number ≡ 0 → (good_list leaps ≡ true) × (in_bounds leaps t ≡ true)
  within h = by (good_list leaps) (in_bounds leaps t) refl refl
    where
      by : (l b : Bool) → good_list leaps ≡ l → in_bounds leaps t ≡ b → (l ≡ true) × (b ≡ true)
      by true true g e = (refl, refl)
      by true false g e = absurd (let z : ◌≡◌ {A = ℕ} 12 0 = sym (λ i. (writes true false g e i).number) ∙ h in omega arith)
      by false b g e = absurd (let z : ◌≡◌ {A = ℕ} 19 0 = sym (λ i. (writes false b g e i).number) ∙ h in omega arith)

pub writing : (leaps : List ℕ) → Writing leaps
writing leaps = record {
  no_list = λ t h. writes leaps t false (in_bounds leaps t) (not_list leaps h) refl;
  taken = λ t l b. writes leaps t true true (list_is leaps l) (tests leaps t b);
  refused = λ t l h. writes leaps t true false (list_is leaps l) (fails (in_bounds leaps t) (facts leaps t) h);
  only = λ t h. let k = within leaps t h in (is_list leaps k.0, facts leaps t k.1);
}

-- ---- the mark, put on and taken off

masked : (f : Bool) (n : ℕ) → n < 128 → (pick f 128 0 + n) % 128 ≡ n
masked true n h = omega arith
masked false n h = omega arith

mark_is : (f : Bool) (n : ℕ) → n < 128 → leb 128 (pick f 128 0 + n) ≡ f
mark_is true n h = le-leb 128 (128 + n) (omega arith)
mark_is false n h = lt-leb 128 (0 + n) (omega arith)

both_bits : (n : ℕ) (f : Bool) → leb 128 n ≡ f → n < 256 → pick f 128 0 + n % 128 ≡ n
both_bits n true e h = omega (arith, leb-true 128 n e)
both_bits n false e h = omega (arith, leb-false 128 n e)

module _ (f : Bool) (s : List ℕ) (long : 2 < length s) (low : get_or s 2 0 < 128) where
  third : get_or (with_mark f s) 2 0 ≡ pick f 128 0 + get_or s 2 0
  third = get_or-set_same s 2 (pick f 128 0 + get_or s 2 0) 0 long

  off : unmarked (with_mark f s) ≡ s
  off =
      ap (λ (n : ℕ). set (with_mark f s) 2 (n % 128)) third
      ∙ set-set s 2 _ _
      ∙ ap (λ (n : ℕ). set s 2 n) (masked f (get_or s 2 0) low)
      ∙ set-get_or s 2 0

  is_on : marked (with_mark f s) ≡ f
  is_on = ap (λ (n : ℕ). leb 128 n) third ∙ mark_is f (get_or s 2 0) low

on_again : (s : List ℕ) → 2 < length s → get_or s 2 0 < 256 → with_mark (marked s) (unmarked s) ≡ s
on_again s long byte =
    ap (λ (n : ℕ). set (unmarked s) 2 (pick (marked s) 128 0 + n)) (get_or-set_same s 2 (get_or s 2 0 % 128) 0 long)
    ∙ set-set s 2 _ _
    ∙ ap (λ (n : ℕ). set s 2 n) (both_bits (get_or s 2 0) (marked s) refl byte)
    ∙ set-get_or s 2 0

-- ---- reading what was written

module _ (t : Tag) where
  spelt_decimal : decimal (digits_of_tag t) ≡ true
  spelt_decimal =
      decimal_append (spelt 4 t.year) _ (decimal_spelt 4 t.year) (decimal_append (spelt 3 t.day) _ (decimal_spelt 3 t.day)
      (decimal_append (spelt 2 t.hour) _ (decimal_spelt 2 t.hour) (decimal_append (spelt 2 t.minute) _ (decimal_spelt 2 t.minute)
      (decimal_append (spelt 2 t.second) _ (decimal_spelt 2 t.second) (decimal_spelt 3 t.ms)))))

  spelt_length : length (digits_of_tag t) ≡ 8 * 2
  unfolding spelt
  spelt_length = refl

  byte_three : t.day < 800 → get_or (paired (digits_of_tag t)) 2 0 < 128
  unfolding paired spelt
  byte_three h = omega arith

  eight_long : length (paired (digits_of_tag t)) ≡ 8
  unfolding paired spelt
  eight_long = refl

module _ (leaps : List ℕ) (t : Tag) (list : good_list leaps ≡ true) (bounds : in_bounds leaps t ≡ true) where
  abbrev plain : List ℕ
  plain = paired (digits_of_tag t)

  long : 2 < length plain
  long = omega (arith, eight_long t)

  low : get_or plain 2 0 < 128
  low = byte_three t (day_below leaps t bounds)

  digits_again : tag_digits (bytes_of t) ≡ digits_of_tag t
  unfolding bytes_of
  digits_again = ap digits_of (off t.flywheel plain long low) ∙ digits_paired 8 (digits_of_tag t) (spelt_length t) (spelt_decimal t)

  mark_again : marked (bytes_of t) ≡ t.flywheel
  unfolding bytes_of
  mark_again = is_on t.flywheel plain long low

  eight_again : length (bytes_of t) ≡ 8
  unfolding bytes_of
  eight_again = length-set plain 2 _ ∙ eight_long t

  abbrev at : ℕ → ℕ → ℕ
  at i k = part i k (digits_of_tag t)

  parts : tag (at 0 4) (at 4 3) (at 7 2) (at 9 2) (at 11 2) (at 13 3) t.flywheel ≡ t
  unfolding spelt
  parts =
      let b : Bounded leaps t = facts leaps t bounds in
      let s : t.second < 100 = second_below b.second in
      let d : t.day < 800 = day_below leaps t bounds in
      λ i.
      tag (spells 4 t.year (omega arith) i) (spells 3 t.day (omega arith) i) (spells 2 t.hour (omega arith) i) (spells 2 t.minute (omega arith) i)
      (spells 2 t.second (omega arith) i) (spells 3 t.ms (omega arith) i) t.flywheel

  tag_again : tag_of (bytes_of t) ≡ t
  unfolding tag_of
  tag_again =
      (λ i. tag (part 0 4 (digits_again i)) (part 4 3 (digits_again i)) (part 7 2 (digits_again i)) (part 9 2 (digits_again i)) (part 11 2 (digits_again i)) (part 13 3 (digits_again i)) (mark_again i))
      ∙ parts

  good_again : good_tag leaps (bytes_of t) ≡ true
  unfolding good_tag
  good_again =
      both (eq-eqb (length (bytes_of t)) 8 eight_again)
      (both (ap decimal digits_again ∙ spelt_decimal t) (ap (in_bounds leaps) tag_again ∙ bounds))

  read_written : read_tag leaps (write_tag leaps t).bytes ≡ read 0 t
  read_written =
      (λ i. read_tag leaps (writes leaps t true true list bounds i).bytes)
      ∙ by_list leaps (bytes_of t) list
      ∙ reads leaps (bytes_of t) good_again
      ∙ ap (λ (u : Tag). read 0 u) tag_again

-- ---- writing what was read

rest : (i k : ℕ) (ds : List ℕ) → take k (drop i ds) ++ drop (i + k) ds ≡ drop i ds
rest i k ds = ap (λ (l : List ℕ). take k (drop i ds) ++ l) (sym (drop-drop k i ds)) ∙ take-append-drop k (drop i ds)

module _ (leaps s : List ℕ) (bytes : (i : ℕ) → get_or s i 0 < 256) (list : good_list leaps ≡ true) (is-good : good_tag leaps s ≡ true) where
  abbrev ds : List ℕ
  ds = tag_digits s

  abbrev tag_is : IsTag leaps s
  tag_is = is_tag leaps s is-good

  are_decimal : decimal ds ≡ true
  unfolding good_tag
  are_decimal = first (decimal ds) _ (second (eqb (length s) 8) _ is-good)

  number : (i k : ℕ) → i + k ≤ 16 → spelt k (part i k ds) ≡ take k (drop i ds)
  number i k h = spelt_part i k ds (omega (arith, sixteen s tag_is.eight)) are_decimal

  tail : take 3 (drop 13 ds) ≡ drop 13 ds
  tail = take_all 3 (drop 13 ds) (omega (arith, length-drop 13 ds, sixteen s tag_is.eight))

  digits_back : digits_of_tag (tag_of s) ≡ ds
  unfolding tag_of
  digits_back =
      (λ i. number 0 4 (omega arith) i ++ (number 4 3 (omega arith) i ++ (number 7 2 (omega arith) i ++ (number 9 2 (omega arith) i ++ (number 11 2 (omega arith) i ++ (number 13 3 (omega arith) ∙ tail) i)))))
      ∙ ap (λ (l : List ℕ). take 4 (drop 0 ds) ++ (take 3 (drop 4 ds) ++ (take 2 (drop 7 ds) ++ (take 2 (drop 9 ds) ++ l)))) (rest 11 2 ds)
      ∙ ap (λ (l : List ℕ). take 4 (drop 0 ds) ++ (take 3 (drop 4 ds) ++ (take 2 (drop 7 ds) ++ l))) (rest 9 2 ds)
      ∙ ap (λ (l : List ℕ). take 4 (drop 0 ds) ++ (take 3 (drop 4 ds) ++ l)) (rest 7 2 ds)
      ∙ ap (λ (l : List ℕ). take 4 (drop 0 ds) ++ l) (rest 4 3 ds)
      ∙ rest 0 4 ds

  bytes_back : bytes_of (tag_of s) ≡ s
  unfolding bytes_of tag_of
  bytes_back =
      ap (λ (l : List ℕ). with_mark (marked s) (paired l)) digits_back
      ∙ ap (λ (l : List ℕ). with_mark (marked s) l) (paired_digits (unmarked s))
      ∙ on_again s (omega (arith, tag_is.eight)) (bytes 2)

  write_read : write_tag leaps (read_tag leaps s).tag ≡ written 0 s
  write_read =
      (λ i. write_tag leaps ((by_list leaps s list ∙ reads leaps s is-good) i).tag)
      ∙ writes leaps (tag_of s) true true list (good_bounds leaps s is-good)
      ∙ ap (λ (l : List ℕ). written 0 l) bytes_back

pub there_and_back : (leaps : List ℕ) → ThereAndBack leaps
there_and_back leaps = record {
  read_written = λ t h. let k = within leaps t h in read_written leaps t k.0 k.1;
  write_read = λ s b h. let k = taken leaps s h in write_read leaps s b k.0 k.1;
}
