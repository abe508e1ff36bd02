-- The block that a copy makes has that copy three times, and is read by its header as the bytes behind the copies lie there; so the tests
-- of the code come to the same as the reader's.
-- Assumes nothing.
use Prim.Native.Nat.{ℕ, ◌+◌, ◌-◌, ◌*◌, ◌≤◌, ◌<◌}
use mathlib.Core.Path.{◌≡◌, refl, sym, ap, ap₂, ◌∙◌}
use mathlib.Core.Bool.{Bool, true, false, not, ◌&&◌, ◌||◌}
use mathlib.Core.List.{List, [], ◌∷◌, ◌++◌, append_assoc}
use native.Mathlib.Omega.{arith}
use Rattle.std.specs.Prelude.{Option, Some, None}
use Rattle.std.proofs.lemmas.Option.{none-some, same_Some}
use lib.Dec.{lit<, eqb, leb, ltb}
use lib.ListN.{length, take, drop, length-append, length-drop}
use lib.Seq.{take-take, take_at, drop_at, drop-drop, length-take-le}
use borrow.Author.Tests.{ltb-true, leb-true, eqb-true, eq-eqb, ne_eqb, le-ltb, lt-leb, le-leb, lt-ltb}
use Rattle.ground.specs.Choice.{pick}
use Rattle.ground.specs.Grounds.{◌when◌, first_of}
use Rattle.ground.proofs.LawsChoice.{yes, no}
use Rattle.ground.proofs.LawsTests.{both, split, not_second}
use Rattle.bits.specs.Fields.{words_of}
use Rattle.ground.proofs.LawsGrounds.{none_first, first_none, none_split, accepts}
use Rattle.check_rule.specs.Check.{passes}
use Rattle.row.specs.Promises.{most_words, longest_field}
use Rattle.row.proofs.LawsField.{field_least, words_at_most}
use Rattle.copies.specs.Copies.{header_length, copy_length, copies_length, copy_at, differ, two_differ, common, header_in, copies_grounds}
use Rattle.copies.specs.Agreed.{ThreeEqual}
use Rattle.copies.proofs.LawsSame.{same_refl}
use Rattle.copies.proofs.LawsAgreed.{each, copy_long}
use Rattle.header.specs.Says.{block_in, size_in, words_in, bytes_in}
use Rattle.header.specs.Plans.{PlanAnswer, plan_grounds, plan_of}
use Rattle.header.proofs.KeepsHeader.{plan_number, granted_held, grants_asked}
use Rattle.header.proofs.LawsThen.{plan_is}
use Rattle.block.specs.Layout.{block_length, information_field}
use Rattle.block.specs.Grounds.{off_boundary, small_room, fill_not_zero, field_by, refusal_by, refusal_of}
use Rattle.block.specs.Answers.{Judged, judged_by, words_laid, room_by, room_after}
use Rattle.block.proofs.LawsReader.{judged_number, accepted_by, refused_alike}
use Rattle.block.proofs.KeepsJudged.{judges_in_order}
use Rattle.made.specs.Made.{header_by, length_by, thrice, made, makes, begins, begun_by, bytes_by, scratch_by}

-- ---- reading by a header looks at the block's length and at what lies behind the copies

refusal_rest : (h a b : List ℕ) (lent : ℕ) → length a ≡ length b → drop copies_length a ≡ drop copies_length b → refusal_by h a lent ≡ refusal_by h b lent
unfolding refusal_by
refusal_rest h a b lent l d =
    λ i.
    first_of
    (plan_grounds h
    ++ ((8 when not (eqb (l i) (block_length (bytes_in h))))
    ∷ (17 when off_boundary (bytes_in h))
    ∷ (9 when small_room (words_in h) lent)
    ∷ (10 when not (passes (d i)))
    ∷ (11 when fill_not_zero (size_in h) (words_in h) (take (bytes_in h) (d i)))
    ∷ []))

-- and at its room, where that is less than the largest block needs
refusal_room : (h b : List ℕ) (lent : ℕ) → (plan_of h).number ≡ 0 → most_words ≤ lent → refusal_by h b lent ≡ refusal_by h b most_words
unfolding refusal_by
refusal_room h b lent z l =
    let most : words_in h ≤ most_words = words_at_most _ _ _ _ (grants_asked.only h z).1.suits in
    let same : small_room (words_in h) lent ≡ small_room (words_in h) most_words =
    le-ltb lent (words_in h) (omega arith) ∙ sym (le-ltb most_words (words_in h) most) in
    λ i.
    first_of
    (plan_grounds h
    ++ ((8 when not (eqb (length b) (block_length (bytes_in h))))
    ∷ (17 when off_boundary (bytes_in h))
    ∷ (9 when same i)
    ∷ (10 when not (passes (drop copies_length b)))
    ∷ (11 when fill_not_zero (size_in h) (words_in h) (information_field (bytes_in h) b))
    ∷ []))

-- a block that is not refused has a plan
refusal_plan : (h b : List ℕ) (lent : ℕ) → refusal_by h b lent ≡ 0 → (plan_of h).number ≡ 0
unfolding refusal_by
refusal_plan h b lent e =
    plan_number h ∙ none_first (plan_grounds h) (none_split (plan_grounds h) (field_by h b lent) (first_none (plan_grounds h ++ field_by h b lent) refl e)).0

-- ---- the parts of the rest that are lent

pub part_is : (a n : ℕ) (xs : List ℕ) → take (a + n - a) (drop a xs) ≡ take n (drop a xs)
part_is a n xs = let e : a + n - a ≡ n = omega arith in ap (λ (m : ℕ). take m (drop a xs)) e

pub header_part : (k : ℕ) (rest : List ℕ) → take (k * copy_length + header_length - k * copy_length) (drop (k * copy_length) rest) ≡ header_by k rest
header_part k rest =
    let few : header_length ≤ copy_length = omega arith in
    part_is (k * copy_length) header_length rest ∙ sym (take-take header_length copy_length (drop (k * copy_length) rest) few)

-- ---- the block that is made

-- a copy three times in front of anything is its three copies
pub thrice_equal : (c t : List ℕ) → length c ≡ copy_length → ThreeEqual (thrice c ++ t) c
thrice_equal c t l =
    let flat : thrice c ++ t ≡ c ++ (c ++ (c ++ t)) = append_assoc c (c ++ c) t ∙ ap (λ (r : List ℕ). c ++ r) (append_assoc c c t) in
    let second : drop copy_length (thrice c ++ t) ≡ c ++ (c ++ t) = ap (drop copy_length) flat ∙ drop_at c (c ++ (c ++ t)) copy_length l in
    let third : drop (2 * copy_length) (thrice c ++ t) ≡ c ++ t =
    sym (drop-drop copy_length copy_length (thrice c ++ t)) ∙ ap (drop copy_length) second ∙ drop_at c (c ++ t) copy_length l in
    each (λ (j : ℕ). copy_at j (thrice c ++ t) ≡ c)
    (ap (take copy_length) flat ∙ take_at c (c ++ (c ++ t)) copy_length l)
    (ap (take copy_length) second ∙ take_at c (c ++ t) copy_length l)
    (ap (take copy_length) third ∙ take_at c t copy_length l)

module _ (k : ℕ) (rest : List ℕ) where
  abbrev c : List ℕ
  c = copy_at k rest

  abbrev h : List ℕ
  h = header_by k rest

  abbrev n : ℕ
  n = length_by k rest

  pub length_least : 2772 ≤ length_by k rest
  length_least = omega (arith, field_least (block_in h) (words_in h))

  module _ (one : k < 3) (inside : n ≤ length rest) where
    pub copy_whole : length (copy_at k rest) ≡ copy_length
    copy_whole = copy_long rest (omega (arith, length_least)) k one

    front_long : length (thrice c) ≡ copies_length
    front_long = omega (arith, length-append c (c ++ c), length-append c c, copy_whole)

    pub made_front : take copies_length (made k rest) ≡ thrice (copy_at k rest)
    unfolding made
    made_front = take_at (thrice c) _ copies_length front_long

    pub made_behind : drop copies_length (made k rest) ≡ drop copies_length (take (length_by k rest) rest)
    unfolding made
    made_behind = drop_at (thrice c) _ copies_length front_long

    pub made_long : length (made k rest) ≡ length_by k rest
    unfolding made
    made_long =
        omega
        (arith, length-append (thrice c) (drop copies_length (take n rest)), length-drop copies_length (take n rest), length-take-le n rest inside, front_long, length_least)

    pub made_equal : ThreeEqual (made k rest) (copy_at k rest)
    unfolding made
    made_equal = thrice_equal c (drop copies_length (take n rest)) copy_whole

    module _ (p : passes c ≡ true) where
      abbrev m : List ℕ
      m = made k rest

      copy_is : (j : ℕ) → j < 3 → copy_at j m ≡ c
      copy_is = made_equal

      no_differ : differ c c ≡ false
      no_differ = ap₂ (λ (t s : Bool). t && (t && not s)) p (same_refl c)

      none_differ : two_differ (copy_at 0 m) (copy_at 1 m) (copy_at 2 m) ≡ false
      none_differ =
          (λ i. two_differ (copy_is 0 (lit< tt) i) (copy_is 1 (lit< tt) i) (copy_is 2 (lit< tt) i))
          ∙ (λ i. no_differ i || (no_differ i || no_differ i))

      copies_pass : first_of (copies_grounds m) ≡ 0
      copies_pass =
          none_first (copies_grounds m) (
            le-ltb (length m) copies_length (omega (arith, made_long, length_least)),
            (ap (λ (t : Bool). not (t || (passes (copy_at 1 m) || passes (copy_at 2 m)))) (ap passes (copy_is 0 (lit< tt)) ∙ p), (none_differ, tt)),
          )

      header_is : header_in m ≡ h
      unfolding common
      header_is =
          ap (take header_length)
          ((λ i. pick (passes (copy_is 0 (lit< tt) i)) (copy_is 0 (lit< tt) i) (pick (passes (copy_at 1 m)) (copy_at 1 m) (copy_at 2 m)))
          ∙ ap (λ (t : Bool). pick t c (pick (passes (copy_at 1 m)) (copy_at 1 m) (copy_at 2 m))) p)

      -- the reader refuses it as it refuses the bytes, read by that copy's header
      pub made_refusal : (lent : ℕ) → refusal_of (made k rest) lent ≡ refusal_by (header_by k rest) (take (length_by k rest) rest) lent
      made_refusal lent =
          refused_alike m lent copies_pass
          ∙ ap (λ (x : List ℕ). refusal_by x m lent) header_is
          ∙ refusal_rest h m (take n rest) lent (made_long ∙ sym (length-take-le n rest inside)) made_behind

      -- and reads its words as theirs
      made_room : (scratch : List ℕ) → refusal_of (made k rest) (length scratch) ≡ 0 → words_laid h (take n rest) scratch ≡ room_after (made k rest) scratch
      unfolding room_after
      made_room scratch e =
          ap (λ (l : List ℕ). words_of (size_in h) (words_in h) (take (bytes_in h) l) ++ drop (words_in h) scratch) (sym made_behind)
          ∙ ap (λ (x : List ℕ). words_laid x m scratch) (sym header_is)
          ∙ accepts (words_laid (header_in m) m scratch) (λ (_ : ℕ). scratch) e

  -- ---- from the tests to the facts, and back

  pub record Makes : Type 0 where
    pub one : k < 3
    pub passing : passes (copy_at k rest) ≡ true
    pub inside : length_by k rest ≤ length rest
    pub accepted : refusal_of (made k rest) most_words ≡ 0

  pub made_so : makes k rest ≡ true → Makes
  unfolding makes
  made_so e =
      let a = split (ltb k 3) (passes c && (leb n (length rest) && eqb (refusal_of (made k rest) most_words) 0)) e in
      let b = split (passes c) (leb n (length rest) && eqb (refusal_of (made k rest) most_words) 0) a.1 in
      let d = split (leb n (length rest)) (eqb (refusal_of (made k rest) most_words) 0) b.1 in
      record { one = ltb-true k 3 a.0; passing = b.0; inside = leb-true n (length rest) d.0; accepted = eqb-true (refusal_of (made k rest) most_words) 0 d.1 }

  pub so_made : Makes → makes k rest ≡ true
  unfolding makes
  so_made m =
      both (lt-ltb k 3 m.one) (both m.passing (both (le-leb n (length rest) m.inside) (eq-eqb (refusal_of (made k rest) most_words) 0 m.accepted)))

  pub not_made : (Makes → ⊥) → makes k rest ≡ false
  not_made f = go (makes k rest) refl
    where
      go : (t : Bool) → makes k rest ≡ t → t ≡ false
      go true e = absurd (f (made_so e))
      go false e = refl

  pub makes_begins : Makes → begins k rest ≡ true
  makes_begins m =
      both (eq-eqb (plan_of h).number 0 (refusal_plan h (take n rest) most_words (sym (made_refusal m.one m.inside m.passing most_words) ∙ m.accepted)))
      (both (le-leb n (length rest) m.inside) m.passing)

  -- no block is longer than that of a scan of 23 degrees
  pub length_most : Makes → length_by k rest ≤ block_length longest_field
  length_most m =
      let z = eqb-true (plan_of h).number 0 (split (eqb (plan_of h).number 0) (leb n (length rest) && passes c) (makes_begins m)).0 in
      omega (arith, (granted_held h z).short)

  -- ---- one law for each return of `begun_by`

  not_begun : begins k rest ≡ false → None ≡ begun_by k rest
  unfolding begun_by
  not_begun e = no _ refl e refl

  pub short_none : length rest < copies_length → None ≡ begun_by k rest
  short_none s =
      not_begun (not_second (eqb (plan_of h).number 0) (ap (λ (t : Bool). t && passes c) (lt-leb n (length rest) (omega (arith, length_least)))))

  module _ {p : PlanAnswer} (e : p ≡ plan_of h) where
    number_is : p.number ≡ (plan_of h).number
    number_is = ap (λ (q : PlanAnswer). q.number) e

    pub no_plan : (p.number ≡ 0 → ⊥) → None ≡ begun_by k rest
    no_plan f = not_begun (ap (λ (t : Bool). t && (leb n (length rest) && passes c)) (ne_eqb (plan_of h).number 0 (λ z. f (number_is ∙ z))))

    module _ (z : p.number ≡ 0) where
      length_is : block_length p.bytes ≡ n
      length_is = ap (λ (q : PlanAnswer). block_length q.bytes) (plan_is h e z)

      pub cut_none : length rest < block_length p.bytes → None ≡ begun_by k rest
      cut_none s = not_begun (not_second (eqb (plan_of h).number 0) (ap (λ (t : Bool). t && passes c) (lt-leb n (length rest) (omega (arith, length_is)))))

      module _ {t : Bool} (q : t ≡ passes (copy_at k rest)) where
        pub unpassed : t ≡ false → None ≡ begun_by k rest
        unpassed f = not_begun (not_second (eqb (plan_of h).number 0) (not_second (leb n (length rest)) (sym q ∙ f)))

        pub begun : block_length p.bytes ≤ length rest → t ≡ true → Some (block_length p.bytes) ≡ begun_by k rest
        unfolding begun_by
        begun l f =
            yes _ refl (both (eq-eqb (plan_of h).number 0 (sym number_is ∙ z)) (both (le-leb n (length rest) (omega (arith, length_is))) (sym q ∙ f))) (ap Some length_is)

  -- ---- one law for each return of `bytes_by`

  module _ (scratch : List ℕ) where
    abbrev Ends : Option ℕ → List ℕ → Type 0
    Ends r after = (r ≡ bytes_by k rest (length scratch)) × (after ≡ scratch_by k rest scratch)

    none_by : (leb most_words (length scratch) && makes k rest) ≡ false → Ends None scratch
    unfolding bytes_by scratch_by
    none_by e = (no _ refl e refl, no _ refl e refl)

    pub few_words : length scratch < most_words → Ends None scratch
    few_words s = none_by (ap (λ (t : Bool). t && makes k rest) (lt-leb most_words (length scratch) s))

    pub makes_none : (Makes → ⊥) → Ends None scratch
    makes_none f = none_by (not_second (leb most_words (length scratch)) (not_made f))

    module _ (lent : most_words ≤ length scratch) where
      pub none_begun : None ≡ begun_by k rest → Ends None scratch
      unfolding begun_by
      none_begun e = makes_none (λ m. none-some n (e ∙ sym (yes {x = Some n} None refl (makes_begins m) refl)))

      module _ {b : ℕ} (e : Some b ≡ begun_by k rest) where
        begins_so : begins k rest ≡ true
        unfolding begun_by
        begins_so = go (begins k rest) refl
          where
            go : (t : Bool) → begins k rest ≡ t → t ≡ true
            go true t = refl
            go false t = absurd (none-some b (no {x = None} (Some n) refl t refl ∙ sym e))

        pub begun_is : b ≡ length_by k rest
        unfolding begun_by
        begun_is = same_Some b n (e ∙ sym (yes {x = Some n} None refl begins_so refl))

        plan_0 : (plan_of h).number ≡ 0
        plan_0 = eqb-true (plan_of h).number 0 (split (eqb (plan_of h).number 0) (leb n (length rest) && passes c) begins_so).0

        rest_so : (leb n (length rest) ≡ true) × (passes c ≡ true)
        rest_so = split (leb n (length rest)) (passes c) (split (eqb (plan_of h).number 0) (leb n (length rest) && passes c) begins_so).1

        pub begun_inside : length_by k rest ≤ length rest
        begun_inside = leb-true n (length rest) rest_so.0

        module _ (one : k < 3) {judged : Judged} {h' after : List ℕ} (g : h' ≡ h)
            (j : judged ≡ judged_by h' (take b rest) (length scratch)) (a : after ≡ room_by h' (take b rest) scratch) where
          judged_is : judged ≡ judged_by h (take n rest) (length scratch)
          judged_is = j ∙ (λ i. judged_by (g i) (take (begun_is i) rest) (length scratch))

          left_is : after ≡ room_by h (take n rest) scratch
          left_is = a ∙ (λ i. room_by (g i) (take (begun_is i) rest) scratch)

          number_by : judged.number ≡ refusal_by h (take n rest) (length scratch)
          number_by = ap (λ (r : Judged). r.number) judged_is ∙ judged_number h (take n rest) (length scratch)

          made_number : refusal_of (made k rest) most_words ≡ judged.number
          made_number =
              made_refusal one begun_inside rest_so.1 most_words ∙ sym (number_by ∙ refusal_room h (take n rest) (length scratch) plan_0 lent)

          pub block_refused : (judged.number ≡ 0 → ⊥) → Ends None after
          block_refused f =
              let x = makes_none (λ m. f (sym made_number ∙ m.accepted)) in
              (x.0, left_is ∙ judges_in_order.unchanged h (take n rest) scratch (λ z. f (ap (λ (r : Judged). r.number) judged_is ∙ z)) ∙ x.1)

          pub block_made : judged.number ≡ 0 → Ends (Some b) after
          unfolding bytes_by scratch_by
          block_made z =
              let m : makes k rest ≡ true = so_made (record { one = one; passing = rest_so.1; inside = begun_inside; accepted = made_number ∙ z }) in
              let t : (leb most_words (length scratch) && makes k rest) ≡ true = both (le-leb most_words (length scratch) lent) m in
              let none : refusal_by h (take n rest) (length scratch) ≡ 0 = sym number_by ∙ z in
              let read : refusal_of (made k rest) (length scratch) ≡ 0 = made_refusal one begun_inside rest_so.1 (length scratch) ∙ none in
              (yes _ refl t (ap Some begun_is), yes _ refl t (left_is ∙ sym (accepted_by h (take n rest) scratch none).1 ∙ made_room one begun_inside rest_so.1 scratch read))

-- ---- what `bytes_by` answered says what the copy makes

module _ (k : ℕ) (rest scratch : List ℕ) (lent : most_words ≤ length scratch) {after : List ℕ} (a : after ≡ scratch_by k rest scratch) where
  test_is : (leb most_words (length scratch) && makes k rest) ≡ makes k rest
  test_is = ap (λ (t : Bool). t && makes k rest) (le-leb most_words (length scratch) lent)

  module _ (e : None ≡ bytes_by k rest (length scratch)) where
    pub none_makes : makes k rest ≡ false
    unfolding bytes_by
    none_makes = go (makes k rest) refl
      where
        go : (t : Bool) → makes k rest ≡ t → t ≡ false
        go true t = absurd (none-some (length_by k rest) (e ∙ sym (yes {x = Some (length_by k rest)} None refl (test_is ∙ t) refl)))
        go false t = refl

    pub none_left : after ≡ scratch
    unfolding scratch_by
    none_left = a ∙ sym (no {x = scratch} _ refl (test_is ∙ none_makes) refl)

  module _ {b : ℕ} (e : Some b ≡ bytes_by k rest (length scratch)) where
    pub some_makes : makes k rest ≡ true
    unfolding bytes_by
    some_makes = go (makes k rest) refl
      where
        go : (t : Bool) → makes k rest ≡ t → t ≡ true
        go true t = refl
        go false t = absurd (none-some b (no {x = None} (Some (length_by k rest)) refl (test_is ∙ t) refl ∙ sym e))

    pub some_long : b ≡ length_by k rest
    unfolding bytes_by
    some_long = same_Some b (length_by k rest) (e ∙ sym (yes {x = Some (length_by k rest)} None refl (test_is ∙ some_makes) refl))

    pub some_left : after ≡ room_after (made k rest) scratch
    unfolding scratch_by
    some_left = a ∙ sym (yes {x = room_after (made k rest) scratch} scratch refl (test_is ∙ some_makes) refl)
