-- Numbers that C gives are cut to the largest that a smaller type holds, which is out of every bound: so the answer is that of the number
-- itself, in each place where one is cut.
-- Assumes nothing.
use Prim.Native.Nat.{ℕ, zero, suc, ◌+◌, ◌^◌, ◌≤◌, ◌<◌}
use native.Mathlib.Omega.{arith}
use mathlib.Core.Path.{◌≡◌, refl, sym, ap, ap₂, ◌∙◌, subst}
use mathlib.Core.Logic.{◌⊎◌, inl, inr, ⊎_elim}
use mathlib.Core.Bool.{Bool, true, false, not, ◌&&◌, ◌||◌, or-true}
use mathlib.Core.List.{List}
use lib.Dec.{eqb, ltb, eqb-suc-zero}
use lib.ListN.{length, get_or, replicate}
use borrow.Author.Tests.{eq-eqb, ltb-true, ltb-false, lt-ltb, eqb-true, eqb-false, ne_eqb, not-false}
use Rattle.ground.specs.Choice.{pick}
use Rattle.ground.proofs.LawsChoice.{yes, no}
use Rattle.ground.proofs.LawsTests.{never}
use Rattle.row.specs.Rows.{last_block}
use Rattle.row.proofs.LawsRow.{row_records, records_few}
use Rattle.header.specs.Says.{block_in, version_in, size_in}
use Rattle.bits.specs.Fields.{bad_size, take_answer, room_taken, put_answer, field_put}
use Rattle.records.specs.Records.{records_of, no_record, refused_part, part_of}
use Rattle.records.proofs.KeepsRecords.{refuses_in_order, finds}
use Rattle.placement.specs.Placement.{place_of}
use Rattle.placement.proofs.LawsPlacement.{unknown_block, unknown_version, absent}
use Rattle.placement.proofs.LawsRecords.{at_most_four}
use Rattle.calendar.specs.Leaps.{good_list}
use Rattle.tag.specs.Tags.{bytes_of, in_bounds, tag_of, good_tag, write_tag}
use Rattle.tag.specs.Promises.{Bounded}
use Rattle.tag.specs.declared.Tag.{Tag}
use Rattle.tag.proofs.LawsBounds.{facts, day_below, second_below}
use Rattle.tag.proofs.LawsTags.{written}
use Rattle.watch_rule.specs.Rules.{last_of_scan}
use Rattle.watch_bounds.specs.Bounds.{longest_wait, bounding, bad_expected, refusal_of}
use Rattle.watch_bounds.specs.declared.Watch.{Watch}
use Rattle.watch_bounds.proofs.LawsBounds.{accepted_for, to_ten}
use Rattle.watch.specs.Fills.{is_fill}
use Rattle.watch.specs.Rules.{opening, on_idle, on_good, step_of}
use Rattle.watch.specs.Rules.{Stepped}
use Rattle.watch.specs.Verdicts.{Verdict}
use Rattle.watch.specs.Verdicts.{Refused, Stray, Opened}
use Rattle.watch.proofs.LawsSteps.{stepped}
use Rattle.watch.proofs.LawsWords.{same_step}
use Rattle.recording.specs.Lines.{line_of, room_listed}
use Rattle.recording.proofs.KeepsLines.{other_line}
use Rattle.c_numbers.specs.Numbers.{up_to}
use Rattle.c_tags.specs.Times.{tag_from}
use Rattle.c_watch.specs.Watches.{watch_in, leaves}
use Rattle.c_numbers.proofs.LawsNumbers.{over, within}
use Rattle.from_c.specs.FromC.{is_on, time_at, watch_at}

-- ---- a number that is cut

lt_or_le : (a b : ℕ) → (a < b) ⊎ (b ≤ a)
lt_or_le a b = go (ltb a b) refl
  where
    go : (t : Bool) → ltb a b ≡ t → (a < b) ⊎ (b ≤ a)
    go true e = inl (ltb-true a b e)
    go false e = inr (ltb-false a b e)

-- what is answered alike of all that is cut, and of what that is cut to, is answered of the number itself
pub cut : {X : Type 0} (most : ℕ) (f : ℕ → X) → ((n : ℕ) → most < n → f most ≡ f n) → (n : ℕ) → f (up_to most n) ≡ f n
cut most f h n = ⊎_elim (λ l. sym (ap f (over most n l)) ∙ h n l) (λ l. sym (ap f (within most n l))) (lt_or_le most n)

-- a test that holds of all that is cut
pub cut_test : (p : ℕ → Bool) → p 255 ≡ true → ((n : ℕ) → 255 < n → p n ≡ true) → (n : ℕ) → p (up_to 255 n) ≡ p n
cut_test p e h = cut 255 p (λ n l. e ∙ sym (h n l))

kept : (most n : ℕ) → n ≤ most → up_to most n ≡ n
kept most n h = sym (within most n h)

below : (most n : ℕ) → up_to most n < most → up_to most n ≡ n
below most n h = ⊎_elim (λ l. absurd (omega (arith, over most n l))) (kept most n) (lt_or_le most n)

-- ---- words of a size

large : (n : ℕ) → 255 < n → bad_size n ≡ true
large n l = ap (λ (t : Bool). eqb n 0 || t) (lt-ltb 16 n (omega arith)) ∙ or-true (eqb n 0)

module _ (count : ℕ) (field room : List ℕ) where
  pub take_cut : (size : ℕ) → take_answer (up_to 255 size) count field (length room) ≡ take_answer size count field (length room)
  take_cut = cut 255 (λ n. take_answer n count field (length room)) (λ n l. sym (simp (large n l)))

  pub room_cut : (size : ℕ) → room_taken (up_to 255 size) count field room ≡ room_taken size count field room
  room_cut = cut 255 (λ n. room_taken n count field room) (λ n l. sym (simp (large n l)))

module _ (words field : List ℕ) where
  pub put_cut : (size : ℕ) → put_answer (up_to 255 size) words (length field) ≡ put_answer size words (length field)
  put_cut = cut 255 (λ n. put_answer n words (length field)) (λ n l. sym (simp (large n l)))

  pub field_cut : (size : ℕ) → field_put (up_to 255 size) words field ≡ field_put size words field
  field_cut = cut 255 (λ n. field_put n words field) (λ n l. sym (simp (large n l)))

-- ---- records

module _ (block version k : ℕ) where
  block_cut : place_of (up_to 255 block) version k ≡ place_of block version k
  block_cut = cut 255 (λ b. place_of b version k) (λ b l. unknown_block 255 version k (omega arith) ∙ sym (unknown_block b version k (omega arith))) block

  version_cut : place_of block (up_to 255 version) k ≡ place_of block version k
  version_cut =
      cut 255 (λ v. place_of block v k) (λ v l. ⊎_elim
      (λ u. unknown_block block 255 k u ∙ sym (unknown_block block v k u))
      (λ u. unknown_version block 255 k u (omega arith) ∙ sym (unknown_version block v k u (omega arith)))
      (lt_or_le 11 block)) version

  record_cut : place_of block version (up_to 255 k) ≡ place_of block version k
  record_cut =
      cut 255 (place_of block version) (λ n l. ⊎_elim
      (λ u. unknown_block block version 255 u ∙ sym (unknown_block block version n u))
      (λ u. ⊎_elim
      (λ o. unknown_version block version 255 u o ∙ sym (unknown_version block version n u o))
      (λ o. absent block version 255 u o (λ _ m. omega (arith, at_most_four block version u o)) ∙ sym (absent block version n u o (λ _ m. omega (arith, at_most_four block version u o))))
      (lt_or_le 3 version)) (lt_or_le 11 block)) k

pub place_cut : (block version k : ℕ) → place_of (up_to 255 block) (up_to 255 version) (up_to 255 k) ≡ place_of block version k
place_cut block version k = block_cut block (up_to 255 version) (up_to 255 k) ∙ version_cut block version (up_to 255 k) ∙ record_cut block version k

few_records : (h : List ℕ) → records_of h ≤ 4
few_records h = subst (λ (n : ℕ). n ≤ 4) (sym (row_records (block_in h) (version_in h) (size_in h))) (records_few (block_in h) (version_in h))

module _ (h : List ℕ) (lent : ℕ) where
  no_such : (n : ℕ) → 4 < n → no_record h n ≡ true
  no_such n l = ap (λ (t : Bool). eqb n 0 || t) (lt-ltb (records_of h) n (omega (arith, few_records h))) ∙ or-true (eqb n 0)

  refused : (n : ℕ) → 4 < n → part_of h n lent ≡ refused_part (part_of h n lent).number
  refused n l = finds.empty h n lent (λ e. omega (arith, (finds.only h n lent e).2, few_records h))

  same_number : (m n : ℕ) → 4 < m → 4 < n → (part_of h m lent).number ≡ (part_of h n lent).number
  same_number m n k l = refuses_in_order h m lent ∙ (simp (no_such m k, no_such n l)) ∙ sym (refuses_in_order h n lent)

  pub part_cut : (k : ℕ) → part_of h (up_to 255 k) lent ≡ part_of h k lent
  part_cut = cut 255 (λ n. part_of h n lent) (λ n l. refused 255 (omega arith) ∙ ap refused_part (same_number 255 n (omega arith) (omega arith)) ∙ sym (refused n (omega arith)))

-- ---- times

pub on_same : (n : ℕ) → not (eqb n 0) ≡ is_on n
on_same zero = refl
on_same (suc n) = ap not (eqb-suc-zero n)

module _ (leaps : List ℕ) (n : ℕ) (row : List ℕ) where
  -- cut, and as it is
  abbrev t' : Tag
  t' = tag_from n row

  abbrev t : Tag
  t = time_at n row

  alike : t'.year ≡ t.year → t'.day ≡ t.day → t'.hour ≡ t.hour → t'.minute ≡ t.minute → t'.second ≡ t.second → t'.ms ≡ t.ms → t' ≡ t
  alike y d h m s k = λ i. record { year = y i; day = d i; hour = h i; minute = m i; second = s i; ms = k i; flywheel = on_same (get_or row (n + 6) 0) i }

  cut_in : in_bounds leaps t' ≡ true → t' ≡ t
  cut_in e =
      let b : Bounded leaps t' = facts leaps t' e in
      let s : t'.second < 100 = second_below b.second in
      let d : t'.day < 800 = day_below leaps t' e in
      alike (below 65535 t.year (omega arith)) (below 65535 t.day (omega arith)) (below 255 t.hour (omega arith)) (below 255 t.minute (omega arith))
      (below 255 t.second (omega arith)) (below 65535 t.ms (omega arith))

  whole_in : in_bounds leaps t ≡ true → t' ≡ t
  whole_in e =
      let b : Bounded leaps t = facts leaps t e in
      let s : t.second < 100 = second_below b.second in
      let d : t.day < 800 = day_below leaps t e in
      alike (kept 65535 t.year (omega arith)) (kept 65535 t.day (omega arith)) (kept 255 t.hour (omega arith)) (kept 255 t.minute (omega arith))
      (kept 255 t.second (omega arith)) (kept 65535 t.ms (omega arith))

  pub bounds_cut : in_bounds leaps t' ≡ in_bounds leaps t
  bounds_cut = go (in_bounds leaps t') (in_bounds leaps t) refl refl
    where
      go : (x y : Bool) → in_bounds leaps t' ≡ x → in_bounds leaps t ≡ y → x ≡ y
      go true y e f = sym e ∙ ap (in_bounds leaps) (cut_in e) ∙ f
      go false true e f = sym e ∙ ap (in_bounds leaps) (whole_in f) ∙ f
      go false false e f = refl

  -- a tag out of bounds is written by the list alone, whatever its numbers
  unwritten : (u : Tag) → in_bounds leaps u ≡ false → write_tag leaps u ≡ pick (not (good_list leaps)) (written 19 (replicate 8 0)) (written 12 (replicate 8 0))
  unfolding write_tag
  unwritten u e = λ i. pick (not (good_list leaps)) (written 19 (replicate 8 0)) (pick (not (e i)) (written 12 (replicate 8 0)) (written 0 (bytes_of u)))

  pub write_cut : write_tag leaps t' ≡ write_tag leaps t
  write_cut = go (in_bounds leaps t') refl
    where
      go : (x : Bool) → in_bounds leaps t' ≡ x → write_tag leaps t' ≡ write_tag leaps t
      go true e = ap (write_tag leaps) (cut_in e)
      go false e = unwritten t' e ∙ sym (unwritten t (sym bounds_cut ∙ e))

-- ---- recordings

module _ (before : ℕ) (body : List ℕ) where
  pub line_cut : (room tag : ℕ) → line_of before (up_to 255 tag) body room ≡ line_of before tag body room
  line_cut room =
      cut 255 (λ t. line_of before t body room)
      (λ t l. other_line before 255 body room (λ e. omega arith) ∙ sym (other_line before t body room (λ e. omega arith)))

  pub listed_cut : (room : List ℕ) (tag : ℕ) → room_listed (up_to 255 tag) body room ≡ room_listed tag body room
  unfolding room_listed
  listed_cut room = cut 255 (λ t. room_listed t body room) (λ t l. no _ refl (ne_eqb t 1 (λ e. omega arith)) refl)

-- ---- watches

far : (n : ℕ) → 255 < n → ltb n 1 || ltb 10 n ≡ true
far n l = ap (λ (x : Bool). ltb n 1 || x) (lt-ltb 10 n (omega arith)) ∙ or-true (ltb n 1)

refusing : (leaps : List ℕ) (w : Watch) (b v : ℕ) (s : List ℕ) → (refusal_of leaps w b s ≡ 0 → ⊥) → step_of leaps w b v s ≡ stepped w (Refused (refusal_of leaps w b s))
unfolding step_of
refusing leaps w b v s h = sym (no _ refl (ne_eqb (refusal_of leaps w b s) 0 h) refl)

-- an accepted offer to an idle watch
module _ (leaps : List ℕ) (w : Watch) (b v : ℕ) (s : List ℕ) (e : refusal_of leaps w b s ≡ 0) (o : w.opened ≡ false) where
  opened_at : b ≡ 0 → step_of leaps w b v s ≡ stepped (opening v (tag_of s) w.limit) Opened
  unfolding step_of on_good on_idle
  opened_at z = sym (yes _ refl (eq-eqb (refusal_of leaps w b s) 0 e) (no _ refl o (yes _ refl (eq-eqb b 0 z) refl)))

  strayed_at : (b ≡ 0 → ⊥) → step_of leaps w b v s ≡ stepped w Stray
  unfolding step_of on_good on_idle
  strayed_at n = sym (yes _ refl (eq-eqb (refusal_of leaps w b s) 0 e) (no _ refl o (no _ refl (ne_eqb b 0 n) refl)))

-- what an offer did, and the watch that it leaves
pub record Follows (r q : Stepped) : Type 0 where
  pub did : r.verdict ≡ q.verdict
  pub next : leaves q.verdict ≡ false → r.next ≡ q.next

equal : {r q : Stepped} → r ≡ q → Follows r q
equal p = record { did = λ i. (p i).verdict; next = λ _ i. (p i).next }

-- where the watch is left, only what was done counts
left : {r q : Stepped} {v w : Watch} {d : Verdict} → leaves d ≡ true → r ≡ stepped v d → q ≡ stepped w d → Follows r q
left h e f = record {
  did = ap (λ (x : Stepped). x.verdict) e ∙ sym (ap (λ (x : Stepped). x.verdict) f);
  next = λ n. never (sym n ∙ ap (λ (x : Stepped). leaves x.verdict) f ∙ h);
}

module _ (leaps row : List ℕ) (block v : ℕ) (s : List ℕ) where
  abbrev w' : Watch
  w' = watch_in row

  abbrev w : Watch
  w = watch_at row

  abbrev b' : ℕ
  b' = up_to 255 block

  expected_cut : bad_expected w' ≡ bad_expected w
  expected_cut = λ i. on_same (get_or row 0 0) i && cut_test (λ n. ltb n 1 || ltb last_of_scan n) refl far (get_or row 1 0) i

  -- what bounds the set of a watch whose expected block is in bounds
  bounding_cut : bad_expected w ≡ false → bounding w' ≡ bounding w
  bounding_cut e = ap (λ (x : Bool). pick x w'.expected 0) (on_same (get_or row 0 0)) ∙ go w.opened (to_ten w e)
    where
      go : (x : Bool) → (x ≡ true → w.expected ≤ 10) → pick x w'.expected 0 ≡ pick x w.expected 0
      go true h = let most : w.expected ≤ 10 = h refl in kept 255 w.expected (omega arith)
      go false h = refl

  -- what is behind 13 does not matter where that holds
  thirteen : {x y : Bool} (m n : ℕ) → x ≡ true → y ≡ true → pick x 13 m ≡ pick y 13 n
  thirteen m n p q = ap (λ (z : Bool). pick z 13 m) p ∙ sym (ap (λ (z : Bool). pick z 13 n) q)

  -- the numbers behind 13
  abbrev behind : Watch → ℕ → ℕ → ℕ
  behind x n b = pick (not (ltb x.fill (2 ^ n))) 20 (pick (not (good_list leaps)) 19 (pick (x.opened && not (in_bounds leaps x.last)) 12 (pick (ltb last_block b) 4 (pick (not (good_tag leaps s)) 12 0))))

  number_cut : refusal_of leaps w' b' s ≡ refusal_of leaps w block s
  unfolding refusal_of
  number_cut = go (bad_expected w) refl
    where
      go : (x : Bool) → bad_expected w ≡ x
          → pick (ltb longest_wait w.limit) 16 (pick (bad_expected w') 13 (behind w' (bounding w') b')) ≡ pick (ltb longest_wait w.limit) 16 (pick (bad_expected w) 13 (behind w (bounding w) block))
      go true e = λ i. pick (ltb longest_wait w.limit) 16 (thirteen (behind w' (bounding w') b') (behind w (bounding w) block) (expected_cut ∙ e) e i)
      go false e = λ i.
          pick (ltb longest_wait w.limit) 16
          (pick (expected_cut i) 13
          (pick (not (ltb w.fill (2 ^ bounding_cut e i))) 20
          (pick (not (good_list leaps)) 19
          (pick (on_same (get_or row 0 0) i && not (bounds_cut leaps 2 row i)) 12
          (pick (cut_test (λ n. ltb last_block n) refl (λ n l. lt-ltb 11 n (omega arith)) block i) 4 (pick (not (good_tag leaps s)) 12 0))))))

  module _ (e : refusal_of leaps w block s ≡ 0) where
    same_block : b' ≡ block
    same_block = kept 255 block (omega (arith, ltb-false last_block block (accepted_for leaps w block s e).block))

    same_watch : w.opened ≡ true → w' ≡ w
    same_watch o = λ i. record {
      opened = on_same (get_or row 0 0) i;
      expected = kept 255 (get_or row 1 0) (omega (arith, to_ten w (accepted_for leaps w block s e).expected o)) i;
      last = whole_in leaps 2 row (good w.opened (in_bounds leaps w.last) o (accepted_for leaps w block s e).last) i;
      limit = w.limit;
      fill = w.fill;
    }
      where
        good : (x y : Bool) → x ≡ true → x && not y ≡ false → y ≡ true
        good true y o h = not-false y h
        good false y o h = never o

    when_idle : w.opened ≡ false → Follows (step_of leaps w' b' v s) (step_of leaps w block v s)
    when_idle o = go (eqb block 0) refl
      where
        go : (x : Bool) → eqb block 0 ≡ x → Follows (step_of leaps w' b' v s) (step_of leaps w block v s)
        go true z = let b = eqb-true block 0 z in equal (opened_at leaps w' b' v s (number_cut ∙ e) (on_same (get_or row 0 0) ∙ o) (same_block ∙ b) ∙ sym (opened_at leaps w block v s e o b))
        go false z = let b = eqb-false block 0 z in left refl (strayed_at leaps w' b' v s (number_cut ∙ e) (on_same (get_or row 0 0) ∙ o) (λ n. b (sym same_block ∙ n))) (strayed_at leaps w block v s e o b)

    when_taken : (x : Bool) → w.opened ≡ x → Follows (step_of leaps w' b' v s) (step_of leaps w block v s)
    when_taken true o = equal (ap₂ (λ (x : Watch) (n : ℕ). step_of leaps x n v s) (same_watch o) same_block)
    when_taken false o = when_idle o

  follows_row : Follows (step_of leaps w' b' v s) (step_of leaps w block v s)
  follows_row = go (eqb (refusal_of leaps w block s) 0) refl
    where
      go : (x : Bool) → eqb (refusal_of leaps w block s) 0 ≡ x → Follows (step_of leaps w' b' v s) (step_of leaps w block v s)
      go true z = when_taken (eqb-true (refusal_of leaps w block s) 0 z) w.opened refl
      go false z =
          let h = eqb-false (refusal_of leaps w block s) 0 z in
          left refl (refusing leaps w' b' v s (λ e. h (sym number_cut ∙ e)) ∙ ap (λ (n : ℕ). stepped w' (Refused n)) number_cut) (refusing leaps w block v s h)

  -- and a data valid word that is cut still says fill
  pub follows : Follows (step_of leaps w' b' (up_to 255 v) s) (step_of leaps w block v s)
  follows = subst (λ (r : Stepped). Follows r (step_of leaps w block v s)) (sym (same_step (up_to 255 v) v (cut_test is_fill refl (λ n l. ap not (ne_eqb n 1 (λ e. omega arith))) v) leaps w' b' s)) follows_row
