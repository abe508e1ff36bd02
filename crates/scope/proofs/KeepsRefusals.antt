-- Each number is that of the first of its reasons, since each test of the code tells its reason; and a refusal's zeros are the crates' own.
-- Assumes nothing.
use Prim.Native.Nat.{ℕ, suc, ◌+◌, ◌^◌, ◌/◌, ◌<◌, ◌≤◌}
use mathlib.Core.Path.{◌≡◌, refl, sym, ap, ◌∙◌, subst}
use mathlib.Core.Logic.{◌⊎◌, ◌↔◌}
use mathlib.Core.Bool.{Bool, true, false, not, ◌&&◌, ◌||◌}
use mathlib.Core.List.{List, [], ◌∷◌, ◌++◌}
use native.Mathlib.Omega.{arith}
use lib.Dec.{eqb, ltb}
use lib.ListN.{length, get_or}
use lib.Pow.{pow_pos}
use borrow.Author.Tests.{eqb-true, eqb-false, ltb-false, not-true, not-false}
use Rattle.ground.specs.Grounds.{Ground, ◌when◌, first_of}
use Rattle.ground.proofs.LawsTests.{never}
use Rattle.ground.proofs.LawsGrounds.{refuses, reads_number}
use Rattle.bits.specs.Bits.{Below}
use Rattle.bits.specs.Fields.{all_fit}
use Rattle.bits.proofs.LawsBelow.{below_at}
use Rattle.bits.proofs.LawsFill.{fit_below}
use Rattle.row.specs.Rows.{records_in}
use Rattle.row.proofs.LawsRow.{row_records, before_3, second_cases}
use Rattle.header.specs.Says.{block_in, size_in, words_in, version_in, bytes_in}
use Rattle.copies.specs.Copies.{copies_grounds, header_in}
use Rattle.header.specs.Plans.{header_grounds, plan_grounds}
use Rattle.header.proofs.LawsAsks.{none_asks, is_known, asked_block, asked_words}
use Rattle.copies.proofs.KeepsCopies.{common_number, reads_common}
use Rattle.header.proofs.KeepsHeader.{plan_number, grants_asked}
use Rattle.block.specs.Grounds.{field_by, grounds_by, grounds_of}
use Rattle.block.proofs.KeepsReader.{refuses_in_order, refusal_leaves}
use Rattle.block.proofs.KeepsJudged.{judges_in_order}
use Rattle.writer.specs.Answers.{word_grounds, write_grounds, write_refusal, refused_written, written_of}
use Rattle.writer.proofs.KeepsWriter as writer
use Rattle.records.specs.Records.{PartAnswer}
use Rattle.records.specs.Records.{records_of, record_grounds, part_in}
use Rattle.records.specs.Records as records
use Rattle.records.proofs.LawsRecords.{one_record}
use Rattle.records.proofs.KeepsRecords as located
use Rattle.placement.specs.Placement.{PlacedAnswer}
use Rattle.placement.specs.Placement.{records_held, no_record, ground_of, refused_by, place_of}
use Rattle.placement.proofs.KeepsPlacement.{counts}
use Rattle.scope.specs.Notions.{Reason, FirstOf}
use Rattle.scope.specs.Blocks.{Asked}
use Rattle.scope.specs.Records.{RecordsIn, zeroth, first, second, second3, others, last}
use Rattle.scope.specs.Refusals.{header_reasons, plan_reasons, Said, copies_reasons, field_reasons, reader_reasons, word_reasons, record_reasons, place_reasons, Numbers, Refusals}
use Rattle.scope.proofs.LawsReasons.{Tells, told_as, tells_eq, tells_less, tells_not, tells_either, AllTell, first_reason, tell_joined}
use Rattle.scope.proofs.LawsFormat.{asked_asks, asked_field, asks_asked}
use Rattle.scope.proofs.LawsGrounds.{asked_tells, header_tells, copies_tell, said, field_tells}

-- a number that is the first of grounds is the first of the reasons that they tell
told : {n : ℕ} (gs : List Ground) (rs : List Reason) → n ≡ first_of gs → AllTell gs rs → FirstOf rs n
told gs rs e h = subst (FirstOf rs) (sym e) (first_reason gs rs h)

-- ---- the reader

reader_tells : (block : List ℕ) (lent : ℕ) → Below 256 block → AllTell (grounds_of block (header_in block) lent) (reader_reasons block lent)
reader_tells block lent bytes =
    let h = header_in block in
    tell_joined (copies_grounds block) (copies_reasons block) (header_grounds h ++ field_by h block lent) (header_reasons (Said block) ++ field_reasons (Said block) block lent) (copies_tell block bytes)
    (λ n _. tell_joined (header_grounds h) (header_reasons (Said block)) (field_by h block lent) (field_reasons (Said block) block lent) (header_tells h (Said block) (said block bytes n))
    (λ m _. field_tells h block bytes lent (asks_asked (none_asks h m)) (Said block) (said block bytes n)))

-- ---- a lent header

itself : (h : List ℕ) (P : List ℕ → Type 0) → P h ↔ P h
itself h P = (λ p. p, λ p. p)

plan_tells : (h : List ℕ) → AllTell (plan_grounds h) (plan_reasons h)
plan_tells h = (refl, tells_not (tells_eq (length h) 28), λ _ _. header_tells h (λ P. P h) (itself h))

-- what is tested behind it, where it asks for something
behind_plan : (h : List ℕ) (gs : List Ground) (rs : List Reason) → (Asked h → AllTell gs rs) → AllTell (plan_grounds h ++ gs) (plan_reasons h ++ rs)
behind_plan h gs rs f = tell_joined (plan_grounds h) (plan_reasons h) gs rs (plan_tells h) (λ n _. f (asks_asked (none_asks h n.1)))

-- ---- the writer's words

large_word : (size : ℕ) (ws : List ℕ) → all_fit size ws ≡ false → (i : ℕ) × (i < length ws) × (2 ^ size ≤ get_or ws i 0)
unfolding all_fit
large_word size [] e = never (sym e)
large_word size (w ∷ ws) e = go (ltb w (2 ^ size)) refl (large_word size ws)
  where
    go : (t : Bool) → ltb w (2 ^ size) ≡ t → (all_fit size ws ≡ false → (i : ℕ) × (i < length ws) × (2 ^ size ≤ get_or ws i 0))
        → (i : ℕ) × (i < length (w ∷ ws)) × (2 ^ size ≤ get_or (w ∷ ws) i 0)
    go true f k = let r = k (ap (λ (t : Bool). t && all_fit size ws) (sym f) ∙ e) in (suc r.0, omega (arith, r.1), r.2)
    go false f k = (0, omega arith, ltb-false w (2 ^ size) f)

module _ (h ws : List ℕ) (lent : ℕ) (ask : Asked h) where
  tells_words : Tells (not (eqb (length ws) (words_in h))) ((a : Asked h) × (length ws ≡ a.words → ⊥))
  tells_words =
      asked_tells h _ (λ a. length ws ≡ a.words → ⊥) ask
      (λ a. let e = asked_words (asked_asks a) in tells_not (told_as (λ f. f ∙ e, λ f. f ∙ sym e) (tells_eq (length ws) (words_in h))))

  tells_bytes : Tells (ltb lent (90 + bytes_in h + 2)) ((a : Asked h) × (lent < 90 + a.bits / 8 + 2))
  tells_bytes =
      asked_tells h _ (λ a. lent < 90 + a.bits / 8 + 2) ask
      (λ a. let e = asked_field a in told_as (λ l. omega arith, λ l. omega arith) (tells_less lent (90 + bytes_in h + 2)))

  tells_large : Tells (not (all_fit (size_in h) ws)) ((a : Asked h) × (i : ℕ) × (i < length ws) × (2 ^ a.size ≤ get_or ws i 0))
  tells_large =
      record {
        yes = λ y. let r = large_word (size_in h) ws (not-true _ y) in (ask, r.0, r.1, subst (λ (n : ℕ). 2 ^ n ≤ get_or ws r.0 0) ask.sized r.2);
        no =
            λ n p.
            let small = below_at (2 ^ size_in h) ws (pow_pos (size_in h)) (fit_below (size_in h) ws (not-false _ n)) p.1 in
            let large = subst (λ (k : ℕ). 2 ^ k ≤ get_or ws p.1 0) (sym p.0.sized) p.3 in
            omega (arith, small, large);
      }

  word_tells : AllTell (word_grounds h ws lent) (word_reasons h ws lent)
  word_tells = (refl, tells_words, λ _ _. (refl, tells_bytes, λ _ _. (refl, tells_large, λ _ _. tt)))

-- ---- records

pub records_are : {b v r : ℕ} → RecordsIn b v r → records_in b v ≡ r
unfolding records_in
records_are zeroth = refl
records_are first = refl
records_are (second {v} l) = sym (before_3 v l)
records_are second3 = refl
records_are (others {b} {v} l h) = one_record b v l h
records_are last = refl

records_in_is : (b v : ℕ) → b ≤ 11 → v ≤ 3 → RecordsIn b v (records_in b v)
unfolding records_in
records_in_is b v h known = go (eqb b 0) (eqb b 1) (eqb b 2) (eqb b 11) refl refl refl refl
  where
    at : {k : ℕ} → eqb b k ≡ true → RecordsIn k v (records_in k v) → RecordsIn b v (records_in b v)
    at {k} e x = subst (λ (c : ℕ). RecordsIn c v (records_in c v)) (sym (eqb-true b k e)) x

    go : (t u w x : Bool) → eqb b 0 ≡ t → eqb b 1 ≡ u → eqb b 2 ≡ w → eqb b 11 ≡ x → RecordsIn b v (records_in b v)
    go true u w x e f g k = at e zeroth
    go false true w x e f g k = at f first
    go false false true x e f g k = at g (second_cases (RecordsIn 2 v) v second (λ l. subst (λ (w : ℕ). RecordsIn 2 w 4) (omega arith) second3))
    go false false false true e f g k = at k last
    go false false false false e f g k =
        let n0 = eqb-false b 0 e in
        let n1 = eqb-false b 1 f in
        let n2 = eqb-false b 2 g in
        let n3 = eqb-false b 11 k in
        let l : 3 ≤ b = omega arith in
        let m : b ≤ 10 = omega arith in
        subst (RecordsIn b v) (sym (one_record b v l m)) (others l m)

-- none such: the record is 0 or above the number that the block has
tells_record : (k r b v : ℕ) → r ≡ records_in b v → b ≤ 11 → v ≤ 3 → Tells (eqb k 0 || ltb r k) ((n : ℕ) × RecordsIn b v n × ((k ≡ 0) ⊎ (n < k)))
tells_record k r b v e l known =
    let t = tells_either (tells_eq k 0) (tells_less r k) in
    record {
      yes = λ y. (r, subst (RecordsIn b v) (sym e) (records_in_is b v l known), t.yes y);
      no = λ n p. t.no n (subst (λ (m : ℕ). (k ≡ 0) ⊎ (m < k)) (sym (records_are p.1) ∙ sym e) p.2);
    }

module _ (h : List ℕ) (k lent : ℕ) (ask : Asked h) where
  record_missing : (a : Asked h) → Tells (eqb k 0 || ltb (records_of h) k) ((r : ℕ) × RecordsIn a.block a.version r × ((k ≡ 0) ⊎ (r < k)))
  record_missing a =
      tells_record k (records_of h) a.block a.version
      (row_records (block_in h) (version_in h) (size_in h) ∙ (λ i. records_in (asked_block (asked_asks a) i) (a.versioned i))) (is_known a.id) a.known

  record_tells : AllTell (record_grounds h k lent) (record_reasons h k lent)
  record_tells = (
    refl,
    record { yes = λ y. let r = (record_missing ask).yes y in (ask, r.0, r.1, r.2); no = λ n p. (record_missing p.0).no n (p.1, p.2, p.3) },
    λ _ _. (refl, asked_tells h _ (λ a. lent < a.words) ask (λ a. let e = asked_words (asked_asks a) in told_as (λ l. omega arith, λ l. omega arith) (tells_less lent (words_in h))), λ _ _. tt),
  )

-- ---- placement

place_number : (b v k : ℕ) → (place_of b v k).number ≡ ground_of b v k
unfolding place_of
place_number b v k = reads_number _ refused_by (λ (p : PlacedAnswer). p.number) refl (λ n. refl) (ground_of b v k)

place_tells : (b v k : ℕ) → AllTell ((4 when ltb 11 b) ∷ (5 when ltb 3 v) ∷ (13 when no_record b v k) ∷ []) (place_reasons b v k)
place_tells b v k = (
  refl,
  tells_less 11 b,
  λ eb _. (
    refl,
    tells_less 3 v,
    λ ev _.
        (refl, tells_record k (records_held b v) b v (counts b v (ltb-false 11 b eb) (ltb-false 3 v ev)) (ltb-false 11 b eb) (ltb-false 3 v ev), λ _ _. tt),
  ),
)

-- ---- all of them

pub numbers : Numbers
numbers =
    record {
      reader = λ block lent bytes. told (grounds_of block (header_in block) lent) (reader_reasons block lent) (refuses_in_order block lent) (reader_tells block lent bytes);
      writer =
          λ h ws lent.
          told (write_grounds h ws lent) (plan_reasons h ++ word_reasons h ws lent) (writer.refuses_in_order h ws lent)
          (behind_plan h (word_grounds h ws lent) (word_reasons h ws lent) (word_tells h ws lent));
      records =
          λ h k lent.
          told (records.grounds_of h k lent) (plan_reasons h ++ record_reasons h k lent) (located.refuses_in_order h k lent)
          (behind_plan h (record_grounds h k lent) (record_reasons h k lent) (record_tells h k lent));
      placement = λ b v k. told ((4 when ltb 11 b) ∷ (5 when ltb 3 v) ∷ (13 when no_record b v k) ∷ []) (place_reasons b v k) (place_number b v k) (place_tells b v k);
      copies = λ block bytes. told (copies_grounds block) (copies_reasons block) (common_number block) (copies_tell block bytes);
      plan = λ h. told (plan_grounds h) (plan_reasons h) (plan_number h) (plan_tells h);
      by =
          λ h block lent bytes.
          told (grounds_by h block lent) (plan_reasons h ++ field_reasons (λ P. P h) block lent) (judges_in_order.first h block lent)
          (behind_plan h (field_by h block lent) (field_reasons (λ P. P h) block lent) (λ a. field_tells h block bytes lent a (λ P. P h) (itself h)));
    }

-- ---- what a refusal holds

pub refusals : Refusals
unfolding place_of written_of write_refusal
refusals =
    record {
      reader = refusal_leaves.zeros;
      words_left = refusal_leaves.unchanged;
      by = judges_in_order.zeros;
      by_left = judges_in_order.unchanged;
      writer = λ h ws lent f. sym (refuses _ refused_written (sym (writer.refuses_in_order h ws lent)) f);
      bytes_left = (writer.refusal_leaves).unchanged;
      records = (located.finds).empty;
      part = λ h k ws f. ap (λ (p : PartAnswer). part_in p ws) ((located.finds).empty h k (length ws) f);
      placement = λ b v k f. sym (refuses _ refused_by (sym (place_number b v k)) f);
      copies = reads_common.zeros;
      plan = grants_asked.zeros;
    }
