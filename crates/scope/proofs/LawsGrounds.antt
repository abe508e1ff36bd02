-- The tests of the code tell the reasons of the statements: those of the copies, of a header, of a field.
-- Assumes nothing.
use Prim.Native.Nat.{ℕ, zero, suc, ◌+◌, ◌*◌, ◌/◌, ◌%◌, ◌<◌, ◌≤◌}
use mathlib.Core.Path.{◌≡◌, refl, sym, ap, ◌∙◌, subst}
use mathlib.Core.Logic.{◌⊎◌, inl, inr, ⊎_elim, ◌↔◌}
use mathlib.Core.Bool.{Bool, true, false, not, ◌&&◌, ◌||◌}
use mathlib.Core.List.{List, [], ◌∷◌, ◌++◌}
use native.Mathlib.Omega.{arith}
use lib.Dec.{eqb, ltb, lit<, lit≤}
use lib.ListN.{length, take, drop, get_or, take-append-drop, length-drop}
use lib.Seq.{get_or-drop}
use borrow.Author.Tests.{eqb-true, eqb-false, ltb-true, ltb-false, le-ltb, not-true, not-false}
use Rattle.ground.specs.Grounds.{NoneHolds}
use Rattle.ground.proofs.LawsTests.{never, split}
use Rattle.bits.specs.Bits.{Below, sent}
use Rattle.bits.specs.Fields.{all_zero, fill_of}
use Rattle.bits.proofs.LawsBelow.{below_drop}
use Rattle.bits.proofs.LawsWords.{length_spell, spell_append, spell_below}
use Rattle.check_rule.specs.Check.{generator, passes}
use Rattle.check_rule.specs.Finds.{Passes}
use Rattle.check_rule.proofs.LawsPasses.{passes_true, true_passes}
use Rattle.row.specs.Rows.{row_of, permits}
use Rattle.row.specs.Suits.{Scan, Suits, zeroth, first, second, others, last6, last8, last10}
use Rattle.row.proofs.LawsRow.{row_cases, second_cases, in_3, suits_takes}
use Rattle.header.specs.Says.{block_in, size_in, count_in, words_in, version_in, row_in, bytes_in}
use Rattle.copies.specs.Copies.{copy_at, same_as, differ, no_copy_passes, copies_differ, copies_grounds, header_in}
use Rattle.header.specs.Plans.{unknown_block, unknown_version, wrong_size, wrong_count, header_grounds}
use Rattle.header.specs.Asks.{IsBlock}
use Rattle.copies.proofs.LawsAgreed.{all_equal, copy_bytes, none_passes, passes_none, none_agreed, agreed_none}
use Rattle.copies.proofs.LawsSame.{same_refl}
use Rattle.header.proofs.LawsAsks.{is_number, is_known, number_is, none_asks, asked_words}
use Rattle.block.specs.Layout.{information_field}
use Rattle.block.specs.Grounds.{wrong_length, off_boundary, small_room, check_disagrees, fill_not_zero, field_by}
use Rattle.block.proofs.LawsReader.{field_long}
use Rattle.block.proofs.LawsMeets.{fill_each}
use Rattle.scope.specs.Notions.{word, bit}
use Rattle.scope.specs.Blocks.{Agrees, Passing, Asked}
use Rattle.scope.specs.Refusals.{header_reasons, Said, copies_reasons, field_reasons}
use Rattle.scope.proofs.LawsReasons.{Tells, told_as, tells_eq, tells_less, tells_not, AllTell}
use Rattle.scope.proofs.LawsFormat.{agrees_passes, passes_agrees, copy_place, place_copy, agreed_header, header_agreed, asked_asks, asked_field, asked_whole}

-- ---- a header

at : {b c w x v C : ℕ} → b ≡ c → x ≡ w → Suits c v x C → Suits b v w C
at {b} {c} {w} {x} {v} {C} e f s = subst (λ (y : ℕ). Suits y v w C) (sym e) (subst (λ (y : ℕ). Suits c v y C) f s)

-- a size of the row is that of some count
size_suits : (b v w : ℕ) → b ≤ 11 → v ≤ 3 → (row_of b v w).size ≡ w → (C : ℕ) × Suits b v w C
size_suits b v w l known =
    let one : Scan 1 = record { narrow = lit≤ tt; wide = lit≤ tt } in
    row_cases (λ r. r.size ≡ w → (C : ℕ) × Suits b v w C) b v w
    (λ e f. (8040, at e f zeroth))
    (λ e f. (68, at e f (first {n = 1} one)))
    (λ e f. second_cases (λ _. (C : ℕ) × Suits b v w C) v (λ m. (51, at e f (second {n = 1} m one))) (λ m. (68, at e f (in_3 {n = 1} v known m one))))
    (λ k m f. (20, at refl f (others {n = 1} k m one)))
    (λ e _ f. (10720, at e f last6))
    (λ e _ f. (8040, at e f last8))
    (λ e f. (6432, at e f last10))
    (λ k _. absurd (omega arith))

module _ (h : List ℕ) where
  -- the block that its id names
  block_is : {b : ℕ} → IsBlock (word 1 h) b → block_in h ≡ b
  block_is = is_number

  tells_block : Tells (unknown_block h) ((b : ℕ) → IsBlock (word 1 h) b → ⊥)
  tells_block =
      record {
        yes = λ y b i. omega (arith, ltb-true 11 (block_in h) y, block_is i, is_known i);
        no = λ n f. f (block_in h) (number_is (word 1 h) (ltb-false 11 (block_in h) n));
      }

  tells_version : Tells (unknown_version h) (3 < word 8 h)
  tells_version = tells_less 3 (version_in h)

  tells_size : unknown_block h ≡ false → unknown_version h ≡ false → Tells (wrong_size h) ((b C : ℕ) → IsBlock (word 1 h) b → Suits b (word 8 h) (word 2 h) C → ⊥)
  tells_size block version =
      record {
        yes = λ y b C i s. let e = block_is i in eqb-false (row_in h).size (size_in h) (not-true (eqb (row_in h).size (size_in h)) y)
            (ap (λ (x : ℕ). (row_of x (version_in h) (size_in h)).size) e ∙ (suits_takes s).sized);
        no = λ n f.
            let low = ltb-false 11 (block_in h) block in
            let some = size_suits (block_in h) (version_in h) (size_in h) low (ltb-false 3 (version_in h) version) (eqb-true (row_in h).size (size_in h) (not-false (eqb (row_in h).size (size_in h)) n)) in
            f (block_in h) some.0 (number_is (word 1 h) low) some.1;
      }

  -- where the count suits, it is not wrong
  count_suits : {b C : ℕ} → IsBlock (word 1 h) b → count_in h ≡ C + 2 → Suits b (version_in h) (size_in h) C → wrong_count h ≡ false
  count_suits {b} {C} i e s =
      let few : ltb (count_in h) 2 ≡ false = le-ltb (count_in h) 2 (omega arith) in
      let same : words_in h ≡ C = omega arith in
      (λ j. few j || not (permits (row_of (block_is i j) (version_in h) (size_in h)) (same j))) ∙ ap not (suits_takes s).counted

  tells_count : unknown_block h ≡ false → unknown_version h ≡ false → wrong_size h ≡ false → Tells (wrong_count h) ((b C : ℕ) → IsBlock (word 1 h) b → word 3 h * 256 + word 4 h ≡ C + 2 → Suits b (word 8 h) (word 2 h) C → ⊥)
  tells_count k v w =
      record {
        yes = λ y b C i e s. never (sym (count_suits i e s) ∙ y);
        no = λ n f. let a = none_asks h (k, (v, (w, (n, tt)))) in f (block_in h) (words_in h) a.id a.count a.suits;
      }

  -- what a header says is said of it, wherever it was found
  pub header_tells : (says : (List ℕ → Type 0) → Type 0) → ((P : List ℕ → Type 0) → P h ↔ says P) → AllTell (header_grounds h) (header_reasons says)
  header_tells says e = (
    refl,
    told_as (e _) tells_block,
    λ k _. (
      refl,
      told_as (e _) tells_version,
      λ v _. (
        refl,
        told_as (e _) (tells_size k v),
        λ w _.
            (refl, told_as (e _) (tells_count k v w), λ _ _. tt),
      ),
    ),
  )

-- ---- the copies

one_of : (t u : Bool) → (t || u) ≡ true → (t ≡ true) ⊎ (u ≡ true)
one_of true u e = inl refl
one_of false u e = inr e

module _ (block : List ℕ) (bytes : Below 256 block) where
  passing_at : (k : ℕ) → k < 3 → passes (copy_at k block) ≡ true → Passing block (copy_at k block)
  passing_at k l p = record { copy = place_copy block k l; agrees = passes_agrees (passes_true (copy_at k block) (copy_bytes block bytes k) p) }

  tells_none : Tells (no_copy_passes block) ((c : List ℕ) → Passing block c → ⊥)
  tells_none =
      record {
        yes = λ y c p. let k = copy_place p.copy in none_passes block bytes y k.0 k.1 (subst (Passes generator) (sym k.2) (agrees_passes p.agrees));
        no = λ n f. never (sym n ∙ passes_none block bytes (λ k l p. f (copy_at k block) (record { copy = place_copy block k l; agrees = passes_agrees p })));
      }

  -- two of three copies that differ are passing ones, and unequal
  abbrev Two : Type 0
  Two = (c : List ℕ) × (d : List ℕ) × Passing block c × Passing block d × (c ≡ d → ⊥)

  two_at : (j k : ℕ) → j < 3 → k < 3 → differ (copy_at j block) (copy_at k block) ≡ true → Two
  two_at j k l m e =
      let a = copy_at j block in
      let b = copy_at k block in
      let p = split (passes a) (passes b && not (same_as a b)) e in
      let q = split (passes b) (not (same_as a b)) p.1 in
      (a, b, passing_at j l p.0, passing_at k m q.0, λ f. never (sym (not-true (same_as a b) q.1) ∙ ap (same_as a) (sym f) ∙ same_refl a))

  tells_two : Tells (copies_differ block) Two
  tells_two =
      record {
        yes = λ y. ⊎_elim (two_at 0 1 (lit< tt) (lit< tt)) (λ z. ⊎_elim (two_at 0 2 (lit< tt) (lit< tt)) (two_at 1 2 (lit< tt) (lit< tt)) (one_of _ _ z)) (one_of _ _ y);
        no = λ n t.
            let j = copy_place t.2.copy in
            let k = copy_place t.3.copy in
            let p : passes (copy_at j.0 block) ≡ true = true_passes _ (subst (Passes generator) (sym j.2) (agrees_passes t.2.agrees)) in
            let q : passes (copy_at k.0 block) ≡ true = true_passes _ (subst (Passes generator) (sym k.2) (agrees_passes t.3.agrees)) in
            t.4 (sym j.2 ∙ all_equal block n j.0 k.0 j.1 k.1 p q ∙ k.2);
      }

  pub copies_tell : AllTell (copies_grounds block) (copies_reasons block)
  copies_tell = (refl, tells_less (length block) 90, λ _ _. (refl, tells_none, λ _ _. (refl, tells_two, λ _ _. tt)))

  -- where none holds, what a block's header says is what its common copy says
  pub said : NoneHolds (copies_grounds block) → (P : List ℕ → Type 0) → P (header_in block) ↔ Said block P
  said n P = (
    λ p. (header_in block, agreed_header (none_agreed block bytes n), p),
    λ s. subst P (s.1.given ∙ ap (take 28) (sym (agreed_none block bytes (header_agreed s.1)).1)) s.2,
  )

-- ---- the field

-- a bit that is not zero, where not all are; it stands inside
one_bit : (bs : List ℕ) → Below 2 bs → all_zero bs ≡ false → (j : ℕ) × (j < length bs) × (get_or bs j 0 ≡ 1)
unfolding all_zero
one_bit [] b e = never (sym e)
one_bit (x ∷ xs) b e = go (eqb x 0) refl (one_bit xs b.1)
  where
    go : (t : Bool) → eqb x 0 ≡ t → (all_zero xs ≡ false → (j : ℕ) × (j < length xs) × (get_or xs j 0 ≡ 1)) → (j : ℕ) × (j < length (x ∷ xs)) × (get_or (x ∷ xs) j 0 ≡ 1)
    go true f k = let r = k (ap (λ (t : Bool). t && all_zero xs) (sym f) ∙ e) in (suc r.0, omega (arith, r.1), r.2)
    go false f k = let l = b.0 in let n = eqb-false x 0 f in (0, omega arith, omega arith)

front_at : (xs ys : List ℕ) (i : ℕ) → i < length xs → get_or (xs ++ ys) i 0 ≡ get_or xs i 0
front_at [] ys i l = absurd (omega arith)
front_at (x ∷ xs) ys zero l = refl
front_at (x ∷ xs) ys (suc i) l = front_at xs ys i (omega arith)

-- the bits of a field are those of what it begins
pub bit_in_front : (n : ℕ) (xs : List ℕ) (i : ℕ) → i < length (take n xs) * 8 → get_or (sent (take n xs)) i 0 ≡ bit i xs
bit_in_front n xs i l =
    sym (front_at (sent (take n xs)) (sent (drop n xs)) i (omega (arith, length_spell 8 (take n xs))))
    ∙ ap (λ (bs : List ℕ). get_or bs i 0) (sym (spell_append 8 (take n xs) (drop n xs)) ∙ ap sent (take-append-drop n xs))

pub fill_bit : (k : ℕ) (field : List ℕ) → all_zero (drop k (sent field)) ≡ false → (i : ℕ) × (k ≤ i) × (i < length field * 8) × (get_or (sent field) i 0 ≡ 1)
fill_bit k field e =
    let r = one_bit (drop k (sent field)) (below_drop 2 k (sent field) (spell_below 8 field)) e in
    (k + r.0, omega arith, omega (arith, r.1, length-drop k (sent field), length_spell 8 field), sym (get_or-drop k (sent field) r.0 0) ∙ r.2)

-- a test of what a header asks for, where it asks for something, tells a reason that is said of it
pub asked_tells : (h : List ℕ) (t : Bool) (P : Asked h → Type 0) → Asked h → ((a : Asked h) → Tells t (P a)) → Tells t ((a : Asked h) × P a)
asked_tells h t P a f = record { yes = λ y. (a, (f a).yes y); no = λ n p. (f p.0).no n p.1 }

module _ (h block : List ℕ) (bytes : Below 256 block) (lent : ℕ) (ask : Asked h) where
  tells_long : Tells (wrong_length (bytes_in h) block) ((a : Asked h) × (length block ≡ 90 + a.bits / 8 + 2 → ⊥))
  tells_long =
      asked_tells h _ (λ a. length block ≡ 90 + a.bits / 8 + 2 → ⊥) ask
      (λ a. tells_not (told_as ((λ e. e ∙ ap (λ (n : ℕ). 90 + n + 2) (sym (asked_field a))), λ e. e ∙ ap (λ (n : ℕ). 90 + n + 2) (asked_field a)) (tells_eq (length block) (90 + bytes_in h + 2))))

  tells_even : Tells (off_boundary (bytes_in h)) ((a : Asked h) × ((720 + a.bits) % 16 ≡ 0 → ⊥))
  tells_even =
      asked_tells h _ (λ a. (720 + a.bits) % 16 ≡ 0 → ⊥) ask
      (λ a. let e = asked_field a in let w = asked_whole a in tells_not (told_as (λ k. omega arith, λ k. omega arith) (tells_eq ((90 + bytes_in h) % 2) 0)))

  tells_room : Tells (small_room (words_in h) lent) ((a : Asked h) × (lent < a.words))
  tells_room =
      asked_tells h _ (λ a. lent < a.words) ask
      (λ a. told_as (subst (◌<◌ lent) (asked_words (asked_asks a)), subst (◌<◌ lent) (sym (asked_words (asked_asks a)))) (tells_less lent (words_in h)))

  tells_check : Tells (check_disagrees block) (Agrees (drop 90 block) → ⊥)
  tells_check =
      tells_not (record {
        yes = λ y. passes_agrees (passes_true (drop 90 block) (below_drop 256 90 block bytes) y);
        no = λ n a. never (sym n ∙ true_passes (drop 90 block) (agrees_passes a));
      })

  -- the field as long as it should be, its bits behind the last word
  module _ (long : wrong_length (bytes_in h) block ≡ false) where
    tells_fill : Tells (fill_not_zero (size_in h) (words_in h) (information_field (bytes_in h) block))
        ((a : Asked h) × (i : ℕ) × (a.words * a.size ≤ i) × (i < a.bits) × (bit i (drop 90 block) ≡ 1))
    unfolding fill_of
    tells_fill =
        let field = information_field (bytes_in h) block in
        let whole : length field ≡ bytes_in h = field_long (bytes_in h) block (eqb-true _ _ (not-false _ long)) in
        let behind : (a : Asked h) → words_in h * size_in h ≡ a.words * a.size = λ a i. asked_words (asked_asks a) i * a.sized i in
        record {
          yes =
              λ y.
              let r = fill_bit (words_in h * size_in h) field (not-true _ y) in (
                ask,
                r.0,
                subst (λ (k : ℕ). k ≤ r.0) (behind ask) r.1,
                (let l = r.2 in let f = asked_field ask in let w = asked_whole ask in omega arith),
                sym (bit_in_front (bytes_in h) (drop 90 block) r.0 r.2) ∙ r.3,
              );
          no =
              λ n p.
              let f = asked_field p.0 in
              let l = p.3 in
              let zero = fill_each (size_in h) (words_in h) field (not-false _ n) p.1 (subst (λ (k : ℕ). k ≤ p.1) (sym (behind p.0)) p.2) in
              let w = asked_whole p.0 in
              let one = bit_in_front (bytes_in h) (drop 90 block) p.1 (omega arith) ∙ p.4 in
              omega (arith, sym zero ∙ one);
        }

  pub field_tells : (says : (List ℕ → Type 0) → Type 0) → ((P : List ℕ → Type 0) → P h ↔ says P) → AllTell (field_by h block lent) (field_reasons says block lent)
  field_tells says e = (
    refl,
    told_as (e _) tells_long,
    λ long _. (
      refl,
      told_as (e _) tells_even,
      λ _ _. (
        refl,
        told_as (e _) tells_room,
        λ _ _. (
          refl,
          tells_check,
          λ _ _.
              (refl, told_as (e _) (tells_fill long), λ _ _. tt),
        ),
      ),
    ),
  )
