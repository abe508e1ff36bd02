-- No ground holds exactly where the block meets the specification and is given room.
-- Assumes nothing.
use Prim.Native.Nat.{ℕ, zero, suc, ◌+◌, ◌*◌, ◌-◌, ◌%◌, ◌≤◌, ◌<◌}
use mathlib.Core.Path.{◌≡◌, refl, sym, ap, ap₂, ◌∙◌, subst}
use mathlib.Core.Bool.{Bool, true, false, not}
use mathlib.Core.List.{List, [], ◌∷◌, ◌++◌}
use native.Mathlib.Omega.{arith}
use lib.Dec.{eqb}
use lib.ListN.{length, take, drop, get_or}
use lib.Seq.{get_or-drop}
use borrow.Author.Tests.{ltb-false, lt-ltb, le-ltb, eqb-true, eq-eqb, not-false}
use Rattle.ground.specs.Grounds.{Ground, ◌when◌, first_of, NoneHolds}
use Rattle.ground.proofs.LawsTests.{both, split}
use Rattle.ground.proofs.LawsGrounds.{none_append, none_split, first_is}
use Rattle.bits.specs.Bits.{Below, sent}
use Rattle.bits.specs.Fields.{fill_of, all_zero}
use Rattle.bits.proofs.LawsBelow.{below_drop}
use Rattle.check_rule.specs.Check.{generator, passes}
use Rattle.check_rule.specs.Finds.{Passes}
use Rattle.check_rule.proofs.LawsPasses.{passes_true, true_passes}
use Rattle.row.specs.Field.{field_bytes}
use Rattle.row.proofs.LawsField.{fields_even}
use Rattle.copies.specs.Copies.{header_length, copies_length, common_in, header_in, copies_grounds}
use Rattle.copies.specs.Agreed.{Agreed}
use Rattle.copies.proofs.LawsAgreed.{none_agreed, agreed_none}
use Rattle.header.specs.Says.{block_in, size_in, words_in, version_in, bytes_in}
use Rattle.header.specs.Plans.{header_grounds}
use Rattle.header.specs.Asks.{Asks}
use Rattle.header.proofs.LawsAsks.{none_asks, asks_none, asked_block, asked_words}
use Rattle.block.specs.Layout.{block_length, information_field}
use Rattle.block.specs.Grounds.{wrong_length, off_boundary, small_room, check_disagrees, fill_not_zero, field_by, grounds_of}
use Rattle.block.specs.Meets.{Meets}

-- ---- the fill, bit by bit

zero_each : (bs : List ℕ) → all_zero bs ≡ true → (i : ℕ) → get_or bs i 0 ≡ 0
unfolding all_zero
zero_each [] h i = refl
zero_each (b ∷ bs) h zero = eqb-true b 0 (split (eqb b 0) (all_zero bs) h).0
zero_each (b ∷ bs) h (suc i) = zero_each bs (split (eqb b 0) (all_zero bs) h).1 i

each_zero : (bs : List ℕ) → ((i : ℕ) → get_or bs i 0 ≡ 0) → all_zero bs ≡ true
unfolding all_zero
each_zero [] f = refl
each_zero (b ∷ bs) f = both (eq-eqb b 0 (f 0)) (each_zero bs (λ i. f (suc i)))

module _ (size words : ℕ) (field : List ℕ) where
  pub fill_each : all_zero (fill_of size words field) ≡ true → (i : ℕ) → words * size ≤ i → get_or (sent field) i 0 ≡ 0
  unfolding fill_of
  fill_each h i l =
      let e : words * size + (i - words * size) ≡ i = omega arith in
      ap (λ (k : ℕ). get_or (sent field) k 0) (sym e) ∙ sym (get_or-drop (words * size) (sent field) (i - words * size) 0)
      ∙ zero_each (drop (words * size) (sent field)) h (i - words * size)

  pub each_fill : ((i : ℕ) → words * size ≤ i → get_or (sent field) i 0 ≡ 0) → all_zero (fill_of size words field) ≡ true
  unfolding fill_of
  each_fill f = each_zero (drop (words * size) (sent field)) (λ i. get_or-drop (words * size) (sent field) i 0 ∙ f (words * size + i) (omega arith))

-- ---- from the tests to the facts, and back

module _ (block : List ℕ) (bytes : Below 256 block) where
  abbrev h : List ℕ
  h = header_in block

  pub none_meets : (room : ℕ) → NoneHolds (grounds_of block h room) → (m : Meets block) × (m.words ≤ room)
  none_meets room n =
      let k = none_split (copies_grounds block) (header_grounds h ++ field_by h block room) n in
      let m = none_split (header_grounds h) (field_by h block room) k.1 in
      let f = m.1 in (
        record {
          copy = common_in block;
          number = block_in h;
          version = version_in h;
          size = size_in h;
          words = words_in h;
          agreed = none_agreed block bytes k.0;
          asks = none_asks h m.0;
          long = eqb-true (length block) (block_length (bytes_in h)) (not-false _ f.0);
          checked = passes_true (drop copies_length block) (below_drop 256 copies_length block bytes) (not-false _ f.1.1.1.0);
          filled = fill_each (size_in h) (words_in h) (information_field (bytes_in h) block) (not-false _ f.1.1.1.1.0);
        },
        ltb-false room (words_in h) f.1.1.0,
      )

  -- a block whose header is agreed on, and which is as long as that asks: no ground up to 17 holds
  module _ {copy : List ℕ} {b v w C : ℕ} (g : Agreed block copy) (a : Asks (take header_length copy) b v w C) (l : length block ≡ block_length (field_bytes b C)) where
    pub header_is : h ≡ take header_length copy
    header_is = ap (take header_length) (agreed_none block bytes g).1

    asks_h : Asks h b v w C
    asks_h = subst (λ (x : List ℕ). Asks x b v w C) (sym header_is) a

    pub words_are : words_in h ≡ C
    words_are = asked_words asks_h

    pub size_is : size_in h ≡ w
    size_is = asks_h.size

    pub bytes_are : bytes_in h ≡ field_bytes b C
    bytes_are = ap₂ field_bytes (asked_block asks_h) words_are

    abbrev placed : List Ground
    placed = (8 when wrong_length (bytes_in h) block) ∷ (17 when off_boundary (bytes_in h)) ∷ []

    abbrev pub early : List Ground
    early = copies_grounds block ++ (header_grounds h ++ placed)

    pub early_none : NoneHolds early
    early_none =
        let even = fields_even (block_in h) (words_in h) in
        let e : (copies_length + bytes_in h) % 2 ≡ 0 = omega arith in
        none_append (copies_grounds block) (header_grounds h ++ placed) (agreed_none block bytes g).0
        (none_append (header_grounds h) placed (asks_none asks_h)
        (ap not (eq-eqb (length block) (block_length (bytes_in h)) (l ∙ ap block_length (sym bytes_are))), (ap not (eq-eqb ((copies_length + bytes_in h) % 2) 0 e), tt)))

    -- then the room decides, then the check
    pub refused_9 : (room : ℕ) → room < C → first_of (grounds_of block h room) ≡ 9
    refused_9 room r =
        first_is early (9 when small_room (words_in h) room)
        ((10 when check_disagrees block) ∷ (11 when fill_not_zero (size_in h) (words_in h) (information_field (bytes_in h) block)) ∷ [])
        early_none (lt-ltb room (words_in h) (omega (arith, words_are)))

    pub refused_10 : (room : ℕ) → C ≤ room → (Passes generator (drop copies_length block) → ⊥) → first_of (grounds_of block h room) ≡ 10
    refused_10 room r f =
        first_is (early ++ ((9 when small_room (words_in h) room) ∷ [])) (10 when check_disagrees block)
        ((11 when fill_not_zero (size_in h) (words_in h) (information_field (bytes_in h) block)) ∷ [])
        (none_append early ((9 when small_room (words_in h) room) ∷ []) early_none (le-ltb room (words_in h) (omega (arith, words_are)), tt))
        (go (passes (drop copies_length block)) refl)
      where
        go : (t : Bool) → passes (drop copies_length block) ≡ t → not t ≡ true
        go true e = absurd (f (passes_true (drop copies_length block) (below_drop 256 copies_length block bytes) e))
        go false e = refl

  abbrev late : ℕ → List Ground
  late room =
      (9 when small_room (words_in h) room) ∷ (10 when check_disagrees block) ∷ (11 when fill_not_zero (size_in h) (words_in h) (information_field (bytes_in h) block)) ∷ []

  pub meets_none : (room : ℕ) (m : Meets block) → m.words ≤ room → NoneHolds (grounds_of block h room)
  meets_none room m r =
      let g = m.agreed in
      let a = m.asks in
      let l = m.long in
      let sz = size_is g a l in
      let ws = words_are g a l in
      let by = bytes_are g a l in
      none_append (early g a l) (late room) (early_none g a l) (
        le-ltb room (words_in h) (omega arith),
        (
          ap not (true_passes (drop copies_length block) m.checked),
          (ap not ((λ i. all_zero (fill_of (sz i) (ws i) (information_field (by i) block))) ∙ each_fill m.size m.words (information_field (field_bytes m.number m.words) block) m.filled), tt),
        ),
      )
