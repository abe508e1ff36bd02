-- The reader's promises on refusals and on acceptance: its answer and its room go by the first ground that holds, and none holds exactly
-- where the block meets the specification and is given room.
-- Assumes nothing.
use Prim.Native.Nat.{ℕ, ◌+◌, ◌-◌, ◌*◌, ◌%◌, ◌≤◌}
use mathlib.Core.Path.{◌≡◌, refl, sym, ap, ◌∙◌}
use mathlib.Core.Logic.{◌↔◌}
use mathlib.Core.Bool.{Bool, true, not}
use native.Mathlib.Omega.{arith}
use mathlib.Core.List.{List, [], ◌∷◌, ◌++◌}
use lib.ListN.{length, drop, length-drop}
use borrow.Author.Tests.{ltb-true, ltb-false, le-ltb, eq-eqb}
use Rattle.ground.specs.Grounds.{◌when◌}
use Rattle.ground.proofs.LawsTests.{never}
use Rattle.ground.proofs.LawsGrounds.{accepts, refuses, reads_number, none_first, first_none, none_split, exactly}
use Rattle.bits.specs.Bits.{Below, spell, words, sent}
use Rattle.bits.specs.Fields.{words_of, fill_of}
use Rattle.bits.proofs.LawsWords.{length_spell, words_spell}
use Rattle.check_rule.specs.Check.{generator, passes}
use Rattle.check_rule.specs.Finds.{Passes}
use Rattle.check_rule.proofs.LawsPasses.{passes_true, true_passes}
use Rattle.row.specs.Field.{field_bytes}
use Rattle.row.proofs.LawsField.{bits_whole, fields_even, words_at_most}
use Rattle.copies.specs.Copies.{copies_length, copy_at, too_short, no_copy_passes, header_in, copies_grounds}
use Rattle.copies.proofs.LawsAgreed.{copy_bytes, none_passes, passes_none}
use Rattle.header.specs.Says.{block_in, words_in, bytes_in}
use Rattle.header.specs.Plans.{header_grounds}
use Rattle.header.proofs.LawsAsks.{none_asks}
use Rattle.block.specs.Answers.{Answer, refused_answer, accepted_answer, answer_of, words_laid, room_after}
use Rattle.block.specs.Layout.{information_field}
use Rattle.block.specs.Grounds.{wrong_length, off_boundary, small_room, grounds_of, refusal_of}
use Rattle.block.specs.Meets.{Meets}
use Rattle.block.specs.Promises.{Accepted, RefusesInOrder, RefusesExactly, RefusalLeaves, TwoExactly, SeventeenNever, NineNever, FillMeasured, AcceptsExactly, AnswersTruly, GivesWords}
use Rattle.block.proofs.LawsMeets.{none_meets, meets_none, header_is, words_are, size_is, bytes_are, refused_9}

-- ---- refusals

pub refuses_in_order : RefusesInOrder
unfolding answer_of refusal_of
refuses_in_order block room = reads_number (accepted_answer block) refused_answer (λ (r : Answer). r.number) refl (λ n. refl) (refusal_of block room)

pub refuses_exactly : RefusesExactly
refuses_exactly block room = exactly (grounds_of block (header_in block) room) refl refl (refuses_in_order block room)

pub number_is : (block : List ℕ) (room : ℕ) → (answer_of block room).number ≡ refusal_of block room
unfolding refusal_of
number_is = refuses_in_order

refused_zeros : (block : List ℕ) (room : ℕ) → (Accepted block room → ⊥) → answer_of block room ≡ refused_answer (answer_of block room).number
unfolding answer_of
refused_zeros block room f = sym (refuses (accepted_answer block) refused_answer (sym (number_is block room)) f)

refused_room : (block room : List ℕ) → (Accepted block (length room) → ⊥) → room_after block room ≡ room
unfolding room_after
refused_room block room f = sym (refuses (words_laid (header_in block) block room) (λ (_ : ℕ). room) (sym (number_is block (length room))) f)

pub refusal_leaves : RefusalLeaves
refusal_leaves = record { zeros = refused_zeros; unchanged = refused_room }

pub two_exactly : TwoExactly
two_exactly block room bytes =
    let k = refuses_exactly block room ((1 when too_short block) ∷ []) (2 when no_copy_passes block) _ refl in (
      λ e. let h = k.0 e in record { long = ltb-false (length block) copies_length h.0.0; none = none_passes block bytes h.1 },
      λ n. k.1 ((le-ltb (length block) copies_length n.long, tt), passes_none block bytes n.none),
    )

pub seventeen_never : SeventeenNever
seventeen_never block room e =
    let h = header_in block in
    let odd = ((refuses_exactly block room (copies_grounds block ++ (header_grounds h ++ ((8 when wrong_length (bytes_in h) block) ∷ []))) (17 when off_boundary (bytes_in h)) _ refl).0 e).1 in
    let even = fields_even (block_in h) (words_in h) in
    let whole : (copies_length + bytes_in h) % 2 ≡ 0 = omega arith in
    never (sym (ap not (eq-eqb ((copies_length + bytes_in h) % 2) 0 whole)) ∙ odd)

pub nine_never : NineNever
nine_never block room enough e =
    let h = header_in block in
    let placed = (8 when wrong_length (bytes_in h) block) ∷ (17 when off_boundary (bytes_in h)) ∷ [] in
    let small = (refuses_exactly block room (copies_grounds block ++ (header_grounds h ++ placed)) (9 when small_room (words_in h) room) _ refl).0 e in
    let n = none_split (copies_grounds block) (header_grounds h ++ placed) small.0 in
    let asks = none_asks h (none_split (header_grounds h) placed n.1).0 in
    let most = words_at_most _ _ _ _ asks.suits in
    absurd (omega (arith, ltb-true room (words_in h) small.1))

pub fill_measured : FillMeasured
unfolding fill_of field_bytes
fill_measured number size count field e =
    length-drop (count * size) (sent field) ∙ ap (λ (n : ℕ). n - count * size) (length_spell 8 field ∙ ap (λ (n : ℕ). n * 8) e ∙ omega (arith, bits_whole number count))

-- ---- demand 2

module _ (block : List ℕ) (bytes : Below 256 block) where
  refusal_none : (room : ℕ) (m : Meets block) → m.words ≤ room → refusal_of block room ≡ 0
  unfolding refusal_of
  refusal_none room m r = none_first (grounds_of block (header_in block) room) (meets_none block bytes room m r)

  pub meets_answer : (room : ℕ) (m : Meets block) → m.words ≤ room → answer_of block room ≡ accepted_answer block
  unfolding answer_of
  meets_answer room m r = sym (accepts (accepted_answer block) refused_answer (refusal_none room m r))

  pub accepted_meets : (room : ℕ) → Accepted block room → (m : Meets block) × (m.words ≤ room)
  accepted_meets room e = none_meets block bytes room (first_none (grounds_of block (header_in block) room) refl (sym (refuses_in_order block room) ∙ e))

  pub accepted_answer_is : (room : ℕ) → Accepted block room → answer_of block room ≡ accepted_answer block
  accepted_answer_is room e = let k = accepted_meets room e in meets_answer room k.0 k.1

  -- a mark that says whether a copy passes says so truly
  marked : (room k : ℕ) (get : Answer → Bool) → get (accepted_answer block) ≡ passes (copy_at k block) → Accepted block room
      → (get (answer_of block room) ≡ true) ↔ Passes generator (copy_at k block)
  marked room k get e a =
      let f = ap get (accepted_answer_is room a) ∙ e in
      (λ t. passes_true (copy_at k block) (copy_bytes block bytes k) (sym f ∙ t), λ p. f ∙ true_passes (copy_at k block) p)

pub accepts_exactly : AcceptsExactly
accepts_exactly =
    record {
      accepts = λ block room bytes m r. ap (λ (x : Answer). x.number) (meets_answer block bytes room m r);
      only = λ block room bytes. accepted_meets block bytes room;
      small = λ block room bytes m r. refuses_in_order block room ∙ refused_9 block bytes m.agreed m.asks m.long room r;
    }

pub answers_truly : AnswersTruly
answers_truly =
    record {
      header = λ block room bytes m r. ap (λ (x : Answer). x.header) (meets_answer block bytes room m r) ∙ header_is block bytes m.agreed m.asks m.long;
      count = λ block room bytes m r. ap (λ (x : Answer). x.words) (meets_answer block bytes room m r) ∙ words_are block bytes m.agreed m.asks m.long;
      first = λ block room bytes. marked block bytes room 0 (λ (x : Answer). x.first) refl;
      second = λ block room bytes. marked block bytes room 1 (λ (x : Answer). x.second) refl;
      third = λ block room bytes. marked block bytes room 2 (λ (x : Answer). x.third) refl;
    }

pub words_cut : (block room : List ℕ) → Below 256 block → (m : Meets block) → m.words ≤ length room
    → room_after block room ≡ words m.size m.words (sent (information_field (field_bytes m.number m.words) block)) ++ drop m.words room
unfolding room_after words_of
words_cut block room bytes m r =
    let sz = size_is block bytes m.agreed m.asks m.long in
    let ws = words_are block bytes m.agreed m.asks m.long in
    let by = bytes_are block bytes m.agreed m.asks m.long in
    sym (accepts (words_laid (header_in block) block room) (λ (_ : ℕ). room) (refusal_none block bytes (length room) m r))
    ∙ (λ i. words_of (sz i) (ws i) (information_field (by i) block) ++ drop (ws i) room)

pub gives_words : GivesWords
gives_words =
    record {
      cut = words_cut;
      sent_ones =
          λ block room ws fill bytes m r l fit e.
          words_cut block room bytes m r
          ∙ ap (λ (bits : List ℕ). words m.size m.words bits ++ drop m.words room) e
          ∙ ap (λ (v : List ℕ). v ++ drop m.words room) (ap (λ (n : ℕ). words m.size n (spell m.size ws ++ fill)) (sym l) ∙ words_spell m.size ws fill fit);
    }
