-- What is written of the pieces: fields whose blocks stand, the marks of the copies changed, and the refusals.
-- Assumes nothing.
use Prim.Native.Nat.{ℕ, ◌/◌, ◌%◌, ◌^◌, ◌≤◌, ◌<◌}
use mathlib.Core.Path.{◌≡◌, refl, sym, ap, ◌∙◌}
use mathlib.Core.Logic.{◌↔◌, inl, inr, ⊎_elim}
use mathlib.Core.Bool.{Bool, true, false, not, ◌||◌}
use mathlib.Core.List.{List, [], ◌∷◌}
use native.Mathlib.Omega.{arith}
use lib.Dec.{ltb}
use lib.ListN.{length, drop, length-drop}
use borrow.Author.Tests.{ltb-true, ltb-false, lt-ltb, not-true}
use Rattle.ground.specs.Choice.{pick}
use Rattle.ground.proofs.LawsTests.{never}
use Rattle.ground.proofs.LawsGrounds.{accepts, refuses, reads_number}
use Rattle.bits.specs.Bits.{Below}
use Rattle.bits.proofs.LawsBelow.{below_drop}
use Rattle.row.specs.Promises.{most_words}
use Rattle.row.proofs.LawsField.{words_at_most}
use Rattle.copies.specs.Copies.{copy_at, same_as}
use Rattle.copies.proofs.LawsSame.{same_refl, same_equal}
use Rattle.copies.proofs.LawsAgreed.{each}
use Rattle.block.specs.Promises.{Accepted}
use Rattle.block.proofs.KeepsReader.{accepts_exactly, words_cut}
use Rattle.block.proofs.KeepsAltered.{finds_altered}
use Rattle.recording.specs.Fields.{Field}
use Rattle.recording.specs.declared.Line.{Line}
use Rattle.recording.proofs.KeepsLines.{gives_fields, block_line}
use Rattle.made.specs.Made.{made, makes}
use Rattle.made.specs.Promises.{MakesBlock}
use Rattle.made.proofs.LawsMade.{made_so, made_equal}
use Rattle.made.proofs.KeepsMade.{makes_exactly, made_bytes}
use Rattle.salvaging.specs.Pieces.{copy_of, start_from, Piece, block, span, pieces_of, field_by, fields_of, recording_of, differs, changed_by, report_of, words_over}
use Rattle.salvaging.specs.Answers.{SalvageAnswer, bytes_for, numbers_for, small_rooms, no_block, refusal_of, refused_salvaged, done_salvaged, salvaged_of, ahead, recording_after, report_after, scratch_after}
use Rattle.salvaging.specs.Promises.{FirstCopy, Right, Stands, Kept, Each, Records, Changes, TooSmall, NoBlock, RefusesExactly}
use Rattle.salvaging.proofs.LawsSearch.{start_none, start_found}
use Rattle.salvaging.proofs.KeepsSearch.{no_start, first_copy, searched}

-- ---- the blocks stand

module _ (input : List ℕ) (bytes : Below 256 input) where
  -- the block that a copy makes
  module _ {s n k : ℕ} (f : FirstCopy input s n k) where
    abbrev r : List ℕ
    r = drop s input

    so : makes k r ≡ true
    so = (makes_exactly.only k r f.block (below_drop 256 s input bytes) f.makes).0

    it : MakesBlock k r (made k r)
    it = makes_exactly.there k r (below_drop 256 s input bytes) so

    body_bytes : Below 256 (made k r)
    body_bytes = made_bytes k r (below_drop 256 s input bytes)

    few : it.meets.words ≤ most_words
    few = words_at_most _ _ _ _ it.meets.asks.suits

    takes : (lent : ℕ) → most_words ≤ lent → Accepted (made k r) lent
    takes lent l = accepts_exactly.accepts (made k r) lent body_bytes it.meets (omega (arith, few))

    stands : Stands (made k r)
    stands =
        record {
          copy = copy_at k r;
          equal = made_equal k r (made_so k r so).one (made_so k r so).inside;
          meets = it.meets;
          accepted = takes;
          words = λ room l. words_cut (made k r) room body_bytes it.meets (omega (arith, few));
          copies = λ other room l g d. finds_altered.copies (made k r) other (copy_at k r) room g (takes (length room) l) d;
          field = λ other room l g a d. finds_altered.field (made k r) other (copy_at k r) room g (takes (length room) l) a d;
        }

    pub kept : Kept (field_by k (drop s input))
    kept =
        record {
          tag = refl;
          stands = stands;
          listed = λ before. ap (λ (l : Line). l.answer) (block_line before (made k r) most_words body_bytes it.meets few);
        }

  pub each_of : (P : Field → Type 0) → ((s n k : ℕ) → FirstCopy input s n k → P (field_by k (drop s input))) → (ps : List Piece) → Right input ps → Each P (fields_of input ps)
  unfolding Right fields_of Each
  each_of P f [] g = tt
  each_of P f (block s n k ∷ ps) g = (f s n k g.0, each_of P f ps g.1)
  each_of P f (span s n ∷ ps) g = each_of P f ps g.1

pub records : Records
records =
    record {
      fields = λ input. (gives_fields (fields_of input (pieces_of input))).whole;
      each = λ input b. each_of input b Kept (λ s n k f. kept input b f) (pieces_of input) (searched input b).right;
    }

-- ---- the copies changed

module _ (k : ℕ) (rest : List ℕ) where
  differs_small : (j : ℕ) → differs j k rest ≤ 1
  unfolding differs
  differs_small j = by (same_as (copy_at j rest) (copy_at k rest))
    where
      by : (t : Bool) → pick t 0 1 ≤ 1
      by true = omega arith
      by false = omega arith

  differs_is : (j : ℕ) → (differs j k rest ≡ 1) ↔ (copy_at j rest ≡ copy_at k rest → ⊥)
  unfolding differs
  differs_is j = by (same_as (copy_at j rest) (copy_at k rest)) refl
    where
      by : (t : Bool) → same_as (copy_at j rest) (copy_at k rest) ≡ t → (◌≡◌ {A = ℕ} (pick t 0 1) 1) ↔ (copy_at j rest ≡ copy_at k rest → ⊥)
      by true e = ((λ z. absurd (omega arith)), λ f. absurd (f (same_equal (copy_at j rest) (copy_at k rest) e)))
      by false e = ((λ _ q. never (sym e ∙ ap (λ (x : List ℕ). same_as x (copy_at k rest)) q ∙ same_refl (copy_at k rest))), λ _. refl)

  mark_is : (j : ℕ) → j < 3 → changed_by k rest / 2 ^ j % 2 ≡ differs j k rest
  unfolding changed_by
  mark_is =
      let a = differs_small 0 in
      let b = differs_small 1 in
      let c = differs_small 2 in
      each (λ (j : ℕ). changed_by k rest / 2 ^ j % 2 ≡ differs j k rest) (omega arith) (omega arith) (omega arith)

  changed_small : changed_by k rest < 8
  unfolding changed_by
  changed_small = omega (arith, differs_small 0, differs_small 1, differs_small 2)

pub changes : Changes
changes k rest =
    let small = changed_small k rest in
    let each-is : (j : ℕ) → j < 3 → (changed_by k rest / 2 ^ j % 2 ≡ 1) ↔ (copy_at j rest ≡ copy_at k rest → ⊥) =
    λ j h. ((λ e. (differs_is k rest j).0 (sym (mark_is k rest j h) ∙ e)), λ f. mark_is k rest j h ∙ (differs_is k rest j).1 f) in
    (small, each-is)

-- ---- refusals

number_is : (input : List ℕ) (m r w : ℕ) → (salvaged_of input m r w).number ≡ refusal_of input m r w
unfolding salvaged_of
number_is input m r w = reads_number (done_salvaged input) refused_salvaged (λ (s : SalvageAnswer). s.number) refl (λ n. refl) (refusal_of input m r w)

-- what the two tests say
small_is : (n m r w : ℕ) → (small_rooms n m r w ≡ true) ↔ TooSmall n m r w
small_is n m r w = (
  to (ltb m (bytes_for n)) (ltb r (numbers_for n)) (ltb w most_words) refl refl refl,
  from,
)
  where
    to : (a b c : Bool) → ltb m (bytes_for n) ≡ a → ltb r (numbers_for n) ≡ b → ltb w most_words ≡ c → ((a || b) || c) ≡ true → TooSmall n m r w
    to true b c ea eb ec h = inl (ltb-true m (bytes_for n) ea)
    to false true c ea eb ec h = inr (inl (ltb-true r (numbers_for n) eb))
    to false false true ea eb ec h = inr (inr (ltb-true w most_words ec))
    to false false false ea eb ec h = never h

    second : (a c : Bool) → ((a || true) || c) ≡ true
    second true c = refl
    second false c = refl

    third : (a : Bool) → (a || true) ≡ true
    third true = refl
    third false = refl

    from : TooSmall n m r w → small_rooms n m r w ≡ true
    from =
        ⊎_elim (λ l. ap (λ (t : Bool). (t || ltb r (numbers_for n)) || ltb w most_words) (lt-ltb m (bytes_for n) l))
        (⊎_elim (λ l. ap (λ (t : Bool). (ltb m (bytes_for n) || t) || ltb w most_words) (lt-ltb r (numbers_for n) l) ∙ second (ltb m (bytes_for n)) (ltb w most_words))
        (λ l. ap (λ (t : Bool). (ltb m (bytes_for n) || ltb r (numbers_for n)) || t) (lt-ltb w most_words l) ∙ third (ltb m (bytes_for n) || ltb r (numbers_for n))))

module _ (input : List ℕ) (bytes : Below 256 input) where
  none_is : (no_block input ≡ true) ↔ NoBlock input
  none_is = (
    λ e s k b m.
        let h = ltb-false (start_from 0 input) (length input) (not-true (ltb (start_from 0 input) (length input)) e) in
        let l : s < length input = inside s k b m in
        no_start input bytes s k b (start_none 0 input (omega arith) s (omega arith) (omega arith)) m,
    λ n. by n (ltb (start_from 0 input) (length input)) refl,
  )
    where
      inside : (s k : ℕ) (b : List ℕ) → MakesBlock k (drop s input) b → s < length input
      inside s k b m = omega (arith, m.inside, makes_exactly.least k (drop s input) b m, length-drop s input)

      by : NoBlock input → (t : Bool) → ltb (start_from 0 input) (length input) ≡ t → not t ≡ true
      by n true e =
          let f = first_copy input bytes (start_from 0 input) (start_found 0 input (omega arith) (ltb-true (start_from 0 input) (length input) e)) in
          absurd (n (start_from 0 input) (copy_of (drop (start_from 0 input) input)) f.block f.makes)
      by n false e = refl

-- the number of two tests, one after the other
abbrev number : (t u : Bool) → ℕ
number t u = pick t 9 (pick u 18 0)

nine_is : (t u : Bool) → (number t u ≡ 9) ↔ (t ≡ true)
nine_is true u = ((λ _. refl), λ _. refl)
nine_is false true = ((λ e. absurd (omega arith)), λ e. never e)
nine_is false false = ((λ e. absurd (omega arith)), λ e. never e)

eighteen_is : (t u : Bool) → (number t u ≡ 18) ↔ ((t ≡ false) × (u ≡ true))
eighteen_is true u = ((λ e. absurd (omega arith)), λ e. never (sym e.0))
eighteen_is false true = ((λ _. (refl, refl)), λ _. refl)
eighteen_is false false = ((λ e. absurd (omega arith)), λ e. never e.1)

zero_else : (t u : Bool) → (number t u ≡ 9 → ⊥) → (number t u ≡ 18 → ⊥) → number t u ≡ 0
zero_else true u f g = absurd (f refl)
zero_else false true f g = absurd (g refl)
zero_else false false f g = refl

not_small : (t : Bool) → (t ≡ true → ⊥) → t ≡ false
not_small true f = absurd (f refl)
not_small false f = refl

module _ (input : List ℕ) (m r w : ℕ) where
  abbrev small : Bool
  small = small_rooms (length input) m r w

  number_of : (salvaged_of input m r w).number ≡ number small (no_block input)
  unfolding refusal_of
  number_of = number_is input m r w

  nine_exactly : ((salvaged_of input m r w).number ≡ 9) ↔ TooSmall (length input) m r w
  nine_exactly =
      let n = nine_is small (no_block input) in
      let s = small_is (length input) m r w in
      ((λ e. s.0 (n.0 (sym number_of ∙ e))), λ t. number_of ∙ n.1 (s.1 t))

  eighteen_exactly : Below 256 input → ((salvaged_of input m r w).number ≡ 18) ↔ ((TooSmall (length input) m r w → ⊥) × NoBlock input)
  eighteen_exactly b =
      let n = eighteen_is small (no_block input) in
      let s = small_is (length input) m r w in
      let e = none_is input b in (
        (λ q. let x = n.0 (sym number_of ∙ q) in ((λ t. never (sym x.0 ∙ s.1 t)), e.0 x.1)),
        λ x. number_of ∙ n.1 (not_small small (λ t. x.0 (s.0 t)), e.1 x.1),
      )

  others_zero : ((salvaged_of input m r w).number ≡ 9 → ⊥) → ((salvaged_of input m r w).number ≡ 18 → ⊥) → (salvaged_of input m r w).number ≡ 0
  others_zero f g = number_of ∙ zero_else small (no_block input) (λ e. f (number_of ∙ e)) (λ e. g (number_of ∙ e))

  refused_zeros : ((salvaged_of input m r w).number ≡ 0 → ⊥) → salvaged_of input m r w ≡ refused_salvaged (salvaged_of input m r w).number
  unfolding salvaged_of
  refused_zeros f = sym (refuses (done_salvaged input) refused_salvaged (sym (number_is input m r w)) f)

pub refuses_exactly : RefusesExactly
unfolding recording_after report_after scratch_after
refuses_exactly =
    record {
      nine = nine_exactly;
      eighteen = eighteen_exactly;
      others = others_zero;
      zeros = refused_zeros;
      recorded = λ input room r w f. sym (refuses (ahead (recording_of input (pieces_of input)) room) (λ (_ : ℕ). room) (sym (number_is input (length room) r w)) f);
      reported = λ input room m w f. sym (refuses (ahead (report_of input (pieces_of input)) room) (λ (_ : ℕ). room) (sym (number_is input m (length room) w)) f);
      worded = λ input room m r f. sym (refuses (words_over input (pieces_of input) room) (λ (_ : ℕ). room) (sym (number_is input m r (length room))) f);
    }

-- ---- and what is given where none is

module _ (input : List ℕ) where
  pub done_answer : (m r w : ℕ) → (salvaged_of input m r w).number ≡ 0 → salvaged_of input m r w ≡ done_salvaged input
  unfolding salvaged_of
  done_answer m r w z = sym (accepts (done_salvaged input) refused_salvaged (sym (number_is input m r w) ∙ z))

  pub done_recording : (room : List ℕ) (r w : ℕ) → (salvaged_of input (length room) r w).number ≡ 0 → recording_after input room r w ≡ ahead (recording_of input (pieces_of input)) room
  unfolding recording_after
  done_recording room r w z = sym (accepts (ahead (recording_of input (pieces_of input)) room) (λ (_ : ℕ). room) (sym (number_is input (length room) r w) ∙ z))

  pub done_report : (m : ℕ) (room : List ℕ) (w : ℕ) → (salvaged_of input m (length room) w).number ≡ 0 → report_after input m room w ≡ ahead (report_of input (pieces_of input)) room
  unfolding report_after
  done_report m room w z = sym (accepts (ahead (report_of input (pieces_of input)) room) (λ (_ : ℕ). room) (sym (number_is input m (length room) w) ∙ z))

  pub done_words : (m r : ℕ) (room : List ℕ) → (salvaged_of input m r (length room)).number ≡ 0 → scratch_after input m r room ≡ words_over input (pieces_of input) room
  unfolding scratch_after
  done_words m r room z = sym (accepts (words_over input (pieces_of input) room) (λ (_ : ℕ). room) (sym (number_is input m r (length room)) ∙ z))
