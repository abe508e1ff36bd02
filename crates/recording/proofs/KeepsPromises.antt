-- `found_at` reads a recording field by field: the bytes behind what came before are those of the next field. Each line has the number after
-- that of the line before it, so that the last one's is the count of the fields.
-- Assumes nothing.
use mathlib.Core.Path.{◌≡◌, refl, sym, ap, ap₂, ◌∙◌}
use mathlib.Core.Bool.{Bool, true, false}
use mathlib.Core.List.{List, [], ◌∷◌, ◌++◌}
use Prim.Native.Nat.{ℕ, ◌+◌, ◌*◌, ◌/◌, ◌%◌, ◌<◌, ◌≤◌}
use native.Mathlib.Nat.{add-zero, div-add-mod'}
use native.Mathlib.Omega.{arith}
use borrow.Author.Tests.{le-leb, lt-leb, lt-ltb, le-ltb, ltb-false}
use lib.Dec.{eqb, ltb}
use lib.ListN.{length, get_or, take, drop, length-append}
use lib.Seq.{get_or-append-add, get_or-take, drop-append-add, take_at, length-take-le}
use Rattle.ground.specs.Choice.{pick}
use Rattle.ground.proofs.LawsChoice.{yes, no, either}
use Rattle.block.specs.Answers.{answer_of}
use Rattle.block.proofs.KeepsReader.{nine_never as small}
use Rattle.recording.specs.Fields.{Field, written, joined}
use Rattle.recording.specs.Found.{front_length, length_at, found_at, answered}
use Rattle.recording.specs.Lines.{most_fields, holds_block, line_of, count_after}
use Rattle.recording.specs.Promises.{Reads, HighFirst, NineNever, Counts}
use Rattle.recording.proofs.LawsLines.{line_seq, seq_next}
use Rattle.recording.specs.declared.Line.{Line}
use Rattle.recording.specs.declared.Found.TheVariants.{Whole, Cut}

pub high_first : HighFirst
unfolding found_at
high_first = refl

length_written : (f : Field) → length (written f) ≡ front_length + length f.body
length_written f = omega arith

-- the length of a body, from its two bytes
length_spelled : (n : ℕ) → n / 256 * 256 + n % 256 ≡ n
length_spelled n = div-add-mod' n 256

module _ (pre : List ℕ) where
  -- the first byte behind what came before
  at_zero : (s : List ℕ) → get_or (pre ++ s) (length pre) 0 ≡ get_or s 0 0
  at_zero s = ap (λ (n : ℕ). get_or (pre ++ s) n 0) (sym (add-zero (length pre))) ∙ get_or-append-add pre s 0 0

  length_behind : (s : List ℕ) → length_at (pre ++ s) (length pre) ≡ length_at s 0
  length_behind s = ap₂ (λ (x y : ℕ). x * 256 + y) (get_or-append-add pre s 1 0) (get_or-append-add pre s 2 0)

  pub whole : (f : Field) (rest : List ℕ) → found_at (pre ++ (written f ++ rest)) (length pre) ≡ Whole f.tag (length pre + front_length) (length f.body)
  unfolding found_at
  whole f rest =
      let s = pre ++ (written f ++ rest) in
      let n = length f.body in
      let said : length_at s (length pre) ≡ n = length_behind (written f ++ rest) ∙ length_spelled n in
      let long : length s ≡ length pre + (front_length + n + length rest) = length-append pre (written f ++ rest) ∙ omega (arith, length-append (written f) rest) in
      sym
      (no _ refl (lt-leb (length s) (length pre) (omega arith))
      (no _ refl (le-ltb (length s) (length pre + front_length) (omega arith))
      (no _ refl (le-ltb (length s) (length pre + front_length + length_at s (length pre)) (omega arith))
      (sym (ap₂ (λ (t m : ℕ). Whole t (length pre + front_length) m) (at_zero (written f ++ rest)) said)))))

  body : (f : Field) (rest : List ℕ) → take (length f.body) (drop (length pre + front_length) (pre ++ (written f ++ rest))) ≡ f.body
  body f rest =
      ap (take (length f.body)) (drop-append-add pre (written f ++ rest) front_length) ∙ take_at f.body rest (length f.body) refl

  module _ (f : Field) (k : ℕ) (some : 0 < k) (short : k < length (written f)) where
    stopped : List ℕ
    stopped = pre ++ take k (written f)

    length_stopped : length stopped ≡ length pre + k
    unfolding stopped
    length_stopped = length-append pre (take k (written f)) ∙ ap (λ (n : ℕ). length pre + n) (length-take-le k (written f) (omega arith))

    -- where both bytes of the length are there, they say the body's
    said : front_length ≤ k → length_at stopped (length pre) ≡ length f.body
    unfolding stopped
    said h =
        length_behind (take k (written f))
        ∙ ap₂ (λ (x y : ℕ). x * 256 + y) (get_or-take k (written f) 1 0 (omega arith)) (get_or-take k (written f) 2 0 (omega arith)) ∙ length_spelled (length f.body)

    cut_by : (t : Bool) → ltb (length stopped) (length pre + front_length) ≡ t
        → Cut ≡ pick (ltb (length stopped) (length pre + front_length)) Cut
        (pick (ltb (length stopped) (length pre + front_length + length_at stopped (length pre))) Cut
        (Whole (get_or stopped (length pre) 0) (length pre + front_length) (length_at stopped (length pre))))
    cut_by true e = yes _ refl e refl
    cut_by false e =
        let h : front_length ≤ k = omega (arith, length_stopped, ltb-false (length stopped) (length pre + front_length) e) in
        no _ refl e
        (yes _ refl (lt-ltb (length stopped) (length pre + front_length + length_at stopped (length pre)) (omega (arith, length_stopped, said h, length_written f))) refl)

    pub cut : found_at (pre ++ take k (written f)) (length pre) ≡ Cut
    unfolding found_at stopped
    cut = sym (no _ refl (lt-leb (length stopped) (length pre) (omega (arith, length_stopped))) (cut_by _ refl))

pub reads : (before : List Field) → Reads before
unfolding found_at
reads before = record {
  whole = λ f rest. ap answered (whole (joined before) f rest);
  body = λ f rest. body (joined before) f rest;
  cut = λ f k some short. ap answered (cut (joined before) f k some short);
  end = ap answered (sym (yes _ refl (le-leb (length (joined before)) (length (joined before)) (omega arith)) refl));
}

pub nine_never : NineNever
unfolding line_of
nine_never before tag body room enough =
    either (λ (l : Line). l.answer ≡ 9 → ⊥) (holds_block tag)
    (λ _. either (λ (l : Line). l.answer ≡ 9 → ⊥) (eqb (answer_of body room).number 0) (λ _ e. omega arith) (λ _. small body room enough))
    (λ _ e. omega arith)

count_from : (before : ℕ) (fields : List Field) (room : ℕ) → before + length fields ≤ most_fields → count_after before fields room ≡ before + length fields
unfolding count_after
count_from before [] room h = sym (add-zero before)
count_from before (f ∷ fs) room h =
    let next : (line_of before f.tag f.body room).seq ≡ before + 1 = line_seq before f.tag f.body room ∙ seq_next before (omega arith) in
    ap (λ (n : ℕ). count_after n fs room) next ∙ count_from (before + 1) fs room (omega arith) ∙ omega arith

pub counts : (fields : List Field) → Counts fields
counts fields room h = count_from 0 fields room (omega arith) ∙ omega arith
