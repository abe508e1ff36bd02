-- The three ends of a line: another tag, a block refused, a block listed, which has a plan. Nothing is lost in the line that is told.
-- Assumes nothing.
use mathlib.Core.Path.{◌≡◌, refl, sym, ap, ◌∙◌}
use mathlib.Core.List.{List, ◌++◌}
use Prim.Native.Nat.{ℕ, ◌+◌, ◌<◌}
use borrow.Author.Tests.{eq-eqb, ne_eqb, lt-ltb}
use lib.Dec.{eqb}
use lib.ListN.{length}
use Rattle.std.specs.Prelude.{Result}
use Rattle.ground.specs.declared.Refusal.{Refusal}
use Rattle.ground.proofs.LawsRefusals.{told_once}
use Rattle.ground.proofs.LawsChoice.{yes, no, either}
use Rattle.ground.proofs.LawsGrounds.{none_first, first_none, none_split, accepts}
use Rattle.copies.specs.Copies.{header_in, copies_grounds}
use Rattle.header.specs.Plans.{PlanAnswer, header_grounds, plan_grounds, plan_of}
use Rattle.header.proofs.KeepsHeader.{plan_number}
use Rattle.block.specs.Grounds.{field_by, grounds_by, refusal_by, grounds_of, refusal_of}
use Rattle.block.specs.Answers.{Answer, accepted_answer, refused_answer, answer_of, room_after}
use Rattle.block.proofs.LawsReader.{refused_alike}
use Rattle.block.proofs.KeepsReader.{number_is}
use Rattle.recording.specs.declared.Line.{Line}
use Rattle.recording.specs.declared.Listed.{Listed}
use Rattle.recording.specs.Lines.{most_fields, seq_after, holds_block, refused_line, listed, told_line, line_by, line_of, room_listed}

-- a line has the number of its field, whatever it is answered
pub line_seq : (before tag : ℕ) (body : List ℕ) (room : ℕ) → (line_of before tag body room).seq ≡ seq_after before
unfolding line_of
line_seq before tag body room =
    either (λ (l : Line). l.seq ≡ seq_after before) (holds_block tag)
    (λ _. either (λ (l : Line). l.seq ≡ seq_after before) (eqb (answer_of body room).number 0) (λ _. refl) (λ _. refl))
    (λ _. refl)

pub seq_next : (before : ℕ) → before < most_fields → seq_after before ≡ before + 1
seq_next before h = sym (yes _ refl (lt-ltb before most_fields h) refl)

-- a block that is read has a plan
accepted_plan : (block : List ℕ) (room : ℕ) → (answer_of block room).number ≡ 0 → (plan_of (answer_of block room).header).number ≡ 0
unfolding answer_of refusal_of refusal_by
accepted_plan block room z =
    let h = header_in block in
    let none : refusal_of block room ≡ 0 = sym (number_is block room) ∙ z in
    let all = first_none (grounds_of block h room) refl none in
    let copies = none_first (copies_grounds block) (none_split (copies_grounds block) (header_grounds h ++ field_by h block room) all).0 in
    let by : refusal_by h block room ≡ 0 = sym (refused_alike block room copies) ∙ none in
    ap (λ (a : Answer). (plan_of a.header).number) (sym (accepts (accepted_answer block) refused_answer none))
    ∙ plan_number h ∙ none_first (plan_grounds h) (none_split (plan_grounds h) (field_by h block room) (first_none (grounds_by h block room) refl by)).0

-- two results of which the same line is told are equal
pub line_told_once : (seq : ℕ) {r s : Result Listed Refusal} → told_line seq r ≡ told_line seq s → r ≡ s
line_told_once seq e =
    told_once (told_line seq) (λ l. l.answer) (λ l. record { block = l.block; version = l.version; words = l.words }) (λ v. refl) (λ r. refl) (λ v. refl) e refl

-- ---- by the number of the line

module _ (seq tag : ℕ) (body room : List ℕ) where
  abbrev pub EndsBy : Line → List ℕ → Type 0
  EndsBy line after = (line ≡ line_by seq tag body (length room)) × (after ≡ room_listed tag body room)

  pub other_tag_by : (tag ≡ 1 → ⊥) → EndsBy (refused_line seq 15) room
  unfolding room_listed
  other_tag_by f = (no _ refl (ne_eqb tag 1 f) refl, no _ refl (ne_eqb tag 1 f) refl)

  module _ (t : tag ≡ 1) {a : Answer} {after : List ℕ} (e : a ≡ answer_of body (length room)) (r : after ≡ room_after body room) where
    -- what is said of the answer is said of the line
    block_line_by : {line : Line} → line ≡ listed seq a → EndsBy line after
    unfolding room_listed
    block_line_by l = (yes _ refl (eq-eqb tag 1 t) (l ∙ ap (listed seq) e), yes _ refl (eq-eqb tag 1 t) r)

    pub block_refused_by : (a.number ≡ 0 → ⊥) → EndsBy (refused_line seq a.number) after
    block_refused_by f = block_line_by (no _ refl (ne_eqb a.number 0 f) refl)

    module _ (z : a.number ≡ 0) {p : PlanAnswer} (q : p ≡ plan_of a.header) where
      pub planned : p.number ≡ 0
      planned =
          ap (λ (x : PlanAnswer). x.number) q ∙ ap (λ (x : Answer). (plan_of x.header).number) e
          ∙ accepted_plan body (length room) (sym (ap (λ (x : Answer). x.number) e) ∙ z)

      pub block_listed_by : EndsBy (record { seq = seq; answer = 0; block = p.block; version = p.version; words = a.words }) after
      block_listed_by =
          block_line_by
          (yes _ refl (eq-eqb a.number 0 z) (ap (λ (x : PlanAnswer). record { seq = seq; answer = 0; block = x.block; version = x.version; words = a.words }) q))

-- ---- behind so many fields

module _ (before tag : ℕ) (body room : List ℕ) {seq : ℕ} (numbered : seq ≡ seq_after before) where
  abbrev pub Ends : Line → List ℕ → Type 0
  Ends line after = (line ≡ line_of before tag body (length room)) × (after ≡ room_listed tag body room)

  -- a line by that number is the field's
  pub of_field : {line : Line} {after : List ℕ} → EndsBy seq tag body room line after → Ends line after
  unfolding line_of
  of_field both = (both.0 ∙ ap (λ (n : ℕ). line_by n tag body (length room)) numbered, both.1)

  pub other_tag : {line : Line} → (tag ≡ 1 → ⊥) → line ≡ refused_line seq 15 → Ends line room
  other_tag f l =
      let both = other_tag_by seq tag body room f in of_field (l ∙ both.0, both.1)

  pub block_refused : {line : Line} {a : Answer} {after : List ℕ} → tag ≡ 1 → a ≡ answer_of body (length room) → after ≡ room_after body room
      → (a.number ≡ 0 → ⊥) → line ≡ refused_line seq a.number → Ends line after
  block_refused t e r f l =
      let both = block_refused_by seq tag body room t e r f in of_field (l ∙ both.0, both.1)

  pub block_listed : {a : Answer} {p : PlanAnswer} {after : List ℕ} → tag ≡ 1 → a ≡ answer_of body (length room) → after ≡ room_after body room
      → a.number ≡ 0 → p ≡ plan_of a.header → Ends (record { seq = seq; answer = 0; block = p.block; version = p.version; words = a.words }) after
  block_listed t e r z q = of_field (block_listed_by seq tag body room t e r z q)
