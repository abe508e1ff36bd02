-- A field in front is the first that is read, so that whole fields are read one after the other, whatever stands behind them. The line of a
-- field has what its block asks for, or the number of its refusal.
-- Assumes nothing.
use mathlib.Core.Path.{◌≡◌, refl, sym, ap, ap₂, ◌∙◌}
use mathlib.Core.Bool.{Bool, true, false}
use mathlib.Core.List.{List, [], ◌∷◌, ◌++◌, append-nil, append_assoc}
use Prim.Native.Nat.{ℕ, zero, suc, ◌≤◌, ◌<◌}
use native.Mathlib.Omega.{arith}
use borrow.Author.Tests.{eq-eqb, ne_eqb, lt-ltb}
use lib.ListN.{length, take, drop, length-append}
use lib.Seq.{take_at, drop_at, drop-append-add, length-take-le}
use Rattle.ground.specs.Grounds.{◌when◌}
use Rattle.ground.proofs.LawsChoice.{yes, no}
use Rattle.bits.specs.Bits.{Below}
use Rattle.copies.specs.Copies.{header_length, copies_length, too_short}
use Rattle.copies.proofs.LawsAgreed.{copy_long}
use Rattle.header.specs.Plans.{PlanAnswer, plan_of}
use Rattle.header.specs.Promises.{asked_plan}
use Rattle.header.proofs.KeepsHeader.{grants_asked}
use Rattle.block.specs.Answers.{answer_of}
use Rattle.block.specs.Meets.{Meets}
use Rattle.block.proofs.KeepsReader.{accepts_exactly, answers_truly, refuses_exactly}
use Rattle.recording.specs.Found.{found_at, end_of}
use Rattle.recording.specs.Fields.{Field, Recording, front_of, written, joined, started_by, read_up_to, recording_of}
use Rattle.recording.specs.Lines.{seq_after, refused_line, line_of}
use Rattle.recording.specs.Promises.{GivesFields}
use Rattle.recording.specs.declared.Found.{Found}
use Rattle.recording.proofs.KeepsPromises.{whole, cut}

-- ---- the fields

abbrev behind : Field → Recording → Recording
behind f r = record { fields = f ∷ r.fields; cut = r.cut }

first_field : (f : Field) (rest : List ℕ) (most : ℕ) → read_up_to (suc most) (written f ++ rest) ≡ behind f (read_up_to most rest)
unfolding read_up_to
first_field f rest most =
    let bytes = written f ++ rest in
    let n = length f.body in
    let front = front_of f.tag n in
    ap (λ (x : Found). started_by bytes x (read_up_to most (drop (end_of x) bytes))) (whole [] f rest)
    ∙ ap₂ (λ (b left : List ℕ). behind (record { tag = f.tag; body = b }) (read_up_to most left)) (take_at f.body rest n refl)
    (drop-append-add front (f.body ++ rest) n ∙ drop_at f.body rest n refl)

-- fields in front of what reads as r
abbrev after : List Field → Recording → Recording
after fs r = record { fields = fs ++ r.fields; cut = r.cut }

fields_then : (tail : List ℕ) (r : Recording) → ((most : ℕ) → length tail ≤ most → read_up_to most tail ≡ r)
    → (fs : List Field) (most : ℕ) → length (joined fs ++ tail) ≤ most → read_up_to most (joined fs ++ tail) ≡ after fs r
unfolding joined
fields_then tail r h [] most l = h most l
fields_then tail r h (f ∷ fs) zero l = absurd (omega arith)
fields_then tail r h (f ∷ fs) (suc most) l =
    let e : (written f ++ joined fs) ++ tail ≡ written f ++ (joined fs ++ tail) = append_assoc (written f) (joined fs) tail in
    let long = ap length e ∙ length-append (written f) (joined fs ++ tail) in
    ap (read_up_to (suc most)) e ∙ first_field f (joined fs ++ tail) most ∙ ap (behind f) (fields_then tail r h fs most (omega arith))

nothing_more : (most : ℕ) → read_up_to most [] ≡ record { fields = []; cut = false }
unfolding read_up_to found_at
nothing_more zero = refl
nothing_more (suc most) = refl

module _ (f : Field) (k : ℕ) (some : 0 < k) (short : k < length (written f)) where
  a_part : (most : ℕ) → length (take k (written f)) ≤ most → read_up_to most (take k (written f)) ≡ record { fields = []; cut = true }
  unfolding read_up_to
  a_part zero l = absurd (omega (arith, length-take-le k (written f) (omega arith)))
  a_part (suc most) l = ap (λ (x : Found). started_by (take k (written f)) x (read_up_to most (drop (end_of x) (take k (written f))))) (cut [] f k some short)

all_of : (fs : List Field) (end : Bool) → after fs (record { fields = []; cut = end }) ≡ record { fields = fs; cut = end }
all_of fs end = ap (λ (l : List Field). record { fields = l; cut = end }) (append-nil fs)

whole_fields : (fs : List Field) → recording_of (joined fs) ≡ record { fields = fs; cut = false }
whole_fields fs =
    ap recording_of (sym (append-nil (joined fs)))
    ∙ fields_then [] (record { fields = []; cut = false }) (λ most l. nothing_more most) fs (length (joined fs ++ [])) (omega arith)
    ∙ all_of fs false

pub gives_fields : (fields : List Field) → GivesFields fields
gives_fields fs = record {
  whole = whole_fields fs;
  stopped =
      λ f k some short.
      fields_then (take k (written f)) (record { fields = []; cut = true }) (a_part f k some short) fs (length (joined fs ++ take k (written f))) (omega arith) ∙ all_of fs true;
}

-- ---- lines

header_long : (block : List ℕ) (m : Meets block) → length (take header_length m.copy) ≡ header_length
header_long block m =
    let g = m.agreed in
    let long = sym (ap length g.there) ∙ copy_long block g.long g.place g.within in
    length-take-le header_length m.copy (omega arith)

-- a block that meets the specification is listed with what its header asks for
pub block_line : (before : ℕ) (block : List ℕ) (room : ℕ) → Below 256 block → (m : Meets block) → m.words ≤ room
    → line_of before 1 block room ≡ record { seq = seq_after before; answer = 0; block = m.number; version = m.version; words = m.words }
unfolding line_of
block_line before block room bytes m r =
    let a = answer_of block room in
    let plan : plan_of a.header ≡ asked_plan m.number m.version m.size m.words =
    ap plan_of (answers_truly.header block room bytes m r) ∙ grants_asked.given (take header_length m.copy) m.number m.version m.size m.words (header_long block m) m.asks in
    sym (yes _ refl (eq-eqb a.number 0 (accepts_exactly.accepts block room bytes m r)) refl)
    ∙ ap₂ (λ (p : PlanAnswer) (w : ℕ). record { seq = seq_after before; answer = 0; block = p.block; version = p.version; words = w }) plan (answers_truly.count block room bytes m r)

-- a refusal's other numbers are zero
pub refused_line_is : (before : ℕ) (body : List ℕ) (room : ℕ) → ((answer_of body room).number ≡ 0 → ⊥)
    → line_of before 1 body room ≡ record { seq = seq_after before; answer = (answer_of body room).number; block = 0; version = 0; words = 0 }
unfolding line_of
refused_line_is before body room f = sym (no _ refl (ne_eqb (answer_of body room).number 0 f) refl)

pub other_line : (before tag : ℕ) (body : List ℕ) (room : ℕ) → (tag ≡ 1 → ⊥) → line_of before tag body room ≡ refused_line (seq_after before) 15
unfolding line_of
other_line before tag body room f = sym (no _ refl (ne_eqb tag 1 f) refl)

-- fewer than 90 bytes are refusal 1
pub short_line : (before : ℕ) (body : List ℕ) (room : ℕ) → length body < copies_length → line_of before 1 body room ≡ refused_line (seq_after before) 1
short_line before body room h =
    let e = (refuses_exactly body room [] (1 when too_short body) _ refl).1 (tt, lt-ltb (length body) copies_length h) in
    refused_line_is before body room (λ z. omega (arith, e)) ∙ ap (refused_line (seq_after before)) e
