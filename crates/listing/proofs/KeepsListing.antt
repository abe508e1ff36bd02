-- The listing's lines are those of the fields that the recording gives, and its last line says what stands behind them.
-- Assumes nothing.
use mathlib.Core.Path.{◌≡◌, refl, sym, ap, ap₂, ◌∙◌}
use mathlib.Core.Bool.{Bool, true, false}
use mathlib.Core.List.{List, [], ◌∷◌, ◌++◌, append-nil, append_assoc}
use Prim.Native.Nat.{ℕ}
use native.Mathlib.Omega.{arith}
use borrow.Author.Tests.{ne_eqb}
use lib.ListN.{length}
use Rattle.ground.proofs.LawsChoice.{no}
use Rattle.block.specs.Answers.{answer_of}
use Rattle.recording.specs.Fields.{Field, Recording, written, joined, read_up_to, recording_of}
use Rattle.recording.specs.Lines.{seq_after, refused_line, line_of}
use Rattle.recording.specs.declared.Line.{Line}
use Rattle.recording.proofs.KeepsLines.{gives_fields, block_line, refused_line_is, other_line, short_line}
use Rattle.text.specs.Texts.{bytes_of, digits, decimal}
use Rattle.listing.specs.Texts.{first_text, block_text, refusal_text, line_text, last_text, lines_text, listing_of}
use Rattle.listing.specs.Promises.{PrintsExample, PrintsEmpty, PrintsCut, PrintsDashes}

-- the text of a refusal
dashes : (seq n : ℕ) → (n ≡ 0 → ⊥) → line_text (refused_line seq n) ≡ decimal seq ++ (bytes_of " - - - " ++ (decimal n ++ bytes_of "\n"))
unfolding line_text refusal_text
dashes seq n f = sym (no _ refl (ne_eqb n 0 f) refl) ∙ simp append_assoc

pub prints_dashes : PrintsDashes
unfolding decimal digits
prints_dashes = record {
  zeros = refused_line_is;
  refused = λ before body room f. ap line_text (refused_line_is before body room f) ∙ dashes (seq_after before) (answer_of body room).number f;
  other = λ before tag body room f. ap line_text (other_line before tag body room f) ∙ dashes (seq_after before) 15 (λ e. omega arith);
}

pub prints_empty : PrintsEmpty
unfolding read_up_to lines_text last_text decimal digits
prints_empty room = refl

two_joined : (f g : Field) → written f ++ written g ≡ joined (f ∷ g ∷ [])
unfolding joined
two_joined f g = ap (λ (l : List ℕ). written f ++ l) (sym (append-nil (written g)))

-- the four lines, from the two lines in between
four : (room : ℕ) (f g : Field) (x y : Line) → line_of 0 f.tag f.body room ≡ x → line_of 1 g.tag g.body room ≡ y
    → listing_of (record { fields = f ∷ g ∷ []; cut = false }) room ≡ first_text ++ ((line_text x ++ (line_text y ++ [])) ++ last_text false 2)
unfolding lines_text
four room f g x y e d = ap₂ (λ (p q : Line). first_text ++ ((line_text p ++ (line_text q ++ [])) ++ last_text false 2)) e d

pub prints_example : PrintsExample
unfolding line_text block_text refusal_text last_text decimal digits
prints_example block short room bytes m number version words enough long =
    let f : Field = record { tag = 1; body = block } in
    let g : Field = record { tag = 1; body = short } in
    let first : line_of 0 1 block room ≡ record { seq = 1; answer = 0; block = 3; version = 2; words = 20 } =
    block_line 0 block room bytes m (omega arith) ∙ (λ i. record { seq = 1; answer = 0; block = number i; version = version i; words = words i }) in
    ap (λ (r : Recording). listing_of r room) (ap recording_of (two_joined f g) ∙ (gives_fields (f ∷ g ∷ [])).whole)
    ∙ four room f g _ _ first (short_line 1 short room (omega arith))

pub prints_cut : PrintsCut
unfolding last_text
prints_cut fields f k room some short =
    let g = gives_fields fields in
    let lines = first_text ++ lines_text 0 fields room in
    let by : (end : Bool) → listing_of (record { fields = fields; cut = end }) room ≡ lines ++ last_text end (length fields) =
    λ end. sym (append_assoc first_text (lines_text 0 fields room) (last_text end (length fields))) in
    (lines, (ap (λ (r : Recording). listing_of r room) g.whole ∙ by false, ap (λ (r : Recording). listing_of r room) (g.stopped f k some short) ∙ by true))
