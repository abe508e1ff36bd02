-- Recording and listing. What the listing prints is promised by the crate `listing` in the scope's own text, and cited. Assumes nothing.
use Rattle.std.specs.Prelude.{ℕ, ◌+◌, ◌/◌, ◌%◌, ◌<◌, ◌≡◌, List, ◌∷◌, length}
use Rattle.bits.specs.Bits.{Below}
use Rattle.block.specs.Answers.{answer_of}
use Rattle.recording.specs.declared.Line.{Line}
use Rattle.recording.specs.Fields.{Field, written}
use Rattle.recording.specs.Lines.{line_of}
use Rattle.recording.specs.Promises.{GivesFields}
use Rattle.listing.specs.Promises.{PrintsExample, PrintsEmpty, PrintsCut, PrintsDashes}
use Rattle.scope.specs.Demands.{Accepted, Meets}

-- the line of the field behind `before` others, numbered from 1; no recording has 2^64 of them
abbrev pub IsLine : (before tag : ℕ) (body : List ℕ) → ℕ → Line → Type 0
IsLine before tag body lent line = before < 18446744073709551615 → line_of before tag body lent ≡ line

pub record Listing : Type 0 where
  -- One field after another: a byte of tag, two bytes of length, high byte first, and a body. Whole ones in order, then whether it is cut.
  pub field : (f : Field) → written f ≡ f.tag ∷ length f.body / 256 ∷ length f.body % 256 ∷ f.body
  pub fields : (fs : List Field) → GivesFields fs
  -- With tag 1 the body is a block: its number, version and C, and 0; or the number of its refusal, and dashes. A tag that is not 1: 15.
  pub listed : (before lent : ℕ) (block : List ℕ) → Below 256 block → Accepted block lent → (m : Meets block)
      → IsLine before 1 block lent (record { seq = before + 1; answer = 0; block = m.asked.block; version = m.asked.version; words = m.asked.words })
  pub refused : (before lent : ℕ) (block : List ℕ) → (Accepted block lent → ⊥)
      → IsLine before 1 block lent (record { seq = before + 1; answer = (answer_of block lent).number; block = 0; version = 0; words = 0 })
  pub other : (before tag lent : ℕ) (body : List ℕ) → (tag ≡ 1 → ⊥)
      → IsLine before tag body lent (record { seq = before + 1; answer = 15; block = 0; version = 0; words = 0 })
  pub dashes : PrintsDashes
  pub example : PrintsExample
  pub empty : PrintsEmpty
  pub cut : PrintsCut
