-- No text of the listing is empty, so that 0 bytes put are a text that did not fit.
-- Assumes nothing.
use Prim.Native.Nat.{ℕ, ◌<◌}
use native.Mathlib.Omega.{arith}
use mathlib.Core.Path.{◌≡◌, refl, ap, ◌∙◌}
use mathlib.Core.Bool.{Bool, true, false}
use mathlib.Core.List.{List, [], ◌∷◌, ◌++◌}
use lib.Dec.{eqb}
use lib.ListN.{length, length-append}
use borrow.Author.Tests.{ne_eqb}
use Rattle.ground.specs.Choice.{pick}
use Rattle.ground.proofs.LawsChoice.{either}
use Rattle.room.specs.Laid.{inside, laid_inside}
use Rattle.recording.specs.declared.Line.{Line}
use Rattle.text.specs.Texts.{decimal, ended, put_length}
use Rattle.listing.specs.Texts.{last_word, block_text, refusal_text, first_text, line_text, last_text}
use Rattle.listing.proofs.LawsTexts.{word_long}
use Rattle.c_recording.specs.Told.{put_number, number_by}

some : (column rest : List ℕ) (end : ℕ) → 0 < length (ended column end ++ rest)
some column rest end = omega (arith, length-append (ended column end) rest, length-append column (end ∷ []))

pub first_some : 0 < length first_text
first_some = omega arith

pub line_some : (l : Line) → 0 < length (line_text l)
unfolding line_text block_text refusal_text
line_some l = either (λ (t : List ℕ). 0 < length t) (eqb l.answer 0) (λ _. some (decimal l.seq) _ 0x20) (λ _. some (decimal l.seq) _ 0x20)

pub last_some : (cut : Bool) (count : ℕ) → 0 < length (last_text cut count)
unfolding last_text
last_some cut count = omega (arith, word_long cut, length-append (last_word cut) (ended (decimal count) 0x0A))

by_length : (fits : Bool) (n : ℕ) → 0 < n → number_by (pick fits n 0) ≡ pick fits 0 9
by_length true n h = rw (ne_eqb n 0 (λ z. omega arith))
by_length false n h = refl

-- what is answered of a text that was put, with the number by its length
pub told : (room text : List ℕ) {put number : ℕ} {after : List ℕ} → 0 < length text → (put ≡ put_length room text) × (after ≡ laid_inside room 0 text) → number ≡ number_by put
    → (number ≡ put_number room text) × ((put ≡ put_length room text) × (after ≡ laid_inside room 0 text))
told room text h e n = (n ∙ ap number_by e.0 ∙ by_length (inside room 0 text) (length text) h, e)
