-- Each line of the listing fits the room that is lent for it, so that it is put whole: none is lost for want of room.
-- Assumes nothing.
use mathlib.Core.Path.{◌≡◌, refl, sym, ap, ◌∙◌}
use mathlib.Core.Bool.{Bool}
use mathlib.Core.List.{List}
use Prim.Native.Nat.{ℕ, ◌+◌, ◌≤◌, ◌<◌}
use native.Mathlib.Omega.{arith}
use borrow.Author.Tests.{le-leb}
use lib.Dec.{eqb}
use lib.ListN.{length, length-append}
use Rattle.ground.proofs.LawsChoice.{yes, either}
use Rattle.recording.specs.declared.Line.{Line}
use Rattle.text.specs.Texts.{decimal, put_length}
use Rattle.listing.specs.Texts.{block_text, refusal_text, line_text, last_word, last_text}
use Rattle.text.proofs.LawsDecimal.{decimal_fits}
use Rattle.listing.proofs.LawsTexts.{word_long, refusal_columns}

-- a text of some bytes, and of no more than there is room for
abbrev pub Fits : (room : ℕ) → List ℕ → Type 0
Fits room text = (0 < length text) × (length text ≤ room)

-- such a text is put whole
pub whole : (room text : List ℕ) → Fits (length room) text → put_length room text ≡ length text
whole room text h = sym (yes _ refl (le-leb (0 + length text) (length room) (omega (arith, h.1))) refl)

-- a number of 64 bits
abbrev pub Word : ℕ → Type 0
Word n = n < 18446744073709551616

-- the bytes of its column: at most twenty digits, and the one that ends it
abbrev column : ℕ → ℕ
column n = length (decimal n) + 1

column_fits : (n : ℕ) → Word n → column n ≤ 21
column_fits n h = omega (arith, decimal_fits n h)

-- the numbers of a line
abbrev pub Words : Line → Type 0
Words l = Word l.seq × (Word l.block × (Word l.version × (Word l.words × Word l.answer)))

block_fits : (l : Line) → Words l → Fits 105 (block_text l)
unfolding block_text
block_fits l (s, (b, (v, (w, a)))) =
    let rest = column l.version + (column l.words + column l.answer) in
    let long : length (block_text l) ≡ column l.seq + (column l.block + rest) = simp length-append in
    let front : column l.seq + column l.block ≤ 42 = omega (arith, column_fits l.seq s, column_fits l.block b) in
    let back : rest ≤ 63 = omega (arith, column_fits l.version v, column_fits l.words w, column_fits l.answer a) in
    (omega (arith, long), omega (arith, long, front, back))

refusal_fits : (l : Line) → Words l → Fits 105 (refusal_text l)
refusal_fits l (s, (b, (v, (w, a)))) =
    let long : length (refusal_text l) ≡ column l.seq + 6 + column l.answer =
    ap length (sym (refusal_columns l)) ∙ simp length-append in
    (omega (arith, long), omega (arith, long, column_fits l.seq s, column_fits l.answer a))

pub line_fits : (l : Line) → Words l → Fits 105 (line_text l)
unfolding line_text
line_fits l h = either (Fits 105) (eqb l.answer 0) {a = block_text l} {d = refusal_text l} (λ e. block_fits l h) (λ e. refusal_fits l h)

pub last_fits : (cut : Bool) (count : ℕ) → Word count → Fits 105 (last_text cut count)
unfolding last_text
last_fits cut count h =
    let long : length (last_text cut count) ≡ length (last_word cut) + column count = simp length-append in
    (omega (arith, long), omega (arith, long, word_long cut, column_fits count h))
