-- The columns of an entry's line, one behind the other, are its text; and each line fits 54 bytes.
-- Assumes nothing.
use mathlib.Core.Path.{◌≡◌, refl, sym, ap, ◌∙◌}
use mathlib.Core.Bool.{Bool, true, false}
use mathlib.Core.List.{List, ◌++◌, append_assoc}
use Prim.Native.Nat.{ℕ, ◌+◌, ◌/◌, ◌%◌, ◌<◌, ◌≤◌}
use native.Mathlib.Omega.{arith}
use borrow.Author.Tests.{le-leb}
use lib.Dec.{eqb}
use lib.ListN.{length, length-append}
use Rattle.ground.specs.Choice.{pick}
use Rattle.ground.proofs.LawsChoice.{yes}
use Rattle.text.specs.Texts.{bytes_of, digits, decimal, ended, put_length}
use Rattle.text.proofs.LawsPut.{column_fits}
use Rattle.report.specs.Texts.{kind_text, number_where, joined_text, changed_text, entry_text, last_text}

abbrev spaced : ℕ → List ℕ
spaced n = ended (decimal n) 0x20

pub entry_columns : (start bytes found : ℕ) → spaced start ++ spaced bytes ++ ended (kind_text found) 0x20 ++ ended (changed_text found) 0x0A ≡ entry_text start bytes found
unfolding entry_text
entry_columns start bytes found = simp append_assoc

pub kind_short : (found : ℕ) → length (ended (kind_text found) 0x20) ≤ 6
kind_short found = by (eqb found 8)
  where
    by : (t : Bool) → length (ended (pick t (bytes_of "span") (bytes_of "block")) 0x20) ≤ 6
    by true = omega arith
    by false = omega arith

three : (p q r : Bool) → length (ended (joined_text (number_where 1 p ++ (number_where 2 q ++ number_where 3 r))) 0x0A) ≤ 6
unfolding decimal digits
three false false false = omega arith
three true false false = omega arith
three false true false = omega arith
three true true false = omega arith
three false false true = omega arith
three true false true = omega arith
three false true true = omega arith
three true true true = omega arith

pub changed_short : (found : ℕ) → length (ended (changed_text found) 0x0A) ≤ 6
unfolding changed_text
changed_short found = three (eqb (found % 2) 1) (eqb (found / 2 % 2) 1) (eqb (found / 4 % 2) 1)

-- ---- each line fits

-- a text of some bytes, and of no more than there is room for
abbrev pub Fits : (room : ℕ) → List ℕ → Type 0
Fits room text = (0 < length text) × (length text ≤ room)

-- a number of 64 bits
abbrev pub Word : ℕ → Type 0
Word n = n < 18446744073709551616

pub entry_fits : (start bytes found : ℕ) → Word start → Word bytes → Fits 54 (entry_text start bytes found)
entry_fits start bytes found s b =
    let long : length (entry_text start bytes found) ≡ length (spaced start) + length (spaced bytes) + length (ended (kind_text found) 0x20) + length (ended (changed_text found) 0x0A) =
    ap length (sym (entry_columns start bytes found)) ∙ simp length-append in
    let some : 0 < length (spaced start) = omega (arith, length-append (decimal start) (bytes_of " ")) in
    (omega (arith, long), omega (arith, long, column_fits start 0x20 s, column_fits bytes 0x20 b, kind_short found, changed_short found))

pub last_fits : (blocks : ℕ) → Word blocks → Fits 54 (last_text blocks)
unfolding last_text
last_fits blocks h = (omega arith, omega (arith, column_fits blocks 0x0A h))

-- such a text is put whole
pub whole : (room text : List ℕ) → Fits (length room) text → put_length room text ≡ length text
whole room text h = sym (yes _ refl (le-leb (0 + length text) (length room) (omega (arith, h.1))) refl)
