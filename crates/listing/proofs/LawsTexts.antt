-- The columns of a line, one behind the other, are its text.
-- Assumes nothing.
use mathlib.Core.Path.{◌≡◌, refl}
use mathlib.Core.Bool.{Bool, true, false}
use mathlib.Core.List.{List, ◌++◌, append_assoc}
use Prim.Native.Nat.{ℕ, ◌+◌}
use lib.ListN.{length}
use Rattle.recording.specs.declared.Line.{Line}
use Rattle.text.specs.Texts.{bytes_of, decimal, ended}
use Rattle.listing.specs.Texts.{block_text, refusal_text, last_word}

abbrev spaced : ℕ → List ℕ
spaced n = ended (decimal n) 0x20

pub block_columns : (l : Line) → spaced l.seq ++ spaced l.block ++ spaced l.version ++ spaced l.words ++ ended (decimal l.answer) 0x0A ≡ block_text l
unfolding block_text
block_columns l = simp append_assoc

pub refusal_columns : (l : Line) → spaced l.seq ++ bytes_of "- - - " ++ ended (decimal l.answer) 0x0A ≡ refusal_text l
unfolding refusal_text
refusal_columns l = simp append_assoc

pub word_long : (cut : Bool) → 4 ≡ 0 + length (last_word cut)
word_long true = refl
word_long false = refl
