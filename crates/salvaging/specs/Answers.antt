-- What a salvage answers, and what it leaves in what is lent.
-- Assumes nothing.
use Rattle.std.specs.Prelude.{ℕ, ◌+◌, ◌*◌, ◌/◌, Bool, not, ◌||◌, List, [], ◌∷◌, ◌++◌, eqb, ltb, length, drop, Result, Ok, Err}
use Rattle.ground.specs.Choice.{pick}
use Rattle.ground.specs.Grounds.{Ground, ◌when◌, first_of}
use Rattle.ground.specs.declared.Refusal.{Refusal}
use Rattle.ground.specs.Refusals.{number_of}
use Rattle.row.specs.Promises.{most_words}
use Rattle.salvaging.specs.declared.Salvaged.{Salvaged}
use Rattle.salvaging.specs.Pieces.{start_from, pieces_of, fields_of, recording_of, report_of, words_over}

-- no block is shorter
abbrev pub shortest_block : ℕ
shortest_block = 2772

-- so many bytes could be so many blocks: each has a front of 3 bytes in the recording, and a span before it in the report, with one behind
-- the last
abbrev pub bytes_for : ℕ → ℕ
bytes_for n = n + n / shortest_block * 3

abbrev pub numbers_for : ℕ → ℕ
numbers_for n = (n / shortest_block * 2 + 1) * 3

-- 9: less room than an input of so many bytes could need, in the recording, the report or the scratch words
abbrev pub small_rooms : (input recording report scratch : ℕ) → Bool
small_rooms n recording report scratch = (ltb recording (bytes_for n) || ltb report (numbers_for n)) || ltb scratch most_words

-- 18: no start has an acceptable block
abbrev pub no_block : List ℕ → Bool
no_block input = not (ltb (start_from 0 input) (length input))

abbrev pub grounds_of : List ℕ → (recording report scratch : ℕ) → List Ground
grounds_of input recording report scratch = (9 when small_rooms (length input) recording report scratch) ∷ (18 when no_block input) ∷ []

unfoldable pub refusal_of : List ℕ → (recording report scratch : ℕ) → ℕ
refusal_of input recording report scratch = first_of (grounds_of input recording report scratch)

-- the answer as numbers: 0 and the counts, or a refusal's number and zeros
pub record SalvageAnswer : Type 0 where
  pub number : ℕ
  pub bytes : ℕ
  pub entries : ℕ
  pub blocks : ℕ

-- every count in a refusal is zero
abbrev pub refused_salvaged : ℕ → SalvageAnswer
refused_salvaged n = record { number = n; bytes = 0; entries = 0; blocks = 0 }

abbrev pub done_salvaged : List ℕ → SalvageAnswer
done_salvaged input =
    record {
      number = 0;
      bytes = length (recording_of input (pieces_of input));
      entries = length (pieces_of input);
      blocks = length (fields_of input (pieces_of input));
    }

unfoldable pub salvaged_of : List ℕ → (recording report scratch : ℕ) → SalvageAnswer
salvaged_of input m r w = pick (eqb (refusal_of input m r w) 0) (done_salvaged input) (refused_salvaged (refusal_of input m r w))

-- what is told of an answer
abbrev pub told : Result Salvaged Refusal → SalvageAnswer
told (Ok s) = record { number = 0; bytes = s.bytes; entries = s.entries; blocks = s.blocks }
told (Err r) = refused_salvaged (number_of r)

-- acceptance puts what it makes at the front of the room, and changes nothing behind it; a refusal leaves the room as it was
abbrev pub ahead : (new room : List ℕ) → List ℕ
ahead new room = new ++ drop (length new) room

unfoldable pub recording_after : (input recording : List ℕ) (report scratch : ℕ) → List ℕ
recording_after input recording r w =
    pick (eqb (refusal_of input (length recording) r w) 0) (ahead (recording_of input (pieces_of input)) recording) recording

unfoldable pub report_after : (input : List ℕ) (recording : ℕ) (report : List ℕ) (scratch : ℕ) → List ℕ
report_after input m report w = pick (eqb (refusal_of input m (length report) w) 0) (ahead (report_of input (pieces_of input)) report) report

unfoldable pub scratch_after : (input : List ℕ) (recording report : ℕ) (scratch : List ℕ) → List ℕ
scratch_after input m r scratch = pick (eqb (refusal_of input m r (length scratch)) 0) (words_over input (pieces_of input) scratch) scratch
