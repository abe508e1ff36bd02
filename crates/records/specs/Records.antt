-- Detector records: where record k lies in the decoded words.
-- Assumes nothing.
use Rattle.std.specs.Prelude.{ℕ, zero, suc, ◌-◌, ◌*◌, ◌/◌, Bool, ◌||◌, List, [], ◌∷◌, ◌++◌, eqb, ltb, length, take, drop, Result, Ok, Err}
use Rattle.ground.specs.Choice.{pick}
use Rattle.ground.specs.Grounds.{Ground, ◌when◌, first_of}
use Rattle.ground.specs.declared.Refusal.{Refusal}
use Rattle.ground.specs.Refusals.{number_of}
use Rattle.header.specs.Says.{words_in, row_in}
use Rattle.header.specs.Plans.{plan_grounds}
use Rattle.records.specs.declared.Part.{Part}

-- the records of the block that a header asks for; blocks 0 and 11 have none
abbrev pub records_of : List ℕ → ℕ
records_of header = (row_in header).records

-- each record has its share of the C words
unfoldable pub record_length : List ℕ → ℕ
record_length header = words_in header / records_of header

-- with words counted from 0, record k starts at k - 1 times the length of a record
abbrev pub record_start : List ℕ → ℕ → ℕ
record_start header k = (k - 1) * record_length header

-- 13: a block without records, or a record that it has not
abbrev pub no_record : List ℕ → ℕ → Bool
no_record header k = eqb k 0 || ltb (records_of header) k

abbrev pub record_grounds : (header : List ℕ) (k words : ℕ) → List Ground
record_grounds header k words = (13 when no_record header k) ∷ (9 when ltb words (words_in header)) ∷ []

-- record access, for the header it is given: 1, 4, 5, 6, 7, then 13, then 9 for fewer than C words lent
abbrev pub grounds_of : (header : List ℕ) (k words : ℕ) → List Ground
grounds_of header k words = plan_grounds header ++ record_grounds header k words

unfoldable pub refusal_of : (header : List ℕ) (k words : ℕ) → ℕ
refusal_of header k words = first_of (grounds_of header k words)

-- the answer as numbers: 0 and where the record lies, or a refusal's number and an empty part
pub record PartAnswer : Type 0 where
  pub number : ℕ
  pub start : ℕ
  pub length : ℕ

abbrev pub refused_part : ℕ → PartAnswer
refused_part n = record { number = n; start = 0; length = 0 }

-- where the record lies; a refusal gives its number and an empty part
unfoldable pub part_of : (header : List ℕ) (k words : ℕ) → PartAnswer
part_of header k words =
    pick (eqb (refusal_of header k words) 0) (record { number = 0; start = record_start header k; length = record_length header }) (refused_part (refusal_of header k words))

-- what is told of an answer
abbrev pub told : Result Part Refusal → PartAnswer
told (Ok part) = record { number = 0; start = part.start; length = part.length }
told (Err r) = refused_part (number_of r)

-- the part of the words that it names
abbrev pub part_in : PartAnswer → List ℕ → List ℕ
part_in part words = take part.length (drop part.start words)

abbrev pub record_of : (header : List ℕ) (k : ℕ) (words : List ℕ) → List ℕ
record_of header k words = part_in (part_of header k (length words)) words

-- the first k records, joined in order
unfoldable pub joined_to : (header words : List ℕ) (k : ℕ) → List ℕ
joined_to header words zero = []
joined_to header words (suc k) = joined_to header words k ++ record_of header (suc k) words
