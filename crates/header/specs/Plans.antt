-- The grounds on which a header is refused, and what one that is not refused asks for.
-- Assumes nothing.
use Rattle.std.specs.Prelude.{ℕ, Bool, not, ◌||◌, List, [], ◌∷◌, eqb, ltb, length, Result, Ok, Err}
use Rattle.ground.specs.Choice.{pick}
use Rattle.ground.specs.Grounds.{Ground, ◌when◌, first_of}
use Rattle.ground.specs.declared.Refusal.{Refusal}
use Rattle.ground.specs.Refusals.{number_of}
use Rattle.row.specs.Rows.{last_block, last_version, permits}
use Rattle.copies.specs.Copies.{header_length}
use Rattle.header.specs.declared.Plan.{Plan}
use Rattle.header.specs.Says.{block_in, size_in, count_in, extra_words, words_in, version_in, row_in, bytes_in}

-- 4: a block id that is none of the known ones: it stands for a number over 11
abbrev pub unknown_block : List ℕ → Bool
unknown_block header = ltb last_block (block_in header)

-- 5: a version over 3
abbrev pub unknown_version : List ℕ → Bool
unknown_version header = ltb last_version (version_in header)

-- 6: a word size that the block's row has not
abbrev pub wrong_size : List ℕ → Bool
wrong_size header = not (eqb (row_in header).size (size_in header))

-- 7: a count that the block's row has not, or one below two
abbrev pub wrong_count : List ℕ → Bool
wrong_count header = ltb (count_in header) extra_words || not (permits (row_in header) (words_in header))

abbrev pub header_grounds : List ℕ → List Ground
header_grounds header = (4 when unknown_block header) ∷ (5 when unknown_version header) ∷ (6 when wrong_size header) ∷ (7 when wrong_count header) ∷ []

-- 1: a lent header that has not 28 bytes
abbrev pub not_header : List ℕ → Bool
not_header header = not (eqb (length header) header_length)

abbrev pub plan_grounds : List ℕ → List Ground
plan_grounds header = (1 when not_header header) ∷ header_grounds header

-- the answer as numbers: 0 and the plan, or a refusal's number and zeros
pub record PlanAnswer : Type 0 where
  pub number : ℕ
  pub block : ℕ
  pub version : ℕ
  pub size : ℕ
  pub records : ℕ
  pub words : ℕ
  pub bytes : ℕ

abbrev pub refused_plan : ℕ → PlanAnswer
refused_plan n = record { number = n; block = 0; version = 0; size = 0; records = 0; words = 0; bytes = 0 }

abbrev pub granted_plan : List ℕ → PlanAnswer
granted_plan header =
    record {
      number = 0;
      block = block_in header;
      version = version_in header;
      size = size_in header;
      records = (row_in header).records;
      words = words_in header;
      bytes = bytes_in header;
    }

unfoldable pub plan_of : List ℕ → PlanAnswer
plan_of header = pick (eqb (first_of (plan_grounds header)) 0) (granted_plan header) (refused_plan (first_of (plan_grounds header)))

-- what is told of an answer
abbrev pub told : Result Plan Refusal → PlanAnswer
told (Ok p) = record { number = 0; block = p.block; version = p.version; size = p.size; records = p.records; words = p.words; bytes = p.bytes }
told (Err r) = refused_plan (number_of r)
