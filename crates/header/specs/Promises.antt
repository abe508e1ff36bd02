-- What reading a header promises.
-- Assumes nothing.
use Rattle.std.specs.Prelude.{ℕ, ◌-◌, ◌≡◌, List, ◌∷◌, length, set, replicate}
use Rattle.row.specs.Rows.{records_in}
use Rattle.row.specs.Field.{field_bytes}
use Rattle.copies.specs.Copies.{header_length}
use Rattle.header.specs.Plans.{PlanAnswer, plan_of, refused_plan}
use Rattle.header.specs.Says.{block_in, size_in, words_in, version_in}
use Rattle.header.specs.Asks.{Asks}

-- the plan of block b, version v, with C words of w bits
abbrev pub asked_plan : (b v w C : ℕ) → PlanAnswer
asked_plan b v w C = record { number = 0; block = b; version = v; size = w; records = records_in b v; words = C; bytes = field_bytes b C }

-- 28 bytes have a plan exactly where they ask for a block, and it is of what they ask for; a refusal is its number and zeros
pub record GrantsAsked : Type 0 where
  pub given : (h : List ℕ) (b v w C : ℕ) → length h ≡ header_length → Asks h b v w C → plan_of h ≡ asked_plan b v w C
  pub only : (h : List ℕ) → (plan_of h).number ≡ 0 → (length h ≡ header_length) × Asks h (block_in h) (version_in h) (size_in h) (words_in h)
  pub zeros : (h : List ℕ) → ((plan_of h).number ≡ 0 → ⊥) → plan_of h ≡ refused_plan (plan_of h).number

-- words 1 to 4 and 8 are the first four bytes and the eighth: 3, 10, a count of 20 and two more, 2
abbrev pub WordsInPlace : Type 0
WordsInPlace = plan_of (3 ∷ 10 ∷ 0 ∷ 22 ∷ 0 ∷ 0 ∷ 0 ∷ 2 ∷ replicate 20 0) ≡ asked_plan 3 2 10 20

-- data that is marked not valid is read all the same: what word 9 holds changes no plan
abbrev pub MarkUnread : Type 0
MarkUnread = (h : List ℕ) (mark : ℕ) → plan_of (set h (9 - 1) mark) ≡ plan_of h
