-- The promises of the header: its plan goes by the first ground that holds, and none holds exactly where it asks for a block.
-- Assumes nothing.
use Prim.Native.Nat.{ℕ, ◌≤◌}
use mathlib.Core.Path.{◌≡◌, refl, sym, ◌∙◌}
use mathlib.Core.List.{List}
use native.Mathlib.Omega.{arith}
use lib.Dec.{lit≤, eqb}
use lib.ListN.{length, get_or, set, length-set}
use lib.Seq.{get_or-set_other}
use borrow.Author.Tests.{eqb-true, not-false}
use Rattle.ground.specs.Grounds.{first_of}
use Rattle.ground.proofs.LawsChoice.{either}
use Rattle.ground.proofs.LawsGrounds.{accepts, refuses, reads_number, none_first, first_none}
use Rattle.row.specs.Rows.{records_in, row_of, permits}
use Rattle.row.specs.Field.{field_bits, field_bytes}
use Rattle.row.specs.Promises.{longest_field, Held}
use Rattle.row.proofs.LawsRow.{row_records}
use Rattle.row.proofs.LawsField.{words_held}
use Rattle.copies.specs.Copies.{header_length}
use Rattle.header.specs.Plans.{PlanAnswer, plan_grounds, header_grounds, granted_plan, refused_plan, plan_of}
use Rattle.header.specs.Says.{number_of, block_in, size_in, words_in, version_in, bytes_in}
use Rattle.header.specs.Asks.{Asks}
use Rattle.header.specs.Promises.{asked_plan, GrantsAsked, WordsInPlace, MarkUnread}
use Rattle.header.proofs.LawsPlans.{long_first}
use Rattle.header.proofs.LawsAsks.{none_asks, asks_none, asked_block, asked_words}

module _ (h : List ℕ) where
  pub plan_number : (plan_of h).number ≡ first_of (plan_grounds h)
  unfolding plan_of
  plan_number = reads_number (granted_plan h) refused_plan (λ (p : PlanAnswer). p.number) refl (λ n. refl) (first_of (plan_grounds h))

  pub plan_granted : first_of (plan_grounds h) ≡ 0 → plan_of h ≡ granted_plan h
  unfolding plan_of
  plan_granted e = sym (accepts (granted_plan h) refused_plan e)

  plan_refused : ((plan_of h).number ≡ 0 → ⊥) → plan_of h ≡ refused_plan (plan_of h).number
  unfolding plan_of
  plan_refused f = sym (refuses (granted_plan h) refused_plan (sym plan_number) f)

  plan_asked : (b v w C : ℕ) → length h ≡ header_length → Asks h b v w C → plan_of h ≡ asked_plan b v w C
  plan_asked b v w C l a =
      let eb = asked_block a in
      let eC = asked_words a in
      let er = row_records (block_in h) (version_in h) (size_in h) in
      plan_granted (long_first h l ∙ none_first (header_grounds h) (asks_none a))
      ∙ (λ i. record { number = 0; block = block_in h; version = version_in h; size = size_in h; records = er i; words = words_in h; bytes = field_bytes (block_in h) (words_in h) })
      ∙ (λ i. asked_plan (eb i) (a.version i) (a.size i) (eC i))

  plan_only : (plan_of h).number ≡ 0 → (length h ≡ header_length) × Asks h (block_in h) (version_in h) (size_in h) (words_in h)
  plan_only e =
      let n = first_none (plan_grounds h) refl (sym plan_number ∙ e) in
      (eqb-true (length h) header_length (not-false _ n.0), none_asks h n.1)

  -- the field of a plan holds its words, and no plan has a longer one than the longest
  pub granted_held : (plan_of h).number ≡ 0 → Held (size_in h) (words_in h) (bytes_in h)
  granted_held e = words_held _ _ _ _ (plan_only e).1.suits

  pub plan_short : (plan_of h).bytes ≤ longest_field
  unfolding plan_of
  plan_short =
      either (λ (p : PlanAnswer). p.bytes ≤ longest_field) (eqb (first_of (plan_grounds h)) 0)
      (λ e. (granted_held (plan_number ∙ eqb-true (first_of (plan_grounds h)) 0 e)).short) (λ _. lit≤ tt)

pub grants_asked : GrantsAsked
grants_asked = record { given = plan_asked; only = plan_only; zeros = plan_refused }

pub words_in_place : WordsInPlace
unfolding plan_of number_of row_of permits records_in field_bytes field_bits
words_in_place = refl

-- no word that is read is word 9
pub mark_unread : MarkUnread
unfolding plan_of
mark_unread h mark =
    let kept : (j : ℕ) → (j ≡ 8 → ⊥) → get_or (set h 8 mark) j 0 ≡ get_or h j 0 = λ j f. get_or-set_other h 8 j mark 0 f in
    simp (length-set h 8 mark, kept 0 (λ e. omega arith), kept 1 (λ e. omega arith), kept 2 (λ e. omega arith), kept 3 (λ e. omega arith), kept 7 (λ e. omega arith))
