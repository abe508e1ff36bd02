-- The ends of `locate`: a refusal by the header, by the record or by the words, and the record found; its part ends inside the words.
-- Assumes nothing.
use mathlib.Core.Path.{◌≡◌, refl, sym, ap, ap₂, ◌∙◌, subst}
use mathlib.Core.Bool.{true, false, ◌||◌}
use mathlib.Core.List.{List}
use Prim.Native.Nat.{ℕ, suc, ◌+◌, ◌-◌, ◌*◌, ◌/◌, ◌<◌, ◌≤◌}
use native.Mathlib.Nat.{mul-le-mul_right, suc-mul, div-one, one-mul}
use native.Mathlib.Omega.{arith}
use borrow.Author.Tests.{lt-ltb, le-ltb, eqb-true, eqb-false, ltb-false}
use lib.Dec.{eqb, ltb}
use Rattle.ground.proofs.LawsChoice.{yes, no, either}
use Rattle.ground.proofs.LawsTests.{neither}
use Rattle.ground.proofs.LawsGrounds.{none_first, first_none, none_split, accepts, refuses}
use Rattle.row.specs.Rows.{records_in}
use Rattle.row.specs.Suits.{Suits, zeroth, first, second, second3, others, last6, last8, last10}
use Rattle.row.specs.declared.Row.{Row}
use Rattle.row.proofs.LawsRow.{row_others, row_records, before_3}
use Rattle.header.specs.Says.{block_in, version_in, size_in, words_in}
use Rattle.header.specs.Asks.{Asks}
use Rattle.header.specs.Plans.{PlanAnswer, plan_grounds, plan_of}
use Rattle.header.proofs.KeepsHeader.{plan_number, grants_asked}
use Rattle.header.proofs.LawsAsks.{asked_block, asked_words}
use Rattle.header.proofs.LawsThen.{header_decides, others_decide, plan_is}
use Rattle.records.specs.Records.{PartAnswer, records_of, record_length, record_start, no_record, record_grounds, grounds_of, refusal_of, refused_part, part_of}

-- ---- the words are shared evenly among the records

pub one_record : (b v : ℕ) → 3 ≤ b → b ≤ 10 → records_in b v ≡ 1
one_record b v l u = sym (row_records b v 10) ∙ sym (ap (λ (r : Row). r.records) (row_others b v 10 l u))

-- a record takes its share of C, and has more than its documentation
pub shared : {b v w C : ℕ} → Suits b v w C → 0 < records_in b v → (records_in b v * (C / records_in b v) ≡ C) × (16 < C / records_in b v)
unfolding records_in
shared zeroth h = absurd (omega arith)
shared (first {n = n} s) h = (omega arith, omega (arith, s.narrow))
shared (second {v = v} {n = n} l s) h =
    subst (λ (r : ℕ). (r * (3 * (16 + n) / r) ≡ 3 * (16 + n)) × (16 < 3 * (16 + n) / r)) (before_3 v l) (omega arith, omega (arith, s.narrow))
shared (second3 {n = n} s) h = (omega arith, omega (arith, s.narrow))
shared (others {b = b} {v = v} {n = n} l u s) h =
    let whole : (16 + 4 * n) / records_in b v ≡ 16 + 4 * n = ap (λ (m : ℕ). (16 + 4 * n) / m) (one_record b v l u) ∙ div-one _ in
    (ap₂ (λ (m k : ℕ). m * k) (one_record b v l u) whole ∙ one-mul _, omega (arith, whole, s.narrow))
shared last6 h = absurd (omega arith)
shared last8 h = absurd (omega arith)
shared last10 h = absurd (omega arith)

pub length_by : (h : List ℕ) {b v w C : ℕ} → Asks h b v w C → record_length h ≡ C / records_in b v
unfolding record_length
length_by h a =
    ap₂ (λ (m n : ℕ). m / n) (asked_words a) (row_records (block_in h) (version_in h) (size_in h) ∙ ap₂ records_in (asked_block a) a.version)

module _ (h : List ℕ) (z : (plan_of h).number ≡ 0) (some : 0 < records_of h) where
  share : (records_of h * record_length h ≡ words_in h) × (16 < record_length h)
  share =
      let a = (grants_asked.only h z).1 in
      let e : records_in (block_in h) (version_in h) ≡ records_of h = sym (row_records (block_in h) (version_in h) (size_in h)) in
      let s = shared a.suits (subst (λ (n : ℕ). 0 < n) (sym e) some) in
      (ap₂ (λ (m n : ℕ). m * n) (sym e) (length_by h a) ∙ s.0, subst (λ (n : ℕ). 16 < n) (sym (length_by h a)) s.1)

  pub shares_evenly : records_of h * record_length h ≡ words_in h
  shares_evenly = share.0

  pub documented : 16 < record_length h
  documented = share.1

module _ (h : List ℕ) (k words : ℕ) {p : PlanAnswer} (e : p ≡ plan_of h) where
  ends : {n : ℕ} → refusal_of h k words ≡ n → (n ≡ 0 → ⊥) → refused_part n ≡ part_of h k words
  unfolding part_of
  ends q f = refuses (record { number = 0; start = record_start h k; length = record_length h }) refused_part q f

  pub header_refused : (p.number ≡ 0 → ⊥) → refused_part p.number ≡ part_of h k words
  unfolding refusal_of
  header_refused f = ends (header_decides h e (record_grounds h k words) f) f

  module _ (z : p.number ≡ 0) where
    records_is : p.records ≡ records_of h
    records_is = ap (λ (q : PlanAnswer). q.records) (plan_is h e z)

    pub words_is : p.words ≡ words_in h
    words_is = ap (λ (q : PlanAnswer). q.words) (plan_is h e z)

    test_is : (eqb k 0 || ltb p.records k) ≡ no_record h k
    test_is = ap (λ (n : ℕ). eqb k 0 || ltb n k) records_is

    pub record_refused : (eqb k 0 || ltb p.records k) ≡ true → refused_part 13 ≡ part_of h k words
    unfolding refusal_of
    record_refused t = ends (others_decide h e (record_grounds h k words) z ∙ sym (yes _ test_is t refl)) (λ q. omega arith)

    module _ (t : (eqb k 0 || ltb p.records k) ≡ false) where
      pub words_refused : words < p.words → refused_part 9 ≡ part_of h k words
      unfolding refusal_of
      words_refused l =
          ends
          (others_decide h e (record_grounds h k words) z
          ∙ sym (no _ test_is t (yes _ refl (lt-ltb words (words_in h) (subst (λ (n : ℕ). words < n) words_is l)) refl)))
          (λ q. omega arith)

      pub bounds : (1 ≤ k) × (k ≤ p.records)
      bounds =
          let s = neither (eqb k 0) (ltb p.records k) t in
          let low : 1 ≤ k = omega (arith, eqb-false k 0 s.0) in
          (low, ltb-false p.records k s.1)

      length_is : p.words / p.records ≡ record_length h
      unfolding record_length
      length_is = ap₂ (λ (a b : ℕ). a / b) words_is records_is

      pub found : p.words ≤ words → record { number = 0; start = (k - 1) * (p.words / p.records); length = p.words / p.records } ≡ part_of h k words
      unfolding part_of refusal_of
      found l =
          ap (λ (n : ℕ). record { number = 0; start = (k - 1) * n; length = n }) length_is
          ∙ accepts (record { number = 0; start = record_start h k; length = record_length h }) refused_part
          (others_decide h e (record_grounds h k words) z
          ∙ sym (no _ test_is t (no _ refl (le-ltb words (words_in h) (subst (λ (n : ℕ). n ≤ words) words_is l)) refl)))

      -- a record begins before the words end
      pub start_inside : p.words ≤ words → (k - 1) * (p.words / p.records) ≤ words
      start_inside l =
          let some : 0 < records_of h = subst (λ (n : ℕ). 0 < n) records_is (omega (arith, bounds)) in
          let whole = shares_evenly h (sym (ap (λ (q : PlanAnswer). q.number) e) ∙ z) some in
          let less : k - 1 ≤ records_of h = subst (λ (n : ℕ). k - 1 ≤ n) records_is (omega (arith, bounds)) in
          subst (λ (n : ℕ). (k - 1) * n ≤ words) (sym length_is) (omega (arith, mul-le-mul_right (record_length h) less, whole, words_is))

-- what an accepted record is known by
pub accepted : (h : List ℕ) (k words : ℕ) → refusal_of h k words ≡ 0 → ((plan_of h).number ≡ 0) × (1 ≤ k) × (k ≤ records_of h) × (words_in h ≤ words)
unfolding refusal_of
accepted h k words e =
    let n = none_split (plan_grounds h) (record_grounds h k words) (first_none (grounds_of h k words) refl e) in
    let s = neither (eqb k 0) (ltb (records_of h) k) n.1.0 in
    let low : 1 ≤ k = omega (arith, eqb-false k 0 s.0) in (
      plan_number h ∙ none_first (plan_grounds h) n.0,
      low,
      ltb-false (records_of h) k s.1,
      ltb-false words (words_in h) n.1.1.0,
    )

-- the part that is found ends inside the words
pub part_inside : (h : List ℕ) (k words : ℕ) → (part_of h k words).start + (part_of h k words).length ≤ words
unfolding part_of
part_inside h k words =
    either (λ (part : PartAnswer). part.start + part.length ≤ words) (eqb (refusal_of h k words) 0)
    (λ t. inside (eqb-true (refusal_of h k words) 0 t)) (λ t. omega arith)
  where
    inside : refusal_of h k words ≡ 0 → record_start h k + record_length h ≤ words
    inside e =
        let a = accepted h k words e in
        let one : suc (k - 1) ≡ k = omega (arith, a.1) in
        let whole = shares_evenly h a.0 (omega (arith, a.1, a.2)) in
        omega (arith, suc-mul (k - 1) (record_length h), ap (λ (n : ℕ). n * record_length h) one, mul-le-mul_right (record_length h) a.2, whole, a.3)
