-- Record access refuses on its grounds in their order and finds a record where it lies; the records one after another are the C words, all
-- of them and no more, since each one takes up where the one before it ends.
-- Assumes nothing.
use mathlib.Core.Path.{◌≡◌, refl, sym, ap, ap₂, ◌∙◌, subst}
use mathlib.Core.Bool.{Bool, ◌||◌}
use mathlib.Core.List.{List, ◌++◌}
use Prim.Native.Nat.{ℕ, zero, suc, ◌+◌, ◌-◌, ◌*◌, ◌/◌, ◌<◌, ◌≤◌}
use native.Mathlib.Nat.{zero-mul, suc-mul, div-one}
use native.Mathlib.Omega.{arith}
use borrow.Author.Tests.{le-ltb, ne_eqb}
use lib.ListN.{length, take, drop}
use lib.Seq.{take-add}
use Rattle.ground.proofs.LawsChoice.{no}
use Rattle.ground.proofs.LawsGrounds.{accepts, refuses, reads_number, exactly}
use Rattle.row.specs.Rows.{records_in}
use Rattle.row.proofs.LawsRow.{before_3}
use Rattle.header.specs.Says.{words_in}
use Rattle.header.specs.Plans.{plan_of}
use Rattle.header.proofs.LawsThen.{others_decide}
use Rattle.records.specs.Records.{PartAnswer, records_of, record_length, record_start, record_grounds, grounds_of, refusal_of, refused_part, part_of, record_of, joined_to}
use Rattle.records.specs.Promises.{RefusesInOrder, RefusesExactly, Finds, RecordsLong, JoinsToWords, SharesEvenly}
use Rattle.records.proofs.LawsRecords.{one_record, length_by, shares_evenly, documented, accepted}

-- ---- refusals, and the part found

-- the part of record k
abbrev lies : (h : List ℕ) (k : ℕ) → PartAnswer
lies h k = record { number = 0; start = record_start h k; length = record_length h }

pub refuses_in_order : RefusesInOrder
unfolding part_of refusal_of
refuses_in_order h k words = reads_number (lies h k) refused_part (λ (p : PartAnswer). p.number) refl (λ n. refl) (refusal_of h k words)

pub refuses_exactly : RefusesExactly
refuses_exactly h k words = exactly (grounds_of h k words) refl refl (refuses_in_order h k words)

module _ (h : List ℕ) (k words : ℕ) where
  number_is : (part_of h k words).number ≡ refusal_of h k words
  unfolding refusal_of
  number_is = refuses_in_order h k words

  located : (plan_of h).number ≡ 0 → 1 ≤ k → k ≤ records_of h → words_in h ≤ words → part_of h k words ≡ lies h k
  unfolding part_of refusal_of
  located z low high enough =
      let e : refusal_of h k words ≡ 0 =
      others_decide h refl (record_grounds h k words) z
      ∙ sym (no _ refl (ap₂ (λ (a b : Bool). a || b) (ne_eqb k 0 (λ q. omega arith)) (le-ltb (records_of h) k high)) (no _ refl (le-ltb words (words_in h) enough) refl)) in
      sym (accepts (lies h k) refused_part e)

  only : (part_of h k words).number ≡ 0 → ((plan_of h).number ≡ 0) × (1 ≤ k) × (k ≤ records_of h) × (words_in h ≤ words)
  only e = accepted h k words (sym number_is ∙ e)

  some : (part_of h k words).number ≡ 0 → 16 < (part_of h k words).length
  some e =
      let a = only e in
      subst (λ (p : PartAnswer). 16 < p.length) (sym (located a.0 a.1 a.2 a.3)) (documented h a.0 (omega (arith, a.1, a.2)))

  empty : ((part_of h k words).number ≡ 0 → ⊥) → part_of h k words ≡ refused_part (part_of h k words).number
  unfolding part_of
  empty f = sym (refuses (lies h k) refused_part (sym number_is) f)

pub finds : Finds
finds = record { found = located; only = only; some = some; empty = empty }

pub records_long : RecordsLong
unfolding records_in
records_long = record {
  first = λ h v n a. length_by h a ∙ omega arith;
  second = λ h v n l a. length_by h a ∙ ap (λ (m : ℕ). 3 * (16 + n) / m) (sym (before_3 v l)) ∙ omega arith;
  second3 = λ h n a. length_by h a ∙ omega arith;
  others = λ h b v n l u a. length_by h a ∙ ap (λ (m : ℕ). (16 + 4 * n) / m) (one_record b v l u) ∙ div-one _;
}

-- ---- the records joined

module _ (h ws : List ℕ) (z : (plan_of h).number ≡ 0) (enough : words_in h ≤ length ws) where
  record_at : (k : ℕ) → suc k ≤ records_of h → record_of h (suc k) ws ≡ take (record_length h) (drop (k * record_length h) ws)
  record_at k l =
      let back : suc k - 1 ≡ k = omega arith in
      ap (λ (q : PartAnswer). take q.length (drop q.start ws)) (located h (suc k) (length ws) z (omega arith) l enough)
      ∙ ap (λ (n : ℕ). take (record_length h) (drop (n * record_length h) ws)) back

  joined : (k : ℕ) → k ≤ records_of h → joined_to h ws k ≡ take (k * record_length h) ws
  unfolding joined_to
  joined zero l = ap (λ (n : ℕ). take n ws) (sym (zero-mul (record_length h)))
  joined (suc k) l =
      ap₂ (λ (x y : List ℕ). x ++ y) (joined k (omega arith)) (record_at k l)
      ∙ sym (take-add (k * record_length h) (record_length h) ws) ∙ ap (λ (n : ℕ). take n ws) (sym (suc-mul k (record_length h)))

pub joins_to_words : JoinsToWords
joins_to_words h ws z some enough = joined h ws z enough (records_of h) (omega arith) ∙ ap (λ (n : ℕ). take n ws) (shares_evenly h z some)

pub evenly_shared : SharesEvenly
evenly_shared = shares_evenly
