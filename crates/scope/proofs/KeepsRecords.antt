-- Records: the plan of a header, where a record lies, and the placement, which is tested at every block, version and record.
-- Assumes nothing.
use Prim.Native.Nat.{ℕ, zero, suc, ◌+◌, ◌-◌, ◌*◌, ◌/◌, ◌<◌, ◌≤◌}
use mathlib.Core.Path.{◌≡◌, refl, sym, ap, ◌∙◌}
use mathlib.Core.List.{List, [], ◌∷◌}
use native.Mathlib.Omega.{arith}
use lib.ListN.{length, take, get_or}
use Rattle.row.specs.Rows.{records_in}
use Rattle.row.specs.Field.{field_bytes}
use Rattle.row.proofs.LawsRow.{row_records}
use Rattle.header.specs.Says.{block_in, size_in, words_in, version_in}
use Rattle.header.specs.Plans.{plan_of}
use Rattle.header.proofs.LawsAsks.{asked_block, asked_words}
use Rattle.header.proofs.KeepsHeader.{grants_asked}
use Rattle.records.specs.Records.{records_of, record_length, joined_to}
use Rattle.records.proofs.KeepsRecords.{finds, joins_to_words, evenly_shared}
use Rattle.placement.specs.Placement.{group_of, held_in, records_held, place_of}
use Rattle.placement.proofs.KeepsPlacement.{every_version}
use Rattle.scope.specs.Blocks.{Asked}
use Rattle.scope.specs.Records.{RecordsIn, zeroth, first, second, second3, others, last, Planned, Located, ◌det◌, Holds, Placed}
use Rattle.scope.proofs.LawsFormat.{bits_field, asked_asks}
use Rattle.scope.proofs.KeepsRefusals.{records_are}

-- ---- the plan

pub planned : Planned
unfolding field_bytes
planned h r a l i =
    grants_asked.given h a.block a.version a.size a.words l (asked_asks a)
    ∙ (λ j. record { number = 0; block = a.block; version = a.version; size = a.size; records = records_are i j; words = a.words; bytes = sym (bits_field a.long) j / 8 })

-- ---- where records lie

module _ {h : List ℕ} (a : Asked h) {r : ℕ} (i : RecordsIn a.block a.version r) where
  granted : length h ≡ 28 → (plan_of h).number ≡ 0
  granted l = ap (λ p. p.number) (planned h r a l i)

  so_many : records_of h ≡ r
  so_many = row_records (block_in h) (version_in h) (size_in h) ∙ (λ j. records_in (asked_block (asked_asks a) j) (a.versioned j)) ∙ records_are i

  words_are : words_in h ≡ a.words
  words_are = asked_words (asked_asks a)

-- records of one number that share the same words are as long
as_long : {b v r x y : ℕ} → RecordsIn b v r → 0 < r → r * x ≡ r * y → x ≡ y
as_long zeroth l e = absurd (omega arith)
as_long first l e = omega arith
as_long (second _) l e = omega arith
as_long second3 l e = omega arith
as_long (others _ _) l e = omega arith
as_long last l e = absurd (omega arith)

pub located : Located
located =
    record {
      place =
          λ h k lent n r long a e i _ c.
          let o = finds.only h k lent e in
          let some : 0 < r = omega (arith, so_many a i, o.1, o.2) in
          let shared = evenly_shared h o.0 (omega (arith, o.1, o.2)) in
          let same : record_length h ≡ long = as_long i some (ap (λ (m : ℕ). m * record_length h) (sym (so_many a i)) ∙ shared ∙ words_are a i ∙ c) in
          finds.found h k lent o.0 o.1 o.2 o.3 ∙ (λ j. record { number = 0; start = (k - 1) * same j; length = same j });
      part = λ h k ws. refl;
      joined =
          λ h ws r a l enough i some.
          (λ j. joined_to h ws (sym (so_many a i) j))
          ∙ joins_to_words h ws (granted a i l) (omega (arith, so_many a i, some)) (omega (arith, words_are a i, enough)) ∙ ap (λ (m : ℕ). take m ws) (words_are a i);
    }

-- ---- placement

-- a fact of each number below n
abbrev pub Each : ℕ → (ℕ → Type 0) → Type 0
Each zero P = Unit {0}
Each (suc n) P = P 0 × Each n (λ k. P (suc k))

pub below : (n : ℕ) (P : ℕ → Type 0) → Each n P → (k : ℕ) → k < n → P k
below zero P e k l = absurd (omega arith)
below (suc n) P e zero l = e.0
below (suc n) P e (suc k) l = below n (λ j. P (suc j)) e.1 k (omega arith)

of_late : (P : ℕ → Type 0) → P 2 → P 3 → (v : ℕ) → 2 ≤ v → v ≤ 3 → P v
of_late P a b v l h = below 4 (λ v. 2 ≤ v → P v) (λ k. absurd (omega arith), (λ k. absurd (omega arith), (λ _. a, (λ _. b, tt)))) v (omega arith) l

abbrev visible_at : ℕ → Type 0
visible_at i = place_of (3 + i) 0 1 ≡ record { number = 0; channel = 1; detector = get_or (5 ∷ 6 ∷ 7 ∷ 8 ∷ 1 ∷ 2 ∷ 3 ∷ 4 ∷ []) i 0 }

pub placed : Placed
unfolding place_of held_in group_of records_held
placed =
    record {
      early1 = λ v l. below 2 (λ v. Holds 1 v (4 det 1 ∷ 4 det 2 ∷ 5 det 1 ∷ 5 det 2 ∷ [])) (below 4 _ (refl, (refl, (refl, (refl, tt)))), (below 4 _ (refl, (refl, (refl, (refl, tt)))), tt)) v (omega arith);
      early2 = λ v l. below 2 (λ v. Holds 2 v (2 det 1 ∷ 2 det 2 ∷ 3 det 1 ∷ [])) (below 3 _ (refl, (refl, (refl, tt))), (below 3 _ (refl, (refl, (refl, tt))), tt)) v (omega arith);
      late1 = of_late (λ v. Holds 1 v (2 det 1 ∷ 2 det 2 ∷ 3 det 1 ∷ 3 det 2 ∷ [])) (below 4 _ (refl, (refl, (refl, (refl, tt))))) (below 4 _ (refl, (refl, (refl, (refl, tt)))));
      late2 = below 3 _ (refl, (refl, (refl, tt)));
      latest2 = below 4 _ (refl, (refl, (refl, (refl, tt))));
      visible =
          λ i v l m.
          let seen = below 8 visible_at (refl, (refl, (refl, (refl, (refl, (refl, (refl, (refl, tt)))))))) i l in
          below 1 _ (every_version (3 + i) v 1 (omega arith) (omega arith) m ∙ seen, tt);
    }
