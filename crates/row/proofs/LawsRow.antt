-- The decision over block numbers is the printed table: its row takes a size and a count exactly where they suit the block.
-- Assumes nothing.
use Prim.Native.Nat.{ℕ, ◌+◌, ◌*◌, ◌<◌, ◌≤◌}
use mathlib.Core.Path.{◌≡◌, refl, sym, ap, ◌∙◌, subst}
use mathlib.Core.Bool.{Bool, true, false, ◌&&◌}
use native.Mathlib.Omega.{arith}
use lib.Dec.{lit<, lit≤, eqb, leb, ltb}
use lib.Arith.{lt_of_le-ne}
use borrow.Author.Tests.{leb-true, leb-false, eqb-true, eqb-false, ltb-true, ltb-false, ne_eqb, le-leb, lt-leb}
use Rattle.ground.proofs.LawsChoice.{yes, no, either}
use Rattle.ground.proofs.LawsTests.{both, split, not_second}
use Rattle.row.specs.declared.Row.{Row}
use Rattle.row.specs.Rows.{records_in, fixed_row, infrared_row, visible_row, no_row, row_of, permits}
use Rattle.row.specs.Suits.{Scan, Suits, zeroth, first, second, second3, others, last6, last8, last10}
use Rattle.row.specs.Promises.{Takes}
use Rattle.row.proofs.LawsScan.{permits_fixed, permits_wide, wide_permits}

-- the rows that go by a range of block numbers
pub row_others : (b v w : ℕ) → 3 ≤ b → b ≤ 10 → visible_row ≡ row_of b v w
unfolding row_of
row_others b v w l h =
    no _ refl (ne_eqb b 0 (λ e. omega arith))
    (no _ refl (ne_eqb b 1 (λ e. omega arith))
    (no _ refl (ne_eqb b 2 (λ e. omega arith))
    (yes _ refl (both (le-leb 3 b l) (le-leb b 10 h)) refl)))

pub row_none : (b v w : ℕ) → 11 < b → no_row ≡ row_of b v w
unfolding row_of
row_none b v w h =
    no _ refl (ne_eqb b 0 (λ e. omega arith))
    (no _ refl (ne_eqb b 1 (λ e. omega arith))
    (no _ refl (ne_eqb b 2 (λ e. omega arith))
    (no _ refl (not_second (leb 3 b) (lt-leb b 10 (omega arith)))
    (no _ refl (ne_eqb b 11 (λ e. omega arith)) refl))))

past_last : (b : ℕ) → eqb b 0 ≡ false → eqb b 1 ≡ false → eqb b 2 ≡ false → (leb 3 b && leb b 10) ≡ false → eqb b 11 ≡ false → 11 < b
past_last b e0 e1 e2 e3 e11 =
    let n0 = eqb-false b 0 e0 in
    let n1 = eqb-false b 1 e1 in
    let n2 = eqb-false b 2 e2 in
    let l : 3 ≤ b = omega arith in
    let h = leb-false b 10 (sym (ap (λ (t : Bool). t && leb b 10) (le-leb 3 b l)) ∙ e3) in
    lt_of_le-ne h (λ e. eqb-false b 11 e11 (sym e))

-- what holds of each row, where its block number is asked for, holds of the row
pub row_cases : (P : Row → Type 0) (b v w : ℕ)
    → (b ≡ 0 → P (fixed_row 8)) → (b ≡ 1 → P (infrared_row (records_in 1 v))) → (b ≡ 2 → P (infrared_row (records_in 2 v)))
    → (3 ≤ b → b ≤ 10 → P visible_row)
    → (b ≡ 11 → w ≡ 6 → P (fixed_row 6)) → (b ≡ 11 → w ≡ 8 → P (fixed_row 8)) → (b ≡ 11 → P (fixed_row 10)) → (11 < b → P no_row)
    → P (row_of b v w)
unfolding row_of
row_cases P b v w h0 h1 h2 h3 h6 h8 h10 hn =
    either P (eqb b 0) (λ e. h0 (eqb-true b 0 e)) (λ e0.
    either P (eqb b 1) (λ e. h1 (eqb-true b 1 e)) (λ e1.
    either P (eqb b 2) (λ e. h2 (eqb-true b 2 e)) (λ e2.
    either P (leb 3 b && leb b 10) (λ e. let s = split (leb 3 b) (leb b 10) e in h3 (leb-true 3 b s.0) (leb-true b 10 s.1)) (λ e3.
    either P (eqb b 11)
    (λ e. let f = eqb-true b 11 e in
    either P (eqb w 6) (λ g. h6 f (eqb-true w 6 g)) (λ _. either P (eqb w 8) (λ g. h8 f (eqb-true w 8 g)) (λ _. h10 f)))
    (λ e11. hn (past_last b e0 e1 e2 e3 e11))))))

-- block 2 has three records before version 3 and four from it on
pub second_cases : (P : ℕ → Type 0) (v : ℕ) → (v ≤ 2 → P 3) → (3 ≤ v → P 4) → P (records_in 2 v)
unfolding records_in
second_cases P v before from = either P (ltb v 3) (λ e. before (omega (arith, ltb-true v 3 e))) (λ e. from (ltb-false v 3 e))

pub before_3 : (v : ℕ) → v ≤ 2 → 3 ≡ records_in 2 v
before_3 v l = second_cases (λ r. 3 ≡ r) v (λ _. refl) (λ h. absurd (omega arith))

pub from_3 : (v : ℕ) → 3 ≤ v → 4 ≡ records_in 2 v
from_3 v l = second_cases (λ r. 4 ≡ r) v (λ h. absurd (omega arith)) (λ _. refl)

-- the records of a row are those of its block number and version
records_others : (b v : ℕ) → 3 ≤ b → b ≤ 10 → 1 ≡ records_in b v
unfolding records_in
records_others b v l h = no _ refl (ne_eqb b 1 (λ e. omega arith)) (no _ refl (ne_eqb b 2 (λ e. omega arith)) (yes _ refl (both (le-leb 3 b l) (le-leb b 10 h)) refl))

records_none : (b v : ℕ) → 11 < b → 0 ≡ records_in b v
unfolding records_in
records_none b v h = no _ refl (ne_eqb b 1 (λ e. omega arith)) (no _ refl (ne_eqb b 2 (λ e. omega arith)) (no _ refl (not_second (leb 3 b) (lt-leb b 10 (omega arith))) refl))

pub row_records : (b v w : ℕ) → (row_of b v w).records ≡ records_in b v
unfolding records_in
row_records b v w =
    let at : (k : ℕ) → b ≡ k → records_in k v ≡ records_in b v = λ k e. ap (λ (x : ℕ). records_in x v) (sym e) in
    row_cases (λ r. r.records ≡ records_in b v) b v w (at 0) (at 1) (at 2) (records_others b v) (λ e _. at 11 e) (λ e _. at 11 e) (at 11) (records_none b v)

-- ---- the table is the row's

at : {b w n b' w' n' : ℕ} {v : ℕ} → b ≡ b' → w ≡ w' → n ≡ n' → Suits b' v w' n' → Suits b v w n
at {b} {w} {n} {b'} {w'} {n'} {v} e f g s = subst (λ (x : ℕ). Suits x v w n) (sym e) (subst (λ (x : ℕ). Suits b' v x n) (sym f) (subst (λ (x : ℕ). Suits b' v w' x) (sym g) s))

pub in_3 : {n : ℕ} (v : ℕ) → v ≤ 3 → 3 ≤ v → Scan n → Suits 2 v 10 (4 * (16 + n))
in_3 {n} v h l s = subst (λ (x : ℕ). Suits 2 x 10 (4 * (16 + n))) (omega arith) (second3 s)

sized_suits : (b v w n : ℕ) → v ≤ 3 → (row_of b v w).size ≡ w → permits (row_of b v w) n ≡ true → Suits b v w n
unfolding records_in
sized_suits b v w n known =
    let fixed : (r : Row) → r.each ≡ 0 → permits r n ≡ true → n ≡ r.fixed = λ r z h. (permits_fixed r n z h).1 in
    row_cases (λ r. r.size ≡ w → permits r n ≡ true → Suits b v w n) b v w
    (λ e s h. at e (sym s) (fixed (fixed_row 8) refl h) zeroth)
    (λ e s h. let k = permits_wide (infrared_row 4) n (lit< tt) h in at e (sym s) (omega (arith, k.counted)) (first k.scan))
    (λ e. second_cases (λ r. (infrared_row r).size ≡ w → permits (infrared_row r) n ≡ true → Suits b v w n) v
    (λ l s h. let k = permits_wide (infrared_row 3) n (lit< tt) h in at e (sym s) (omega (arith, k.counted)) (second l k.scan))
    (λ l s h. let k = permits_wide (infrared_row 4) n (lit< tt) h in at e (sym s) (omega (arith, k.counted)) (in_3 v known l k.scan)))
    (λ l u s h. let k = permits_wide visible_row n (lit< tt) h in at refl (sym s) k.counted (others l u k.scan))
    (λ e _ s h. at e (sym s) (fixed (fixed_row 6) refl h) last6)
    (λ e _ s h. at e (sym s) (fixed (fixed_row 8) refl h) last8)
    (λ e s h. at e (sym s) (fixed (fixed_row 10) refl h) last10)
    (λ _ s h. let k = permits_fixed no_row n refl h in absurd (omega (arith, k.0, k.1)))

pub takes_suits : {b v w n : ℕ} → v ≤ 3 → Takes b v w n → Suits b v w n
takes_suits {b} {v} {w} {n} known t = sized_suits b v w n known t.sized t.counted

pub suits_takes : {b v w n : ℕ} → Suits b v w n → Takes b v w n
unfolding row_of records_in permits
suits_takes zeroth = record { sized = refl; counted = refl }
suits_takes (first {n = n} s) = record { sized = refl; counted = wide_permits (infrared_row 4) (4 * (16 + n)) (lit< tt) (record { pixels = n; scan = s; counted = omega arith }) }
suits_takes (second {v} {n} l s) =
    record {
      sized = refl;
      counted = subst (λ (r : ℕ). permits (infrared_row r) (3 * (16 + n)) ≡ true) (before_3 v l)
          (wide_permits (infrared_row 3) (3 * (16 + n)) (lit< tt) (record { pixels = n; scan = s; counted = omega arith }));
    }
suits_takes (second3 {n = n} s) = record { sized = refl; counted = wide_permits (infrared_row 4) (4 * (16 + n)) (lit< tt) (record { pixels = n; scan = s; counted = omega arith }) }
suits_takes (others {b} {v} {n} l h s) =
    let e = row_others b v 10 l h in
    record {
      sized = ap (λ (r : Row). r.size) (sym e);
      counted = subst (λ (r : Row). permits r (16 + 4 * n) ≡ true) e (wide_permits visible_row (16 + 4 * n) (lit< tt) (record { pixels = n; scan = s; counted = refl }));
    }
suits_takes last6 = record { sized = refl; counted = refl }
suits_takes last8 = record { sized = refl; counted = refl }
suits_takes last10 = record { sized = refl; counted = refl }

-- ---- no block has more than four records

pub records_few : (b v : ℕ) → records_in b v ≤ 4
unfolding records_in
records_few b v =
    either (λ (n : ℕ). n ≤ 4) (eqb b 1) (λ _. lit≤ tt) (λ _.
    either (λ (n : ℕ). n ≤ 4) (eqb b 2) (λ _. either (λ (n : ℕ). n ≤ 4) (ltb v 3) (λ _. lit≤ tt) (λ _. lit≤ tt)) (λ _.
    either (λ (n : ℕ). n ≤ 4) (leb 3 b && leb b 10) (λ _. lit≤ tt) (λ _. lit≤ tt)))
