-- The n of a count is there exactly where the count is the row's fixed words and so many for each of n pixels; and what a row permits.
-- Assumes nothing.
use Prim.Native.Nat.{ℕ, ◌+◌, ◌*◌, ◌-◌, ◌/◌, ◌%◌, ◌<◌, ◌≤◌}
use mathlib.Core.Path.{◌≡◌, refl, sym, ap, ap₂, ◌∙◌}
use mathlib.Core.Bool.{true, false, ◌||◌}
use native.Mathlib.Omega.{arith}
use native.Mathlib.Nat.{mul-div_right, mul-mod_right, div-add-mod}
use lib.Dec.{eqb, ltb, leb}
use borrow.Author.Tests.{leb-true, eqb-true, eqb-false, ltb-true, ltb-false, eq-eqb, ne_eqb, le-ltb, le-leb}
use Rattle.ground.proofs.LawsChoice.{yes, no, either}
use Rattle.ground.proofs.LawsTests.{both, split, neither, never}
use Rattle.row.specs.declared.Row.{Row}
use Rattle.row.specs.Pixels.{narrowest, widest, is_scan}
use Rattle.row.specs.Rows.{most_pixels, scan_of, permits}
use Rattle.row.specs.Suits.{Scan}

-- ---- what the two tests of a count say where they let it pass

pub reaches : (r : Row) (count : ℕ) → (eqb r.each 0 || ltb count r.fixed) ≡ false → (0 < r.each) × (r.fixed ≤ count)
reaches r count e =
    let s = neither (eqb r.each 0) (ltb count r.fixed) e in
    let z = eqb-false r.each 0 s.0 in
    (omega arith, ltb-false count r.fixed s.1)

pub divides : (rest each : ℕ) → (ltb 0 (rest % each) || ltb most_pixels (rest / each)) ≡ false → (rest % each ≤ 0) × (rest / each ≤ most_pixels)
divides rest each e =
    let s = neither (ltb 0 (rest % each)) (ltb most_pixels (rest / each)) e in
    (ltb-false 0 (rest % each) s.0, ltb-false most_pixels (rest / each) s.1)

-- ---- a count and its n

-- the count of a scan of so many pixels
pub record Wide (r : Row) (count : ℕ) : Type 0 where
  pub pixels : ℕ
  pub scan : Scan pixels
  pub counted : count ≡ r.fixed + r.each * pixels

scan_wide : (r : Row) (count : ℕ) → is_scan (scan_of r count) ≡ true → Wide r count
scan_wide r count =
    let rest = count - r.fixed in
    either (λ (n : ℕ). is_scan n ≡ true → Wide r count) (eqb r.each 0 || ltb count r.fixed) (λ _ h. never h) (λ t.
    either (λ (n : ℕ). is_scan n ≡ true → Wide r count) (ltb 0 (rest % r.each) || ltb most_pixels (rest / r.each)) (λ _ h. never h) (λ u h.
    let s = split (leb narrowest (rest / r.each)) (leb (rest / r.each) widest) h in
    record {
      pixels = rest / r.each;
      scan = record { narrow = leb-true narrowest (rest / r.each) s.0; wide = leb-true (rest / r.each) widest s.1 };
      counted = whole r.fixed r.each count (reaches r count t).1 (divides rest r.each u).0;
    }))
  where
    whole : (fixed each count : ℕ) → fixed ≤ count → (count - fixed) % each ≤ 0 → count ≡ fixed + each * ((count - fixed) / each)
    whole fixed each count l m = let d = div-add-mod (count - fixed) each in omega (arith, d, l, m)

pub scan_is : (r : Row) (count n : ℕ) → 0 < r.each → n ≤ most_pixels → count ≡ r.fixed + r.each * n → scan_of r count ≡ n
scan_is r count n p m e =
    let f : count - r.fixed ≡ r.each * n = omega arith in
    let q : (count - r.fixed) / r.each ≡ n = ap (λ (k : ℕ). k / r.each) f ∙ mul-div_right n p in
    let z : (count - r.fixed) % r.each ≡ 0 = ap (λ (k : ℕ). k % r.each) f ∙ mul-mod_right r.each n in
    sym
    (no _ refl (ap₂ ◌||◌ (ne_eqb r.each 0 (λ e. omega arith)) (le-ltb count r.fixed (omega arith)))
    (no _ refl (ap₂ ◌||◌ (le-ltb 0 ((count - r.fixed) % r.each) (omega arith)) (le-ltb most_pixels ((count - r.fixed) / r.each) (omega arith))) (sym q)))

-- ---- what a row permits

module _ (r : Row) (count : ℕ) where
  pub permits_fixed : r.each ≡ 0 → permits r count ≡ true → (0 < count) × (count ≡ r.fixed)
  unfolding permits
  permits_fixed e h =
      let s = split (ltb 0 count) (eqb count r.fixed) (yes _ refl (eq-eqb r.each 0 e) refl ∙ h) in
      (ltb-true 0 count s.0, eqb-true count r.fixed s.1)

  pub permits_wide : 0 < r.each → permits r count ≡ true → Wide r count
  unfolding permits
  permits_wide p h = scan_wide r count (no _ refl (ne_eqb r.each 0 (λ e. omega arith)) refl ∙ h)

  pub wide_permits : 0 < r.each → Wide r count → permits r count ≡ true
  unfolding permits
  wide_permits p w =
      let n = w.pixels in
      let e = scan_is r count n p (omega (arith, w.scan.wide)) w.counted in
      sym (no _ refl (ne_eqb r.each 0 (λ e. omega arith)) refl) ∙ ap is_scan e ∙ both (le-leb narrowest n w.scan.narrow) (le-leb n widest w.scan.wide)
