-- The changed copies are told by what was found modulo 8: the eight texts, computed.
-- Assumes nothing.
use mathlib.Core.Path.{◌≡◌, refl, ap, ◌∙◌}
use mathlib.Core.List.{List}
use Prim.Native.Nat.{ℕ, ◌+◌, ◌*◌, ◌/◌, ◌%◌}
use native.Mathlib.Omega.{arith}
use Rattle.text.specs.Texts.{bytes_of, digits, decimal}
use Rattle.report.specs.Texts.{changed_text}

half : (n : ℕ) → n / 2 ≡ n / 8 * 4 + n % 8 / 2
half n = omega arith

half_odd : (q r : ℕ) → (q * 4 + r) % 2 ≡ r % 2
half_odd q r = omega arith

quarter : (n : ℕ) → n / 4 ≡ n / 8 * 2 + n % 8 / 4
quarter n = omega arith

quarter_odd : (q r : ℕ) → (q * 2 + r) % 2 ≡ r % 2
quarter_odd q r = omega arith

by_eight : (found : ℕ) → changed_text found ≡ changed_text (found % 8)
unfolding changed_text
by_eight found =
    let a : found % 2 ≡ found % 8 % 2 = omega arith in
    let b : found / 2 % 2 ≡ found % 8 / 2 % 2 = ap (λ (n : ℕ). n % 2) (half found) ∙ half_odd (found / 8) (found % 8 / 2) in
    let d : found / 4 % 2 ≡ found % 8 / 4 % 2 = ap (λ (n : ℕ). n % 2) (quarter found) ∙ quarter_odd (found / 8) (found % 8 / 4) in
    rw (a, b, d)

module _ (found : ℕ) where
  told : {k : ℕ} {text : List ℕ} → changed_text k ≡ text → found % 8 ≡ k → changed_text found ≡ text
  told e h = by_eight found ∙ ap changed_text h ∙ e

  pub changed_0 : found % 8 ≡ 0 → changed_text found ≡ bytes_of "-"
  unfolding changed_text
  changed_0 = told {k = 0} refl

  pub changed_1 : found % 8 ≡ 1 → changed_text found ≡ bytes_of "1"
  unfolding changed_text decimal digits
  changed_1 = told {k = 1} refl

  pub changed_2 : found % 8 ≡ 2 → changed_text found ≡ bytes_of "2"
  unfolding changed_text decimal digits
  changed_2 = told {k = 2} refl

  pub changed_3 : found % 8 ≡ 3 → changed_text found ≡ bytes_of "1,2"
  unfolding changed_text decimal digits
  changed_3 = told {k = 3} refl

  pub changed_4 : found % 8 ≡ 4 → changed_text found ≡ bytes_of "3"
  unfolding changed_text decimal digits
  changed_4 = told {k = 4} refl

  pub changed_5 : found % 8 ≡ 5 → changed_text found ≡ bytes_of "1,3"
  unfolding changed_text decimal digits
  changed_5 = told {k = 5} refl

  pub changed_6 : found % 8 ≡ 6 → changed_text found ≡ bytes_of "2,3"
  unfolding changed_text decimal digits
  changed_6 = told {k = 6} refl

  pub changed_7 : found % 8 ≡ 7 → changed_text found ≡ bytes_of "1,2,3"
  unfolding changed_text decimal digits
  changed_7 = told {k = 7} refl
