-- A number's digits: the last one and those of its tenth. Digits put from the last one on are at every turn those behind the rest's.
-- Assumes nothing.
use mathlib.Core.Path.{◌≡◌, refl, sym, ap, ap₂, ◌∙◌, subst}
use mathlib.Core.Bool.{Bool, true, false}
use mathlib.Core.List.{List, [], ◌∷◌, ◌++◌, append_assoc}
use Prim.Native.Nat.{ℕ, zero, suc, ◌+◌, ◌-◌, ◌*◌, ◌/◌, ◌%◌, ◌^◌, ◌≤◌, ◌<◌}
use native.Mathlib.Nat.{pow-suc, div-lt_iff_lt-mul}
use native.Mathlib.Omega.{arith}
use borrow.Author.Tests.{lt-ltb, le-ltb, ltb-true, ltb-false}
use lib.Dec.{ltb}
use lib.ListN.{length, get_or, drop, set, length-append, length-set, drop_of_length-le, get_or-append}
use lib.Seq.{drop-cons, get_or-set_same, drop-set-lt}
use Rattle.ground.specs.Choice.{pick}
use Rattle.ground.proofs.LawsChoice.{yes, no}
use Rattle.text.specs.Texts.{digit, digits, decimal, ended}
use Rattle.text.specs.Promises.{spelled, SpellsNumbers}

-- more digits than a number has are no more
enough : (j k n : ℕ) → n < j → n < k → digits j n ≡ digits k n
unfolding digits
enough zero k n h l = absurd (omega arith)
enough (suc j) zero n h l = absurd (omega arith)
enough (suc j) (suc k) n h l = by (ltb n 10) refl (enough j k (n / 10))
  where
    by : (t : Bool) → ltb n 10 ≡ t → (n / 10 < j → n / 10 < k → digits j (n / 10) ≡ digits k (n / 10))
        → pick t (digit n ∷ []) (ended (digits j (n / 10)) (digit (n % 10))) ≡ pick t (digit n ∷ []) (ended (digits k (n / 10)) (digit (n % 10)))
    by true e f = refl
    by false e f = let m = ltb-false n 10 e in ap (λ (l : List ℕ). ended l (digit (n % 10))) (f (omega arith) (omega arith))

decimal_one : (n : ℕ) → n < 10 → decimal n ≡ digit n ∷ []
unfolding decimal digits
decimal_one n h = sym (yes _ refl (lt-ltb n 10 h) refl)

decimal_more : (n : ℕ) → 10 ≤ n → decimal n ≡ ended (decimal (n / 10)) (digit (n % 10))
unfolding decimal digits
decimal_more n h = sym (no _ refl (le-ltb n 10 h) (ap (λ (l : List ℕ). ended l (digit (n % 10))) (enough (suc (n / 10)) n (n / 10) (omega arith) (omega arith))))

more_long : (n : ℕ) → 10 ≤ n → length (decimal n) ≡ length (decimal (n / 10)) + 1
more_long n h = ap length (decimal_more n h) ∙ length-append (decimal (n / 10)) (digit (n % 10) ∷ [])

tenth : (k n : ℕ) → n < 10 ^ suc (suc k) → n / 10 < 10 ^ suc k
tenth k n h = (div-lt_iff_lt-mul {k = 10} {x = n} {y = 10 ^ suc k} (omega arith)).1 (subst (λ (m : ℕ). n < m) (pow-suc 10 (suc k)) h)

-- a number below a power of ten has no more digits than that has zeros
decimal_short : (k n : ℕ) → n < 10 ^ suc k → length (decimal n) ≤ suc k
decimal_short zero n h = omega (arith, ap length (decimal_one n (omega arith)))
decimal_short (suc k) n h = by (ltb n 10) refl (λ l. decimal_short k (n / 10) l)
  where
    by : (t : Bool) → ltb n 10 ≡ t → (n / 10 < 10 ^ suc k → length (decimal (n / 10)) ≤ suc k) → length (decimal n) ≤ suc (suc k)
    by true e f = omega (arith, ap length (decimal_one n (ltb-true n 10 e)))
    by false e f = omega (arith, more_long n (ltb-false n 10 e), f (tenth k n h))

-- so one of 64 bits has at most twenty
pub decimal_fits : (n : ℕ) → n < 18446744073709551616 → length (decimal n) ≤ 20
decimal_fits n h = decimal_short 19 n (omega arith)

-- ---- what the digits say

-- one digit more
spelled_more : (xs : List ℕ) (n d : ℕ) → spelled n (ended xs d) ≡ spelled n xs * 10 + (d - 0x30)
spelled_more [] n d = refl
spelled_more (x ∷ xs) n d = spelled_more xs (n * 10 + (x - 0x30)) d

decimal_some : (n : ℕ) → 0 < length (decimal n)
decimal_some n = by (ltb n 10) refl
  where
    by : (t : Bool) → ltb n 10 ≡ t → 0 < length (decimal n)
    by true e = omega (arith, ap length (decimal_one n (ltb-true n 10 e)))
    by false e = omega (arith, more_long n (ltb-false n 10 e))

-- by tenths
module _ (P : ℕ → Type 0) (one : (n : ℕ) → n < 10 → P n) (more : (n : ℕ) → 10 ≤ n → P (n / 10) → P n) where
  below : (most n : ℕ) → n < most → P n
  below zero n h = absurd (omega arith)
  below (suc most) n h = by (ltb n 10) refl (below most (n / 10))
    where
      by : (t : Bool) → ltb n 10 ≡ t → (n / 10 < most → P (n / 10)) → P n
      by true e f = one n (ltb-true n 10 e)
      by false e f = let m = ltb-false n 10 e in more n m (f (omega arith))

pub spells_numbers : SpellsNumbers
spells_numbers = record {
  says =
      λ n. below (λ (k : ℕ). spelled 0 (decimal k) ≡ k)
      (λ k h. ap (spelled 0) (decimal_one k h) ∙ omega arith)
      (λ k h e. ap (spelled 0) (decimal_more k h) ∙ spelled_more (decimal (k / 10)) 0 (digit (k % 10)) ∙ omega (arith, e)) (suc n) n (omega arith);
  leading =
      λ n. below (λ (k : ℕ). 0 < k → 0x31 ≤ get_or (decimal k) 0 0)
      (λ k h p. omega (arith, ap (λ (l : List ℕ). get_or l 0 0) (decimal_one k h)))
      (λ k h f p. omega (arith, f (omega arith), ap (λ (l : List ℕ). get_or l 0 0) (decimal_more k h) ∙ get_or-append (decimal (k / 10)) (digit (k % 10) ∷ []) 0 0 (decimal_some (k / 10))))
      (suc n) n (omega arith);
}

-- ---- digits put from the last one on

-- what is put stands behind the digits of the rest, which still fit
pub record Digits (n end : ℕ) (put : List ℕ) (rest at : ℕ) : Type 0 where
  pub says : ended (decimal n) end ≡ decimal rest ++ drop at put
  pub fits : length (decimal rest) ≤ at
  pub within : at ≤ 20
  pub long : length put ≡ 21

drop_set : (l : List ℕ) (i d : ℕ) → i < length l → drop i (set l i d) ≡ d ∷ drop (i + 1) l
drop_set l i d h =
    let e : suc i ≡ i + 1 = omega arith in
    drop-cons (set l i d) i 0 (omega (arith, length-set l i d))
    ∙ ap₂ (λ (x : ℕ) (r : List ℕ). x ∷ r) (get_or-set_same l i d 0 h) (drop-set-lt (suc i) l i d (omega arith) ∙ ap (λ (k : ℕ). drop k l) e)

pub start : (n end : ℕ) (column : List ℕ) → n < 18446744073709551616 → length column ≡ 21 → Digits n end (set column 20 end) n 20
start n end column h l = record {
  says = ap (λ (x : List ℕ). decimal n ++ x) (sym (drop_set column 20 end (omega arith) ∙ ap (λ (x : List ℕ). end ∷ x) (drop_of_length-le column {i = 21} (omega arith))));
  fits = decimal_fits n h;
  within = omega arith;
  long = length-set column 20 end ∙ l;
}

module _ {n end : ℕ} {put : List ℕ} {rest at : ℕ} (s : Digits n end put rest at) where
  -- there is a place for the next digit
  pub placed : 0 < at
  placed = by (ltb rest 10) refl
    where
      by : (t : Bool) → ltb rest 10 ≡ t → 0 < at
      by true e = omega (arith, s.fits, ap length (decimal_one rest (ltb-true rest 10 e)))
      by false e = omega (arith, s.fits, more_long rest (ltb-false rest 10 e))

  put_one : (d : ℕ) → drop (at - 1) (set put (at - 1) d) ≡ d ∷ drop at put
  put_one d =
      let p = placed in
      let e : at - 1 + 1 ≡ at = omega arith in
      drop_set put (at - 1) d (omega (arith, s.within, s.long)) ∙ ap (λ (k : ℕ). d ∷ drop k put) e

  pub turn : 10 ≤ rest → Digits n end (set put (at - 1) (digit (rest % 10))) (rest / 10) (at - 1)
  turn h = record {
    says =
        s.says ∙ ap (λ (l : List ℕ). l ++ drop at put) (decimal_more rest h)
        ∙ append_assoc (decimal (rest / 10)) (digit (rest % 10) ∷ []) (drop at put)
        ∙ ap (λ (l : List ℕ). decimal (rest / 10) ++ l) (sym (put_one (digit (rest % 10))));
    fits = omega (arith, s.fits, more_long rest h);
    within = omega (arith, s.within);
    long = length-set put (at - 1) (digit (rest % 10)) ∙ s.long;
  }

  pub finish : rest < 10 → drop (at - 1) (set put (at - 1) (digit rest)) ≡ ended (decimal n) end
  finish h = put_one (digit rest) ∙ sym (s.says ∙ ap (λ (l : List ℕ). l ++ drop at put) (decimal_one rest h))
