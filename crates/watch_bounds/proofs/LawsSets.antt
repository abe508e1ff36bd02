-- A set of blocks, by its bits: all its blocks are below n where the number is below 2 ^ n, and no others are such. With one block more,
-- above them all, it has that block and the others as before, and counts one more. Sets of the same blocks are equal.
-- Assumes nothing.
use mathlib.Core.Path.{◌≡◌, refl, sym, ap, ◌∙◌, subst}
use mathlib.Core.Logic.{◌⊎◌, ◌↔◌, inl, inr}
use Prim.Native.Nat.{ℕ, zero, suc, ◌+◌, ◌-◌, ◌*◌, ◌/◌, ◌%◌, ◌^◌, ◌≤◌, ◌<◌}
use native.Mathlib.Nat.{one-mul, zero-add, add_comm, zero-lt-suc, lt_of_lt_of_le, lt_of_not-le, not-le_of_lt, le_of_suc-le-suc, eq-or-lt_of_le, pow-suc, div-one}
use native.Mathlib.Numerals.{one-add}
use native.Mathlib.Omega.{arith}
use mathlib.Core.Bool.{Bool, true, false}
use lib.Arith.{lt-one}
use lib.Dec.{eqb, lit<}
use lib.Pow.{pow_pos, pow_mono, shr-shr, shl_exact, high}
use lib.Bits.{block_half, block_odd}
use lib.Count.{ones, ones_cat, leading_top}
use borrow.Author.Tests.{eqb-true, eqb-false}
use Rattle.watch_bounds.specs.Sets.{Has}

-- ---- the bounds of a set

-- a bit that is set counts
at_least : (set b : ℕ) → Has set b → 2 ^ b ≤ set
at_least set b h = le_of_suc-le-suc (lt_of_not-le (λ (k : suc set ≤ 2 ^ b). not_one (sym (ap (λ (q : ℕ). q % 2) (small k)) ∙ h)))
  where
    small : set < 2 ^ b → set / 2 ^ b ≡ 0
    small k = ap (λ (n : ℕ). n / 2 ^ b) nothing ∙ high 0 b k
      where
        nothing : set ≡ 0 * 2 ^ b + set
        nothing = omega arith

    not_one : 0 % 2 ≡ 1 → ⊥
    not_one e = omega arith

pub below_all : (set n b : ℕ) → set < 2 ^ n → Has set b → b < n
below_all set n b h i = lt_of_not-le (λ (k : n ≤ b). not-le_of_lt (lt_of_lt_of_le h (pow_mono k)) (at_least set b i))

pub none_in_empty : (b : ℕ) → Has 0 b → ⊥
none_in_empty b h = let l : b < 0 = below_all 0 0 b (zero-lt-suc 0) h in omega arith

pub below_later : (set n m : ℕ) → n ≤ m → set < 2 ^ n → set < 2 ^ m
below_later set n m k h = lt_of_lt_of_le h (pow_mono {i = n} {j = m} k)

pub below_power : (n : ℕ) → n < 2 ^ n
below_power zero = zero-lt-suc 0
below_power (suc n) = omega (arith, below_power n, pow-suc 2 n)

-- the highest bit
is_top : (set j : ℕ) → 2 ^ j ≤ set → set < 2 ^ suc j → Has set j
is_top set j l h =
    let rest : set ≡ 1 * 2 ^ j + (set - 2 ^ j) = omega arith in
    ap (λ (n : ℕ). n / 2 ^ j % 2) rest ∙ ap (λ (q : ℕ). q % 2) (high 1 j (omega (arith, pow-suc 2 j)))

-- a set that is too large has a block that is not below n
pub top_block : (set n : ℕ) → 2 ^ n ≤ set → (b : ℕ) × Has set b × (n ≤ b)
top_block set n l =
    let top = leading_top set set (lt_of_lt_of_le (pow_pos n) l) (below_power set) in
    (top.0, is_top set top.0 top.2 top.3, le_of_suc-le-suc (lt_of_not-le (λ (inside : suc top.0 ≤ n). not-le_of_lt (lt_of_lt_of_le top.3 (pow_mono inside)) l)))

pub all_below : (set n : ℕ) → ((b : ℕ) → Has set b → b < n) → set < 2 ^ n
all_below set n f = lt_of_not-le (λ (l : 2 ^ n ≤ set). let t = top_block set n l in not-le_of_lt (f t.0 t.1) t.2)

-- ---- one block more

-- 1 moved up by a block's number is the set of that block, and no bit is lost
pub moved : (b : ℕ) → b ≤ 10 → (1 * 2 ^ b) % 2 ^ 32 ≡ 2 ^ b
moved b h = shl_exact 1 b 32 (lit< tt) (omega arith) ∙ one-mul (2 ^ b)

one_first : (set b : ℕ) → set + 2 ^ b ≡ 1 * 2 ^ b + set
one_first set b = omega arith

-- the bits of a number's half are its own, one place up
halved : (n b : ℕ) → n / 2 / 2 ^ b ≡ n / 2 ^ suc b
halved n b = shr-shr n 1 b ∙ ap (λ (j : ℕ). n / 2 ^ j) (one-add b)

-- the bits below it are what they were
lower : (b k r : ℕ) → k < b → (1 * 2 ^ b + r) / 2 ^ k % 2 ≡ r / 2 ^ k % 2
lower zero k r h = absurd (omega arith)
lower (suc b) zero r h = ap (λ (n : ℕ). n % 2) (div-one (1 * 2 ^ suc b + r)) ∙ block_odd 1 b r ∙ ap (λ (n : ℕ). n % 2) (sym (div-one r))
lower (suc b) (suc k) r h =
    ap (λ (n : ℕ). n % 2) (sym (halved (1 * 2 ^ suc b + r) k) ∙ ap (λ (n : ℕ). n / 2 ^ k) (block_half 1 b r))
    ∙ lower b k (r / 2) (omega arith)
    ∙ ap (λ (n : ℕ). n % 2) (halved r k)

module _ (set b : ℕ) (h : set < 2 ^ b) where
  pub it_has : Has (set + 2 ^ b) b
  it_has = ap (λ (n : ℕ). n / 2 ^ b % 2) (one_first set b) ∙ ap (λ (q : ℕ). q % 2) (high 1 b h)

  same : (k : ℕ) → k < b → (set + 2 ^ b) / 2 ^ k % 2 ≡ set / 2 ^ k % 2
  same k l = ap (λ (n : ℕ). n / 2 ^ k % 2) (one_first set b) ∙ lower b k set l

  pub still_has : (k : ℕ) → Has set k → Has (set + 2 ^ b) k
  still_has k i = same k (below_all set b k h i) ∙ i

  pub grown : set + 2 ^ b < 2 ^ suc b
  grown = omega (arith, pow-suc 2 b)

  pub had : (k : ℕ) → Has (set + 2 ^ b) k → Has set k ⊎ (k ≡ b)
  had k i = by (eq-or-lt_of_le (le_of_suc-le-suc (below_all (set + 2 ^ b) (suc b) k grown i)))
    where
      by : (k ≡ b) ⊎ (k < b) → Has set k ⊎ (k ≡ b)
      by (inl e) = inr e
      by (inr l) = inl (sym (same k l) ∙ i)

  pub one_more : ones (set + 2 ^ b) ≡ ones set + 1
  unfolding ones
  one_more = ap ones (one_first set b) ∙ ones_cat b 1 set h ∙ add_comm 1 (ones set)

-- ---- a block alone, and sets of the same blocks

pub only : (b k : ℕ) → Has (2 ^ b) k ↔ (k ≡ b)
only b k = (λ h. was (had 0 b (pow_pos b) k (subst (λ (n : ℕ). Has n k) (sym (zero-add (2 ^ b))) h)), λ e. subst (Has (2 ^ b)) (sym e) (subst (λ (n : ℕ). Has n b) (zero-add (2 ^ b)) (it_has 0 b (pow_pos b))))
  where
    was : Has 0 k ⊎ (k ≡ b) → k ≡ b
    was (inl i) = absurd (none_in_empty k i)
    was (inr e) = e

same_digit : (x y : ℕ) → (x % 2 ≡ 1 → y % 2 ≡ 1) → (y % 2 ≡ 1 → x % 2 ≡ 1) → x % 2 ≡ y % 2
same_digit x y f g = by (eqb (x % 2) 1) (eqb (y % 2) 1) refl refl
  where
    by : (s t : Bool) → eqb (x % 2) 1 ≡ s → eqb (y % 2) 1 ≡ t → x % 2 ≡ y % 2
    by true t d e = let p = eqb-true (x % 2) 1 d in p ∙ sym (f p)
    by false true d e = let p = eqb-true (y % 2) 1 e in g p ∙ sym p
    by false false d e = omega (arith, eqb-false (x % 2) 1 d, eqb-false (y % 2) 1 e)

same_below : (n x y : ℕ) → x < 2 ^ n → y < 2 ^ n → ((b : ℕ) → Has x b ↔ Has y b) → x ≡ y
same_below zero x y h k f = lt-one h ∙ sym (lt-one k)
same_below (suc n) x y h k f =
    let rest : x / 2 ≡ y / 2 =
    same_below n (x / 2) (y / 2) (omega (arith, pow-suc 2 n)) (omega (arith, pow-suc 2 n)) (λ b. (λ i. down y b ((f (suc b)).0 (up x b i)), λ i. down x b ((f (suc b)).1 (up y b i)))) in
    let digit : x % 2 ≡ y % 2 = same_digit x y (λ i. lowest y ((f 0).0 (first x i))) (λ i. lowest x ((f 0).1 (first y i))) in
    omega (arith, rest, digit)
  where
    up : (n b : ℕ) → Has (n / 2) b → Has n (suc b)
    up n b i = ap (λ (m : ℕ). m % 2) (sym (halved n b)) ∙ i

    down : (n b : ℕ) → Has n (suc b) → Has (n / 2) b
    down n b i = ap (λ (m : ℕ). m % 2) (halved n b) ∙ i

    lowest : (n : ℕ) → Has n 0 → n % 2 ≡ 1
    lowest n i = ap (λ (m : ℕ). m % 2) (sym (div-one n)) ∙ i

    first : (n : ℕ) → n % 2 ≡ 1 → Has n 0
    first n i = ap (λ (m : ℕ). m % 2) (div-one n) ∙ i

pub same_number : (x y : ℕ) → ((b : ℕ) → Has x b ↔ Has y b) → x ≡ y
same_number x y f = same_below (x + y) x y (both x y) (subst (λ (n : ℕ). y < 2 ^ n) (add_comm y x) (both y x)) f
  where
    both : (m n : ℕ) → m < 2 ^ (m + n)
    both m n = below_later m m (m + n) (omega arith) (below_power m)
