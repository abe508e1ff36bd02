-- What is promised of a floating number, for every word, said from its exponent e and its fraction f, without division: the word is
-- e * 2 ^ 24 + f, or 2 ^ 32 less that. The proofs are in proofs/KeepsFloating.antt and proofs/KeepsOrder.antt.
-- Assumes nothing.
use Rattle.std.specs.Prelude.{ℕ, ◌+◌, ◌-◌, ◌*◌, ◌^◌, ◌≤◌, ◌<◌, ◌≡◌, ◌⊎◌, ◌↔◌, Bool, true, false, T, pos, negsuc, Float}
use Rattle.std.specs.Float.{fin, binary64}
use Rattle.std.specs.Float.Ieee.{fits, neg, lt}
use Rattle.std.specs.Float.Ieee.Exact.{HasValue}
use Rattle.floating.specs.declared.Reading.{Reading}
use Rattle.floating.specs.declared.Reading.TheVariants.{Number, Zero, NotNormal}
use Rattle.floating.specs.Floating.{reading_of}
use Rattle.floating.specs.Cases.{case_of, value_of}

-- x is the whole number a times the power 2 ^ -280, with a sign, exactly; and the double holds it, so there is nothing to round.
pub record IsExactly (x : Float) (negative : Bool) (a : ℕ) : Type 0 where
  pub value : HasValue x negative a (2 ^ 280)
  pub held : T (fits binary64 x)

-- A reading that is a number: f / 2 ^ 24 * 16 ^ (e - 64) is f * 16 ^ e times 2 ^ -280.
abbrev pub IsNumber : Reading → Bool → ℕ → ℕ → Type 0
IsNumber reading negative e f = (x : Float) × (reading ≡ Number x) × IsExactly x negative (f * 16 ^ e)

-- seven bits, and 24 bits of which the top four are not all zero, or are
pub record Normal (e f : ℕ) : Type 0 where
  pub exponent : e < 128
  pub from_here : 0x100000 ≤ f
  pub below_one : f < 0x1000000

pub record Low (e f : ℕ) : Type 0 where
  pub exponent : e < 128
  pub top_zero : f < 0x100000

-- The sign bit alone has no magnitude of seven and 24 bits; it is its own complement, and the four bits are zero in it.
pub record Reading32 : Type 0 where
  pub zero : reading_of 0 ≡ Zero
  pub positive : (e f : ℕ) → Normal e f → IsNumber (reading_of (e * 0x1000000 + f)) false e f
  pub negative : (e f : ℕ) → Normal e f → IsNumber (reading_of (0x100000000 - (e * 0x1000000 + f))) true e f
  pub not_normal : (e f : ℕ) → Low e f → 0 < e + f → reading_of (e * 0x1000000 + f) ≡ NotNormal
  pub not_normal_negative : (e f : ℕ) → Low e f → 0 < e + f → reading_of (0x100000000 - (e * 0x1000000 + f)) ≡ NotNormal
  pub lone_sign : reading_of 0x80000000 ≡ NotNormal

-- These are all words, each of them once: 0; the sign bit alone; and else an exponent and a fraction with a sign, in one way.
abbrev pub WordOf : ℕ → Bool → ℕ → ℕ → Type 0
WordOf w false e f = w ≡ e * 0x1000000 + f
WordOf w true e f = w + (e * 0x1000000 + f) ≡ 0x100000000

pub record Parts (w : ℕ) : Type 0 where
  pub negative : Bool
  pub exponent : ℕ
  pub fraction : ℕ
  pub seven_bits : exponent < 128
  pub below_one : fraction < 0x1000000
  pub not_zero : 0 < exponent + fraction
  pub word : WordOf w negative exponent fraction

pub record Covering : Type 0 where
  pub all : (w : ℕ) → w < 0x100000000 → (w ≡ 0) ⊎ ((w ≡ 0x80000000) ⊎ Parts w)
  pub once : (w : ℕ) (p q : Parts w) → (p.negative ≡ q.negative) × (p.exponent ≡ q.exponent) × (p.fraction ≡ q.fraction)
  -- zero is the word 0, and no other
  pub zero : (w : ℕ) → (reading_of w ≡ Zero) ↔ (w ≡ 0)

-- The complement of a word reads as the negative.
abbrev pub opposite : Reading → Reading
opposite (Number x) = Number (neg x)
opposite Zero = Zero
opposite NotNormal = NotNormal

abbrev pub Negating : Type 0
Negating = (w : ℕ) → 0 < w → w < 0x100000000 → reading_of (0x100000000 - w) ≡ opposite (reading_of w)

-- Numbers come in the order of their words: those without the sign bit, those with it, and the latter before the former.
abbrev pub Less : ℕ → ℕ → Type 0
Less u v = (x y : Float) → reading_of u ≡ Number x → reading_of v ≡ Number y → lt x y ≡ true

pub record Ordering : Type 0 where
  pub sizes : (e f e' f' : ℕ) → Normal e f → Normal e' f' → e * 0x1000000 + f < e' * 0x1000000 + f' → f * 16 ^ e < f' * 16 ^ e'
  pub positive : (u v : ℕ) → u < v → v < 0x80000000 → Less u v
  pub negative : (u v : ℕ) → 0x80000000 ≤ u → u < v → v < 0x100000000 → Less u v
  pub between : (u v : ℕ) → 0x80000000 ≤ u → u < 0x100000000 → v < 0x80000000 → Less u v

-- The numbers of the three cases, and the value beside each.
pub record Numbered : Type 0 where
  pub zero : (case_of Zero ≡ 0) × (value_of Zero ≡ fin false 0 (pos 0))
  pub number : (x : Float) → (case_of (Number x) ≡ 1) × (value_of (Number x) ≡ x)
  pub not_normal : (case_of NotNormal ≡ 2) × (value_of NotNormal ≡ fin false 0 (pos 0))

-- The six examples of section 3.5.4, and others; `fin s m (pos k)` is m * 2 ^ k and `fin s m (negsuc k)` is m / 2 ^ (k + 1).
pub record Examples : Type 0 where
  pub minus_one : reading_of 0xBEF00000 ≡ Number (fin true 1 (pos 0))
  -- 21 / 128 is 0.1640625
  pub minus_part : reading_of 0xBFD60000 ≡ Number (fin true 21 (negsuc 6))
  pub zero : reading_of 0x00000000 ≡ Zero
  pub part : reading_of 0x402A0000 ≡ Number (fin false 21 (negsuc 6))
  pub one : reading_of 0x41100000 ≡ Number (fin false 1 (pos 0))
  -- 12821 / 128 is 100.1640625
  pub hundred : reading_of 0x42642A00 ≡ Number (fin false 12821 (negsuc 6))
  pub least : reading_of 0xFFF00000 ≡ Number (fin true 1 (negsuc 259))
  pub largest : reading_of 0x7FFFFFFF ≡ Number (fin false 0xFFFFFF (pos 228))
  pub lone_sign : reading_of 0x80000000 ≡ NotNormal
  pub sign_and_exponent : reading_of 0xC0000000 ≡ NotNormal
  pub low_fraction : reading_of 0x410FFFFF ≡ NotNormal
