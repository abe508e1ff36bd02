-- Tests joined: what they say of their parts, and what the parts say of them.
-- Assumes nothing.
use mathlib.Core.Path.{◌≡◌, refl, ap, ◌∙◌}
use Prim.Native.Nat.{ℕ}
use native.Mathlib.Omega.{arith}
use mathlib.Core.Bool.{Bool, true, false, ◌&&◌, ◌||◌}
use lib.Dec.{T}

-- a test does not hold and hold
pub never : {X : Type 0} → false ≡ true → X
never e = absurd (let z : ◌≡◌ {A = ℕ} 0 1 = cc in omega arith)

pub both : {a b : Bool} → a ≡ true → b ≡ true → (a && b) ≡ true
both {a} {b} ha hb = ap (λ (x : Bool). x && b) ha ∙ hb

pub first : (a b : Bool) → (a && b) ≡ true → a ≡ true
first true b h = refl
first false b h = h

pub second : (a b : Bool) → (a && b) ≡ true → b ≡ true
second true b h = h
second false b h = never h

pub split : (a b : Bool) → (a && b) ≡ true → (a ≡ true) × (b ≡ true)
split a b h = (first a b h, second a b h)

-- the same of tests that antt computes
pub T-first : (a b : Bool) → T (a && b) → T a
T-first true b t = tt
T-first false b t = t

pub T-second : (a b : Bool) → T (a && b) → T b
T-second true b t = t
T-second false b t = absurd t

pub and_true : (a : Bool) → a ≡ a && true
and_true true = refl
and_true false = refl

pub not_second : (a : Bool) {b : Bool} → b ≡ false → (a && b) ≡ false
not_second true h = h
not_second false h = refl

pub and_assoc : (a b c : Bool) → (a && b) && c ≡ a && (b && c)
and_assoc true b c = refl
and_assoc false b c = refl

pub or_false : (a : Bool) → a ≡ a || false
or_false true = refl
or_false false = refl

pub or_assoc : (a b c : Bool) → (a || b) || c ≡ a || (b || c)
or_assoc true b c = refl
or_assoc false b c = refl

pub or_second : (a : Bool) {b : Bool} → b ≡ true → a || b ≡ true
or_second true h = refl
or_second false h = h

pub neither : (a b : Bool) → (a || b) ≡ false → (a ≡ false) × (b ≡ false)
neither true b h = let e : true ≡ false = h in (cc, cc)
neither false b h = (refl, h)
