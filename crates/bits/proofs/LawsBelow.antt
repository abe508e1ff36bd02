-- Lists of numbers below a bound.
-- Assumes nothing.
use mathlib.Core.List.{List, [], ◌∷◌, ◌++◌}
use Prim.Native.Nat.{ℕ, zero, suc, ◌<◌}
use lib.ListN.{take, drop, get_or, replicate}
use Rattle.bits.specs.Bits.{Below}

pub below_append : (n : ℕ) (xs ys : List ℕ) → Below n xs → Below n ys → Below n (xs ++ ys)
below_append n [] ys h k = k
below_append n (x ∷ xs) ys h k = (h.0, below_append n xs ys h.1 k)

pub below_left : (n : ℕ) (xs ys : List ℕ) → Below n (xs ++ ys) → Below n xs
below_left n [] ys h = tt
below_left n (x ∷ xs) ys h = (h.0, below_left n xs ys h.1)

pub below_right : (n : ℕ) (xs ys : List ℕ) → Below n (xs ++ ys) → Below n ys
below_right n [] ys h = h
below_right n (x ∷ xs) ys h = below_right n xs ys h.1

pub below_take : (n k : ℕ) (xs : List ℕ) → Below n xs → Below n (take k xs)
below_take n zero xs h = tt
below_take n (suc k) [] h = tt
below_take n (suc k) (x ∷ xs) h = (h.0, below_take n k xs h.1)

pub below_drop : (n k : ℕ) (xs : List ℕ) → Below n xs → Below n (drop k xs)
below_drop n zero xs h = h
below_drop n (suc k) [] h = tt
below_drop n (suc k) (x ∷ xs) h = below_drop n k xs h.1

pub below_replicate : (n k x : ℕ) → x < n → Below n (replicate k x)
below_replicate n zero x h = tt
below_replicate n (suc k) x h = (h, below_replicate n k x h)

-- by places
pub below_at : (n : ℕ) (xs : List ℕ) → zero < n → Below n xs → (k : ℕ) → get_or xs k 0 < n
below_at n [] p h k = p
below_at n (x ∷ xs) p h zero = h.0
below_at n (x ∷ xs) p h (suc k) = below_at n xs p h.1 k

pub below_all : (n : ℕ) (xs : List ℕ) → ((k : ℕ) → get_or xs k 0 < n) → Below n xs
below_all n [] h = tt
below_all n (x ∷ xs) h = (h 0, below_all n xs (λ k. h (suc k)))
