-- A test at each number below a bound, which antt computes, and what it shows of any one of them.
-- Assumes nothing.
use mathlib.Core.Bool.{Bool, true, ◌&&◌}
use Prim.Native.Nat.{ℕ, zero, suc, ◌<◌}
use native.Mathlib.Nat.{le_of_suc-le-suc, not-suc-le-zero}
use lib.Dec.{T}
use Rattle.ground.proofs.LawsTests.{T-first, T-second}

abbrev pub below : ℕ → (ℕ → Bool) → Bool
below zero p = true
below (suc n) p = p zero && below n (λ k. p (suc k))

pub below_at : (n : ℕ) (p : ℕ → Bool) → T (below n p) → (k : ℕ) → k < n → T (p k)
below_at zero p t k h = absurd (not-suc-le-zero h)
below_at (suc n) p t zero h = T-first (p zero) (below n (λ k. p (suc k))) t
below_at (suc n) p t (suc k) h =
    below_at n (λ k. p (suc k)) (T-second (p zero) (below n (λ k. p (suc k))) t) k (le_of_suc-le-suc h)
