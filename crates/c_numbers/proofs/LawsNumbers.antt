-- A number as the library holds it: the largest that it holds where the number is more, else the number itself. A mark that C was given
-- is read as it was.
-- Assumes nothing.
use Rattle.std.specs.Prelude.{Result, Ok, Err, OkIff}
use Rattle.std.specs.Result.{result_unwrap_or}
use Prim.Native.Nat.{ℕ, ◌+◌, ◌<◌, ◌≤◌}
use mathlib.Core.Path.{◌≡◌, refl, ◌∙◌}
use native.Mathlib.Omega.{arith}
use mathlib.Core.Bool.{Bool, true, false, not}
use lib.Dec.{eqb, ltb}
use borrow.Author.Tests.{lt-ltb, le-ltb, ltb-true, ltb-false}
use Rattle.c_numbers.specs.Numbers.{up_to}
use Rattle.c_numbers.specs.Marks.{mark}

module _ (most n : ℕ) where
  pub over : most < n → most ≡ up_to most n
  unfolding up_to
  over h = rw (lt-ltb most n h)

  pub within : n ≤ most → n ≡ up_to most n
  unfolding up_to
  within h = rw (le-ltb most n h)

-- what a conversion that is tried gives, or else the largest
pub tried : {E : Type 0} (most n : ℕ) (r : Result ℕ E) → OkIff r (n < most + 1) n → result_unwrap_or r most ≡ up_to most n
tried most n (Ok x) h = h.1 ∙ within most n (omega (arith, h.0))
tried most n (Err e) h = over most n (more (ltb n (most + 1)) refl)
  where
    more : (t : Bool) → ltb n (most + 1) ≡ t → most < n
    more true e = absurd (h (ltb-true n (most + 1) e))
    more false e = omega (arith, ltb-false n (most + 1) e)

pub marked : (on : Bool) → not (eqb (mark on) 0) ≡ on
marked true = refl
marked false = refl
