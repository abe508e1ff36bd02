-- An array whose elements a closure makes, index by index: each is what the closure gives there.
-- Assumes nothing.
use mathlib.Core.Path.{◌≡◌, refl, sym, subst, ap, ap₂, ◌∙◌}
use mathlib.Core.List.{List, [], ◌∷◌, map}
use Prim.Native.Nat.{ℕ, zero, suc, ◌+◌, ◌≤◌, ◌<◌}
use native.Mathlib.Omega.{arith}
use lib.ListN.{length, get_or}
use denote.Param.Members.{Mut}
use Rattle.std.specs.Fn.{Called}
use Rattle.std.specs.List.{range_with_len}
use Rattle.std.specs.Array.{IsFromFnResultFrom, IsFromFnResult}

module _ {F A B : Type 0} (g : Mut F (ℕ × Unit {0}) A) (shown : A → B) (value : ℕ → B) (f : F) (most : ℕ)
    (gives : (k : ℕ) (y : A) (q : F) → k < most → Called g f (k, tt) y q → (shown y ≡ value k) × (q ≡ f)) where
  from_at : (ys : List A) (d : A) (i n : ℕ) → i + n ≤ most → IsFromFnResultFrom g f ys i n
      → (j k : ℕ) → j < n → k ≡ i + j → shown (get_or ys k d) ≡ value k
  from_at ys d i zero h made j k low e = absurd (omega arith)
  from_at ys d i (suc n) h made zero k low e =
      let here : k ≡ i = omega arith in
      subst (λ (m : ℕ). shown (get_or ys m d) ≡ value m) (sym here)
      (ap shown (made.2.1 d) ∙ (gives i made.1 made.0 (omega arith) made.3).0)
  from_at ys d i (suc n) h made (suc j) k low e =
      let same = (gives i made.1 made.0 (omega arith) made.3).1 in
      from_at ys d (i + 1) n (omega arith) (subst (λ (q : F). IsFromFnResultFrom g q ys (i + 1) n) same made.4) j k (omega arith) (omega arith)

  pub made_at : (ys : List A) (d : A) → IsFromFnResult g f ys most → (k : ℕ) → k < most → shown (get_or ys k d) ≡ value k
  made_at ys d made k h = from_at ys d 0 most (omega arith) made.each k k h (omega arith)

  one_by_one : (ys : List A) (i : ℕ) → ((d : A) (k : ℕ) → k < length ys → shown (get_or ys k d) ≡ value (i + k))
      → map shown ys ≡ map value (range_with_len i (length ys))
  one_by_one [] i h = refl
  one_by_one (y ∷ ys) i h =
      let first : i + 0 ≡ i = omega arith in
      ap₂ (λ (x : B) (l : List B). x ∷ l) (h y 0 (omega arith) ∙ ap value first)
      (one_by_one ys (i + 1) (λ d k b. let on : i + suc k ≡ i + 1 + k = omega arith in h d (suc k) (omega arith) ∙ ap value on))

  pub made_all : (ys : List A) → IsFromFnResult g f ys most → map shown ys ≡ map value (range_with_len 0 most)
  made_all ys made =
      one_by_one ys 0 (λ d k h. let there : k ≡ 0 + k = omega arith in made_at ys d made k (omega (arith, h, made.long)) ∙ ap value there)
      ∙ ap (λ (n : ℕ). map value (range_with_len 0 n)) made.long
