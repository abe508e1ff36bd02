-- The state of `clear`'s loop: what is passed is cleared, and behind it whole fifteens of bytes are left, and one.
-- Assumes nothing.
use mathlib.Core.Path.{◌≡◌, refl, sym, ap, ap₂, ◌∙◌}
use mathlib.Core.List.{List, ◌∷◌, ◌++◌, append_assoc, append-nil}
use Prim.Native.Nat.{ℕ, suc, ◌+◌, ◌-◌, ◌%◌, ◌≤◌, ◌<◌}
use native.Mathlib.Omega.{arith}
use lib.ListN.{length, take, set, replicate, replicate-append-replicate, drop_of_length-le}
use lib.Seq.{set_split}
use Rattle.room.specs.Laid.{laid}
use Rattle.room.proofs.LawsLaid.{length_laid, take_front, laid_then}
use Rattle.bits.specs.Digits.{digits}

pub record State (field₀ field : List ℕ) (from k : ℕ) : Type 0 where
  pub after : from ≤ k
  pub here : k < length field₀
  pub even : (length field₀ - k) % 15 ≡ 1
  pub says : take k field ≡ take from field₀ ++ replicate (k - from) 0
  pub long : length field ≡ length field₀

pub start : (field : List ℕ) (from : ℕ) → from < length field → (length field - from) % 15 ≡ 1 → State field field from from
start field from h e = record {
  after = omega arith;
  here = h;
  even = e;
  says = let z : from - from ≡ 0 = omega arith in sym (ap (λ (n : ℕ). take from field ++ replicate n 0) z ∙ append-nil (take from field));
  long = refl;
}

zero_digits : digits 256 8 0 ≡ replicate 8 0
unfolding digits
zero_digits = refl

-- n zeros more behind those that are there
more : (front : List ℕ) (from k n : ℕ) → from ≤ k → front ++ replicate (k - from) 0 ++ replicate n 0 ≡ front ++ replicate (k + n - from) 0
more front from k n h =
    let e : (k - from) + n ≡ k + n - from = omega arith in
    append_assoc front (replicate (k - from) 0) (replicate n 0)
    ∙ ap (λ (l : List ℕ). front ++ l) (replicate-append-replicate (k - from) n 0 ∙ ap (λ (m : ℕ). replicate m 0) e)

module _ {field₀ field : List ℕ} {from k : ℕ} (s : State field₀ field from k) where
  -- sixteen zeros are written, and fifteen passed
  pub turn : 16 ≤ length field - k → {field₁ field₂ : List ℕ} → field₁ ≡ laid field k (digits 256 8 0) → field₂ ≡ laid field₁ (k + 8) (digits 256 8 0)
      → State field₀ field₂ from (k + 15)
  turn h {field₁} {field₂} e₁ e₂ =
      let eight : List ℕ = replicate 8 0 in
      let zeros : List ℕ = replicate 15 0 in
      let last : List ℕ = replicate 1 0 in
      let inside : k ≤ length field = omega arith in
      let all : field₂ ≡ laid field k (zeros ++ last) =
      laid_then field k eight eight (k + 8) (e₁ ∙ ap (laid field k) zero_digits) (e₂ ∙ ap (laid field₁ (k + 8)) zero_digits) refl inside in record {
        after = omega (arith, s.after);
        here = omega (arith, s.long);
        even = omega (arith, s.even, s.long);
        says = ap (take (k + 15)) all ∙ take_front field k zeros last inside ∙ ap (λ (l : List ℕ). l ++ zeros) s.says ∙ more (take from field₀) from k 15 s.after;
        long = ap length all ∙ length_laid field k (zeros ++ last) (omega arith) ∙ s.long;
      }

  -- one byte is left
  pub finish : length field - k < 16 → set field k 0 ≡ take from field₀ ++ replicate (length field₀ - from) 0
  finish h =
      let one : length field₀ ≡ k + 1 = omega (arith, s.even, s.long, s.here) in
      let past : length field ≤ suc k = omega (arith, s.long) in
      set_split field k 0 (omega (arith, s.long, s.here))
      ∙ ap₂ (λ (x y : List ℕ). x ++ 0 ∷ y) s.says (drop_of_length-le field past)
      ∙ more (take from field₀) from k 1 s.after
      ∙ ap (λ (n : ℕ). take from field₀ ++ replicate (n - from) 0) (sym one)
