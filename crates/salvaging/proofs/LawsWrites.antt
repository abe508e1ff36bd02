-- A field's front, three times a copy and what lies behind the copies, laid one after the other, are the field of the block that is made.
-- Assumes nothing.
use Prim.Native.Nat.{ℕ, ◌+◌, ◌-◌, ◌*◌, ◌≤◌, ◌<◌}
use mathlib.Core.Path.{◌≡◌, refl, sym, ap, ap₂, ◌∙◌}
use mathlib.Core.List.{List, ◌++◌, append_assoc}
use native.Mathlib.Omega.{arith}
use lib.ListN.{length, take, drop, length-append, length-drop}
use lib.Seq.{take-add, drop_at, length-take-le}
use Rattle.room.specs.Laid.{laid, laid_inside}
use Rattle.room.proofs.LawsLaid.{laid_inside_is, laid_then}
use Rattle.copies.specs.Copies.{copy_length, copies_length, copy_at}
use Rattle.recording.specs.Fields.{front_of, written}
use Rattle.made.specs.Made.{length_by, thrice, made}
use Rattle.made.proofs.LawsMade.{copy_whole, made_long, length_least}
use Rattle.salvaging.specs.Pieces.{field_by}

-- what is dropped from the front of what is taken is taken behind it
pub drop_take : (a n : ℕ) (xs : List ℕ) → a ≤ n → n ≤ length xs → drop a (take n xs) ≡ take (n - a) (drop a xs)
drop_take a n xs h l =
    let e : n ≡ a + (n - a) = omega arith in
    ap (λ (m : ℕ). drop a (take m xs)) e ∙ ap (drop a) (take-add a (n - a) xs) ∙ drop_at (take a xs) (take (n - a) (drop a xs)) a (length-take-le a xs (omega arith))

module _ (k bytes : ℕ) (rest : List ℕ) (one : k < 3) (is : bytes ≡ length_by k rest) (inside : bytes ≤ length rest) where
  abbrev c : List ℕ
  c = copy_at k rest

  abbrev t : List ℕ
  t = take (bytes - copies_length) (drop copies_length rest)

  in_rest : length_by k rest ≤ length rest
  in_rest = omega arith

  pub body_least : 2772 ≤ bytes
  body_least = omega (arith, length_least k rest)

  body_is : made k rest ≡ thrice c ++ t
  unfolding made
  body_is =
      ap (λ (n : ℕ). thrice c ++ drop copies_length (take n rest)) (sym is)
      ∙ ap (λ (l : List ℕ). thrice c ++ l) (drop_take copies_length bytes rest (omega (arith, body_least)) inside)

  field_is : front_of 1 bytes ++ (thrice c ++ t) ≡ written (field_by k rest)
  field_is = ap₂ (λ (n : ℕ) (l : List ℕ). front_of 1 n ++ l) (is ∙ sym (made_long k rest one in_rest)) (sym body_is)

  pub block_put : (r : List ℕ) (at : ℕ) {r₁ r₂ r₃ r₄ r₅ f : List ℕ} → at + 3 + bytes ≤ length r → f ≡ front_of 1 bytes
      → r₁ ≡ laid_inside r at f
      → r₂ ≡ laid r₁ (at + 3) (copy_at k rest) → r₃ ≡ laid r₂ (at + 3 + copy_length) (copy_at k rest) → r₄ ≡ laid r₃ (at + 3 + 2 * copy_length) (copy_at k rest)
      → r₅ ≡ laid r₄ (at + 3 + copies_length) t
      → r₅ ≡ laid r at (written (field_by k rest))
  block_put r at {r₁} {r₂} {r₃} {r₄} {r₅} {f} room fe e₁ e₂ e₃ e₄ e₅ =
      let F : List ℕ = front_of 1 bytes in
      let lc : length c ≡ copy_length = copy_whole k rest one in_rest in
      let lt : length t ≡ bytes - copies_length = length-take-le (bytes - copies_length) (drop copies_length rest) (omega (arith, length-drop copies_length rest)) in
      let l₁ : length (F ++ c) ≡ 33 = omega (arith, length-append F c) in
      let l₂ : length ((F ++ c) ++ c) ≡ 63 = omega (arith, length-append (F ++ c) c) in
      let l₃ : length (((F ++ c) ++ c) ++ c) ≡ 93 = omega (arith, length-append ((F ++ c) ++ c) c) in
      let least = body_least in
      let p₁ : r₁ ≡ laid r at F = e₁ ∙ ap (laid_inside r at) fe ∙ laid_inside_is r at F (omega arith) in
      let p₂ : r₂ ≡ laid r at (F ++ c) = laid_then r at F c (at + 3) p₁ e₂ refl (omega arith) in
      let p₃ : r₃ ≡ laid r at ((F ++ c) ++ c) = laid_then r at (F ++ c) c (at + 3 + copy_length) p₂ e₃ (omega arith) (omega arith) in
      let p₄ : r₄ ≡ laid r at (((F ++ c) ++ c) ++ c) = laid_then r at ((F ++ c) ++ c) c (at + 3 + 2 * copy_length) p₃ e₄ (omega arith) (omega arith) in
      let p₅ : r₅ ≡ laid r at ((((F ++ c) ++ c) ++ c) ++ t) =
      laid_then r at (((F ++ c) ++ c) ++ c) t (at + 3 + copies_length) p₄ e₅ (omega arith) (omega arith) in
      let flat : (((F ++ c) ++ c) ++ c) ++ t ≡ F ++ (thrice c ++ t) =
      append_assoc ((F ++ c) ++ c) c t ∙ append_assoc (F ++ c) c (c ++ t) ∙ append_assoc F c (c ++ (c ++ t))
      ∙ ap (λ (l : List ℕ). F ++ l) (ap (λ (l : List ℕ). c ++ l) (sym (append_assoc c c t)) ∙ sym (append_assoc c (c ++ c) t)) in
      p₅ ∙ ap (laid r at) (flat ∙ field_is)
