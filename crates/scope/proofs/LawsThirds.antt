-- Words tested in three parts and the rest, by the bits of each part joined.
-- Assumes nothing.
use mathlib.Core.Path.{◌≡◌, refl, sym, ap, ◌∙◌}
use mathlib.Core.Bool.{Bool, ◌&&◌}
use mathlib.Core.List.{List, [], ◌∷◌, ◌++◌}
use Prim.Native.Nat.{ℕ, ◌+◌, ◌*◌, ◌^◌}
use native.Mathlib.Omega.{arith}
use lib.Dec.{ltb}
use lib.ListN.{take, drop, take-append-drop}
use lib.Seq.{drop-drop}
use lib.Bits.{bit_or}
use Rattle.ground.proofs.LawsTests.{and_true, and_assoc}
use Rattle.bits.specs.Fields.{all_fit}
use Rattle.bits.proofs.LawsFill.{fit_joined}

fit_append : (size : ℕ) (xs ys : List ℕ) → all_fit size (xs ++ ys) ≡ all_fit size xs && all_fit size ys
unfolding all_fit
fit_append size [] ys = refl
fit_append size (x ∷ xs) ys =
    ap (λ (t : Bool). ltb x (2 ^ size) && t) (fit_append size xs ys) ∙ sym (and_assoc (ltb x (2 ^ size)) (all_fit size xs) (all_fit size ys))

or_fits : (size a b : ℕ) → ltb (bit_or a b) (2 ^ size) ≡ ltb a (2 ^ size) && ltb b (2 ^ size)
unfolding all_fit
or_fits size a b = fit_joined size a (b ∷ []) ∙ ap (λ (t : Bool). ltb a (2 ^ size) && t) (sym (and_true (ltb b (2 ^ size))))

-- all fit where the bits of the three parts of n do, and each word of the rest
module _ (size n : ℕ) (ws : List ℕ) where
  fit_part : (at : ℕ) → all_fit size (drop at ws) ≡ all_fit size (take n (drop at ws)) && all_fit size (drop (at + n) ws)
  fit_part at =
      ap (all_fit size) (sym (take-append-drop n (drop at ws))) ∙ fit_append size (take n (drop at ws)) (drop n (drop at ws))
      ∙ ap (λ (l : List ℕ). all_fit size (take n (drop at ws)) && all_fit size l) (drop-drop n at ws)

  pub fit_thirds : (a b c : ℕ) → ltb a (2 ^ size) ≡ all_fit size (take n ws) → ltb b (2 ^ size) ≡ all_fit size (take n (drop n ws))
      → ltb c (2 ^ size) ≡ all_fit size (take n (drop (2 * n) ws)) → ltb (bit_or (bit_or a b) c) (2 ^ size) && all_fit size (drop (3 * n) ws) ≡ all_fit size ws
  fit_thirds a b c ea eb ec =
      let one : 0 + n ≡ n = omega arith in
      let two : n + n ≡ 2 * n = omega arith in
      let three : 2 * n + n ≡ 3 * n = omega arith in
      let fits : ℕ → Bool = λ w. ltb w (2 ^ size) in
      let rest = all_fit size (drop (3 * n) ws) in
      cc (
        or_fits size (bit_or a b) c,
        or_fits size a b,
        and_assoc (fits a && fits b) (fits c) rest,
        and_assoc (fits a) (fits b) (fits c && rest),
        fit_part 0,
        fit_part n,
        fit_part (2 * n),
      )
