-- A set with one block more where that is fill: its bounds, its blocks and how many they are.
-- Assumes nothing.
use mathlib.Core.Path.{◌≡◌, refl, sym, ap, ◌∙◌}
use mathlib.Core.Logic.{◌⊎◌, inl, inr}
use Prim.Native.Nat.{ℕ, suc, ◌+◌, ◌/◌, ◌%◌, ◌^◌, ◌<◌}
use native.Mathlib.Omega.{arith}
use native.Mathlib.Nat.{pow-suc}
use mathlib.Core.Bool.{true, false}
use lib.Dec.{eqb}
use lib.Count.{ones}
use borrow.Author.Tests.{eqb-true, eqb-false, not-true, not-false}
use Rattle.ground.proofs.LawsChoice.{yes, no, either}
use Rattle.watch_bounds.specs.Sets.{Has}
use Rattle.watch_bounds.proofs.LawsSets.{grown, it_has, still_has, had, one_more}
use Rattle.watch.specs.Fills.{is_fill, filled}
use Rattle.watch.specs.Filled.{Gains}

-- a word says fill where it is not 1
pub fill_not_one : (v : ℕ) → is_fill v ≡ true → v ≡ 1 → ⊥
fill_not_one v h = eqb-false v 1 (not-true (eqb v 1) h)

valid_one : (v : ℕ) → is_fill v ≡ false → v ≡ 1
valid_one v h = eqb-true v 1 (not-false (eqb v 1) h)

module _ (set b v : ℕ) (h : set < 2 ^ b) where
  pub filled_below : filled set b v < 2 ^ suc b
  unfolding filled
  filled_below = either (λ (n : ℕ). n < 2 ^ suc b) (is_fill v) (λ _. grown set b h) (λ _. omega (arith, pow-suc 2 b))

  pub filled_gains : Gains (filled set b v) set b v
  unfolding filled
  filled_gains k =
      either (λ (n : ℕ). (Has n k → Has set k ⊎ ((k ≡ b) × (v ≡ 1 → ⊥))) × (Has set k ⊎ ((k ≡ b) × (v ≡ 1 → ⊥)) → Has n k)) (is_fill v)
      (λ f. (λ i. was f (had set b h k i), now)) (λ n. (inl, λ p. same n p))
    where
      was : is_fill v ≡ true → Has set k ⊎ (k ≡ b) → Has set k ⊎ ((k ≡ b) × (v ≡ 1 → ⊥))
      was f (inl i) = inl i
      was f (inr e) = inr (e, fill_not_one v f)

      now : Has set k ⊎ ((k ≡ b) × (v ≡ 1 → ⊥)) → Has (set + 2 ^ b) k
      now (inl i) = still_has set b h k i
      now (inr p) = ap (λ (j : ℕ). (set + 2 ^ b) / 2 ^ j % 2) p.0 ∙ it_has set b h

      same : is_fill v ≡ false → Has set k ⊎ ((k ≡ b) × (v ≡ 1 → ⊥)) → Has set k
      same n (inl i) = i
      same n (inr p) = absurd (p.1 (valid_one v n))

  pub one_fill_more : is_fill v ≡ true → ones (filled set b v) ≡ ones set + 1
  unfolding filled
  one_fill_more f = ap ones (sym (yes _ refl f refl)) ∙ one_more set b h

pub as_it_was : (set b v : ℕ) → is_fill v ≡ false → filled set b v ≡ set
unfolding filled
as_it_was set b v n = sym (no _ refl n refl)
