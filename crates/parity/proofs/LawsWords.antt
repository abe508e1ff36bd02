-- What is known of a block of eight-bit words that is not refused, and on which ground one is.
-- Assumes nothing.
use mathlib.Core.Path.{◌≡◌, refl, sym, ap, ◌∙◌}
use mathlib.Core.Bool.{Bool, true, false, not, ◌||◌}
use mathlib.Core.List.{List, [], ◌∷◌, foldl}
use Prim.Native.Nat.{ℕ, zero, suc, ◌≤◌, ◌<◌}
use native.Mathlib.Omega.{arith}
use lib.Dec.{eqb, ltb}
use lib.ListN.{length, get_or}
use borrow.Author.Tests.{eqb-true, eq-eqb, ne_eqb, ltb-false, le-ltb}
use Rattle.ground.proofs.LawsTests.{never}
use Rattle.ground.specs.Choice.{pick}
use Rattle.parity.specs.Words.{block_words, any_large, ground_of}

pub right_length : (words : List ℕ) → ground_of words ≡ 0 → length words ≡ block_words
unfolding ground_of
right_length words h = by_test (eqb (length words) block_words) refl
  where
    by_test : (t : Bool) → eqb (length words) block_words ≡ t → length words ≡ block_words
    by_test true e = eqb-true (length words) block_words e
    by_test false e = let z : ◌≡◌ {A = ℕ} 8 0 = ap (λ (t : Bool). pick (not t) 8 (pick (any_large words) 14 0)) (sym e) ∙ h in absurd (omega arith)

-- once a large word was found, it stays so
stays : (words : List ℕ) → foldl (λ found w. found || ltb 255 w) true words ≡ true
stays [] = refl
stays (w ∷ ws) = stays ws

none_large : (words : List ℕ) → any_large words ≡ false → (i : ℕ) → get_or words i 0 < 256
unfolding any_large
none_large [] h i = omega arith
none_large (w ∷ ws) h i = by (ltb 255 w) refl h (none_large ws) i
  where
    by : (t : Bool) → ltb 255 w ≡ t → foldl (λ found x. found || ltb 255 x) t ws ≡ false
        → (foldl (λ found x. found || ltb 255 x) false ws ≡ false → (i : ℕ) → get_or ws i 0 < 256) → (i : ℕ) → get_or (w ∷ ws) i 0 < 256
    by true e k f i = never (sym k ∙ stays ws)
    by false e k f zero = let low = ltb-false 255 w e in omega arith
    by false e k f (suc i) = f k i

pub small_words : (words : List ℕ) → ground_of words ≡ 0 → (i : ℕ) → get_or words i 0 < 256
unfolding ground_of
small_words words h = none_large words (by_test (eqb (length words) block_words) (any_large words) refl h)
  where
    by_test : (t u : Bool) → any_large words ≡ u → ◌≡◌ {A = ℕ} (pick (not t) 8 (pick u 14 0)) 0 → any_large words ≡ false
    by_test true true e z = absurd (omega arith)
    by_test true false e z = e
    by_test false u e z = absurd (omega arith)

-- ---- the ground, from the words

no_large : (words : List ℕ) → ((i : ℕ) → get_or words i 0 ≤ 255) → any_large words ≡ false
unfolding any_large
no_large [] h = refl
no_large (w ∷ ws) h = ap (λ (t : Bool). foldl (λ found x. found || ltb 255 x) t ws) (le-ltb 255 w (h 0)) ∙ no_large ws (λ i. h (suc i))

pub wrong_length : (words : List ℕ) → (length words ≡ 8040 → ⊥) → ground_of words ≡ 8
unfolding ground_of
wrong_length words h = rw (ne_eqb (length words) 8040 h)

pub large_word : (words : List ℕ) → length words ≡ 8040 → (i : ℕ) → 255 < get_or words i 0 → ground_of words ≡ 14
unfolding ground_of
large_word words h i l = rw (eq-eqb (length words) 8040 h) (by (any_large words) refl)
  where
    by : (t : Bool) → any_large words ≡ t → ◌≡◌ {A = ℕ} (pick t 14 0) 14
    by true e = refl
    by false e = absurd (omega (arith, none_large words e i))

pub plain_words : (words : List ℕ) → length words ≡ 8040 → ((i : ℕ) → get_or words i 0 ≤ 255) → ground_of words ≡ 0
unfolding ground_of
plain_words words h small = rw (eq-eqb (length words) 8040 h, no_large words small)
