-- A loop that walks a slice from its front: what is in hand at i, with the rest still to come, totals what the whole does. A fold is one such
-- total.
-- Assumes nothing.
use mathlib.Core.Path.{◌≡◌, refl, sym, ap, ◌∙◌}
use mathlib.Core.List.{List, [], ◌∷◌}
use Prim.Native.Nat.{ℕ, suc, ◌+◌, ◌≤◌, ◌<◌}
use native.Mathlib.Numerals.{add-one}
use native.Mathlib.Omega.{arith}
use lib.ListN.{length, get_or, drop, drop_of_length-le}
use lib.Seq.{drop-cons}

module _ {A X : Type 0} (total : A → List ℕ → X) (z : A) (words : List ℕ) where
  pub record Walking (acc : A) (i : ℕ) : Type 0 where
    pub within : i ≤ length words
    pub onward : total acc (drop i words) ≡ total z words

  pub start : Walking z 0
  start = record { within = omega arith; onward = refl }

  module _ {acc : A} {i : ℕ} (s : Walking acc i) where
    -- the rest is the next word and what is behind it
    pub here : i < length words → total acc (get_or words i 0 ∷ drop (suc i) words) ≡ total z words
    here h = ap (total acc) (sym (drop-cons words i 0 h)) ∙ s.onward

    pub step : {next : A} → i < length words → total next (drop (suc i) words) ≡ total acc (get_or words i 0 ∷ drop (suc i) words) → Walking next (i + 1)
    step h e = record { within = omega arith; onward = rw add-one (e ∙ here h) }

    pub finish : length words ≤ i → total acc [] ≡ total z words
    finish h = ap (total acc) (sym (drop_of_length-le words h)) ∙ s.onward
