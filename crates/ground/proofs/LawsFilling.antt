-- A loop that fills a list from another, place by place, each by the same rule: what is filled so far, and in the end all of it.
-- Assumes nothing.
use mathlib.Core.Path.{◌≡◌, refl, sym, ap, ◌∙◌}
use mathlib.Core.List.{List, [], ◌∷◌, ◌++◌, map, map-append}
use Prim.Native.Nat.{ℕ, ◌+◌, ◌≤◌, ◌<◌}
use native.Mathlib.Numerals.{add-one}
use native.Mathlib.Omega.{arith}
use lib.ListN.{length, get_or, set, take, length-set}
use lib.Seq.{take-suc, take-suc-set, take_all}

module _ {A B : Type 0} (rule : A → B) (none : A) where
  pub record Filling (from : List A) (to : List B) (i : ℕ) : Type 0 where
    pub long : length to ≡ length from
    pub done : take i to ≡ map rule (take i from)

  pub start : (from : List A) (to : List B) → length from ≡ length to → Filling from to 0
  start from to e = record { long = sym e; done = refl }

  module _ {from : List A} {to : List B} {i : ℕ} (s : Filling from to i) where
    pub next : i < length to → Filling from (set to i (rule (get_or from i none))) (i + 1)
    next h =
        record {
          long = length-set to i _ ∙ s.long;
          done =
              ap (λ (n : ℕ). take n (set to i (rule (get_or from i none)))) (add-one i)
              ∙ take-suc-set to i _ h
              ∙ ap (λ (l : List B). l ++ (rule (get_or from i none) ∷ [])) s.done
              ∙ sym (map-append rule (take i from) (get_or from i none ∷ []))
              ∙ ap (map rule) (sym (take-suc from i none (omega (arith, s.long))) ∙ ap (λ (n : ℕ). take n from) (sym (add-one i)));
        }

    pub finish : length to ≤ i → to ≡ map rule from
    finish h = sym (take_all i to h) ∙ s.done ∙ ap (map rule) (take_all i from (omega (arith, s.long)))
