-- No two arrays overlap, and none has a parity word in it: each run of arrays, one right behind the other, is a run of words.
-- Assumes nothing.
use mathlib.Core.Path.{◌≡◌, refl, sym, ap, ap₂, ◌∙◌}
use mathlib.Core.Logic.{◌⊎◌, inl, inr}
use mathlib.Core.Bool.{Bool, true, false, ◌&&◌}
use mathlib.Core.List.{List, [], ◌∷◌, ◌++◌}
use Prim.Native.Nat.{ℕ, ◌+◌, ◌*◌, ◌≤◌, ◌<◌}
use native.Mathlib.Nat.{zero-add, add_assoc}
use native.Mathlib.Omega.{arith}
use lib.Dec.{leb, ltb}
use lib.ListN.{take, drop}
use borrow.Author.Tests.{le-leb, lt-leb, lt-ltb, le-ltb, leb-true, leb-false}
use Rattle.ground.specs.Choice.{pick}
use Rattle.parity.specs.declared.Layout.TheVariants.{ImagerSpacelook, SounderSpacelook}
use Rattle.spacelook.specs.declared.Array.{Array}
use Rattle.spacelook.specs.Arrays.{first_word, count_of, arrays_in}
use Rattle.spacelook.specs.Promises.{times_in, Apart}

-- arrays one right behind the other, from word a up to, not including, word b
abbrev Run : ℕ → List Array → ℕ → Type 0
Run a [] b = a ≡ b
Run a (r ∷ rest) b = (first_word r ≡ a) × Run (a + 4 * count_of r) rest b

abbrev has : Array → ℕ → ℕ
has r k = pick (leb (first_word r) k && ltb k (first_word r + 4 * count_of r)) 1 0

module _ (r : Array) (k : ℕ) where
  inside : first_word r ≤ k → k < first_word r + 4 * count_of r → has r k ≡ 1
  inside h l = rw (le-leb (first_word r) k h, lt-ltb k (first_word r + 4 * count_of r) l) refl

  in_front : k < first_word r → has r k ≡ 0
  in_front h = rw (lt-leb (first_word r) k h) refl

  behind : first_word r + 4 * count_of r ≤ k → has r k ≡ 0
  behind h =
      let le : first_word r ≤ k = omega arith in
      rw (le-leb (first_word r) k le, le-ltb k (first_word r + 4 * count_of r) h) refl

runs_up : (a b : ℕ) (l : List Array) → Run a l b → a ≤ b
runs_up a b [] h = omega arith
runs_up a b (r ∷ l) h = omega (arith, runs_up (a + 4 * count_of r) b l h.1)

module _ (k : ℕ) where
  before_run : (a b : ℕ) (l : List Array) → Run a l b → k < a → times_in l k ≡ 0
  unfolding times_in
  before_run a b [] h less = refl
  before_run a b (r ∷ l) h less =
      ap₂ (λ (x y : ℕ). x + y) (in_front r k (omega (arith, h.0))) (before_run (a + 4 * count_of r) b l h.1 (omega arith))

  behind_run : (a b : ℕ) (l : List Array) → Run a l b → b ≤ k → times_in l k ≡ 0
  unfolding times_in
  behind_run a b [] h less = refl
  behind_run a b (r ∷ l) h less =
      ap₂ (λ (x y : ℕ). x + y)
      (behind r k (omega (arith, h.0, runs_up (a + 4 * count_of r) b l h.1))) (behind_run (a + 4 * count_of r) b l h.1 less)

  in_run : (a b : ℕ) (l : List Array) → Run a l b → a ≤ k → k < b → times_in l k ≡ 1
  unfolding times_in
  in_run a b [] h from to = absurd (omega arith)
  in_run a b (r ∷ l) h from to = by (leb (a + 4 * count_of r) k) refl (in_run (a + 4 * count_of r) b l h.1)
    where
      by : (t : Bool) → leb (a + 4 * count_of r) k ≡ t → (a + 4 * count_of r ≤ k → k < b → times_in l k ≡ 1) → has r k + times_in l k ≡ 1
      by true e f =
          let le = leb-true (a + 4 * count_of r) k e in
          ap₂ (λ (x y : ℕ). x + y) (behind r k (omega (arith, h.0))) (f le to)
      by false e f =
          let less = leb-false (a + 4 * count_of r) k e in
          ap₂ (λ (x y : ℕ). x + y) (inside r k (omega (arith, h.0)) (omega (arith, h.0))) (before_run (a + 4 * count_of r) b l h.1 less)

  times_joined : (l m : List Array) → times_in (l ++ m) k ≡ times_in l k + times_in m k
  unfolding times_in
  times_joined [] m = sym (zero-add (times_in m k))
  times_joined (r ∷ l) m = ap (λ (n : ℕ). has r k + n) (times_joined l m) ∙ sym (add_assoc (has r k) (times_in l k) (times_in m k))

-- ---- the Imager's three runs, and the Sounder's one

abbrev first : List Array
first = take 6 (arrays_in ImagerSpacelook)

abbrev second : List Array
second = take 6 (drop 6 (arrays_in ImagerSpacelook))

abbrev third : List Array
third = drop 12 (arrays_in ImagerSpacelook)

first_run : Run 403 first 699
first_run = (refl, (refl, (refl, (refl, (refl, (refl, refl))))))

second_run : Run 883 second 1179
second_run = (refl, (refl, (refl, (refl, (refl, (refl, refl))))))

third_run : Run 1183 third 7903
third_run = (refl, (refl, (refl, (refl, (refl, (refl, (refl, (refl, (refl, (refl, (refl, (refl, (refl, (refl, refl))))))))))))))

only_run : Run 1135 (arrays_in SounderSpacelook) 2927
only_run = (refl, (refl, (refl, (refl, (refl, (refl, refl))))))

-- the Imager's are these three, so a word's count is the sum
imager_times : (k : ℕ) {x y z : ℕ} → times_in first k ≡ x → times_in second k ≡ y → times_in third k ≡ z → times_in (arrays_in ImagerSpacelook) k ≡ x + (y + z)
imager_times k p q r =
    times_joined k first (second ++ third)
    ∙ ap₂ (λ (m n : ℕ). m + n) p (times_joined k second third ∙ ap₂ (λ (m n : ℕ). m + n) q r)

pub apart : Apart
apart = record {
  imager = imager;
  imager_none = imager_none;
  sounder = λ k from to. in_run k 1135 2927 (arrays_in SounderSpacelook) only_run from (omega arith);
  sounder_none = sounder_none;
}
  where
    imager : (k : ℕ) → ((403 ≤ k) × (k ≤ 698)) ⊎ (((883 ≤ k) × (k ≤ 1178)) ⊎ ((1183 ≤ k) × (k ≤ 7902))) → times_in (arrays_in ImagerSpacelook) k ≡ 1
    imager k (inl h) =
        imager_times k (in_run k 403 699 first first_run (omega arith) (omega arith)) (before_run k 883 1179 second second_run (omega arith))
        (before_run k 1183 7903 third third_run (omega arith))
    imager k (inr (inl h)) =
        imager_times k (behind_run k 403 699 first first_run (omega arith)) (in_run k 883 1179 second second_run (omega arith) (omega arith))
        (before_run k 1183 7903 third third_run (omega arith))
    imager k (inr (inr h)) =
        imager_times k (behind_run k 403 699 first first_run (omega arith)) (behind_run k 883 1179 second second_run (omega arith))
        (in_run k 1183 7903 third third_run (omega arith) (omega arith))

    imager_none : (k : ℕ) → (k < 403) ⊎ (((698 < k) × (k < 883)) ⊎ (((1178 < k) × (k < 1183)) ⊎ (7902 < k))) → times_in (arrays_in ImagerSpacelook) k ≡ 0
    imager_none k (inl h) =
        imager_times k (before_run k 403 699 first first_run (omega arith)) (before_run k 883 1179 second second_run (omega arith))
        (before_run k 1183 7903 third third_run (omega arith))
    imager_none k (inr (inl h)) =
        imager_times k (behind_run k 403 699 first first_run (omega arith)) (before_run k 883 1179 second second_run (omega arith))
        (before_run k 1183 7903 third third_run (omega arith))
    imager_none k (inr (inr (inl h))) =
        imager_times k (behind_run k 403 699 first first_run (omega arith)) (behind_run k 883 1179 second second_run (omega arith))
        (before_run k 1183 7903 third third_run (omega arith))
    imager_none k (inr (inr (inr h))) =
        imager_times k (behind_run k 403 699 first first_run (omega arith)) (behind_run k 883 1179 second second_run (omega arith))
        (behind_run k 1183 7903 third third_run (omega arith))

    sounder_none : (k : ℕ) → (k < 1135) ⊎ (2926 < k) → times_in (arrays_in SounderSpacelook) k ≡ 0
    sounder_none k (inl h) = before_run k 1135 2927 (arrays_in SounderSpacelook) only_run h
    sounder_none k (inr h) = behind_run k 1135 2927 (arrays_in SounderSpacelook) only_run h
