-- The search, start by start and copy by copy: the copy found is the first that makes a block, the start found the lowest that has one.
-- Assumes nothing.
use Prim.Native.Nat.{ℕ, zero, suc, ◌+◌, ◌-◌, ◌≤◌, ◌<◌}
use mathlib.Core.Path.{◌≡◌, refl, sym, ap, subst, ◌∙◌}
use mathlib.Core.Logic.{◌⊎◌, inl, inr, ⊎_elim}
use mathlib.Core.Bool.{Bool, true, false}
use mathlib.Core.List.{List}
use native.Mathlib.Nat.{eq-or-lt_of_le}
use native.Mathlib.Omega.{arith}
use lib.Dec.{ltb}
use lib.ListN.{length, drop}
use borrow.Author.Tests.{lt-ltb, ltb-true, ltb-false}
use Rattle.ground.specs.Choice.{pick}
use Rattle.ground.proofs.LawsTests.{never}
use Rattle.made.specs.Made.{makes}
use Rattle.made.proofs.LawsMade.{not_made}
use Rattle.salvaging.specs.Pieces.{copy_of, start_in, start_from}

-- ---- the copies of a start

-- the first of three tests that holds
abbrev first_true : (a b c : Bool) → ℕ
first_true a b c = pick a 0 (pick b 1 (pick c 2 3))

module _ (test : ℕ → Bool) where
  found_holds : (a b c : Bool) → test 0 ≡ a → test 1 ≡ b → test 2 ≡ c → first_true a b c < 3 → test (first_true a b c) ≡ true
  found_holds true b c ea eb ec h = ea
  found_holds false true c ea eb ec h = eb
  found_holds false false true ea eb ec h = ec
  found_holds false false false ea eb ec h = absurd (omega arith)

  none_before : (a b c : Bool) → test 0 ≡ a → test 1 ≡ b → test 2 ≡ c → (j : ℕ) → j < first_true a b c → test j ≡ false
  none_before true b c ea eb ec j h = absurd (omega arith)
  none_before false true c ea eb ec zero h = ea
  none_before false true c ea eb ec (suc j) h = absurd (omega arith)
  none_before false false true ea eb ec zero h = ea
  none_before false false true ea eb ec (suc zero) h = eb
  none_before false false true ea eb ec (suc (suc j)) h = absurd (omega arith)
  none_before false false false ea eb ec zero h = ea
  none_before false false false ea eb ec (suc zero) h = eb
  none_before false false false ea eb ec (suc (suc zero)) h = ec
  none_before false false false ea eb ec (suc (suc (suc j))) h = absurd (omega arith)

module _ (rest : List ℕ) where
  pub copy_makes : copy_of rest < 3 → makes (copy_of rest) rest ≡ true
  unfolding copy_of
  copy_makes h = found_holds (λ (k : ℕ). makes k rest) (makes 0 rest) (makes 1 rest) (makes 2 rest) refl refl refl h

  pub before_none : (j : ℕ) → j < copy_of rest → makes j rest ≡ false
  unfolding copy_of
  before_none j h = none_before (λ (k : ℕ). makes k rest) (makes 0 rest) (makes 1 rest) (makes 2 rest) refl refl refl j h

  -- no copy behind the third makes a block
  pub none_all : 3 ≤ copy_of rest → (k : ℕ) → makes k rest ≡ false
  none_all s k = ⊎_elim (λ e. not_made k rest (λ m. omega (arith, m.one, e))) (λ l. before_none k (omega arith)) (by (ltb k 3) refl)
    where
      by : (t : Bool) → ltb k 3 ≡ t → (3 ≤ k) ⊎ (k < 3)
      by true e = inr (ltb-true k 3 e)
      by false e = inl (ltb-false k 3 e)

  copy_most : copy_of rest ≤ 3
  unfolding copy_of
  copy_most = go (makes 0 rest) (makes 1 rest) (makes 2 rest)
    where
      go : (a b c : Bool) → first_true a b c ≤ 3
      go true b c = omega arith
      go false true c = omega arith
      go false false true = omega arith
      go false false false = omega arith

  -- the copy that makes a block, none before it doing so, is the one found
  pub copy_first : (k : ℕ) → makes k rest ≡ true → ((j : ℕ) → j < k → makes j rest ≡ false) → copy_of rest ≡ k
  copy_first k e n = ⊎_elim (λ l. never (sym (n (copy_of rest) l) ∙ copy_makes (omega (arith, below)))) (λ g. ⊎_elim (λ s. sym s) (λ l. never (sym (before_none k l) ∙ e)) (eq-or-lt_of_le g)) (by (ltb (copy_of rest) k) refl)
    where
      below : k < 3
      below = ⊎_elim (λ l. l) (λ g. never (sym (none_all_3 g) ∙ e)) (cut (ltb k 3) refl)
        where
          cut : (t : Bool) → ltb k 3 ≡ t → (k < 3) ⊎ (3 ≤ k)
          cut true t = inl (ltb-true k 3 t)
          cut false t = inr (ltb-false k 3 t)

          none_all_3 : 3 ≤ k → makes k rest ≡ false
          none_all_3 g = not_made k rest (λ m. omega (arith, m.one))

      by : (t : Bool) → ltb (copy_of rest) k ≡ t → (copy_of rest < k) ⊎ (k ≤ copy_of rest)
      by true t = inl (ltb-true (copy_of rest) k t)
      by false t = inr (ltb-false (copy_of rest) k t)

  pub copy_none : ((j : ℕ) → j < 3 → makes j rest ≡ false) → copy_of rest ≡ 3
  copy_none n = ⊎_elim (λ s. s) (λ l. never (sym (n (copy_of rest) l) ∙ copy_makes l)) (eq-or-lt_of_le copy_most)

-- ---- the starts

-- a start with no block is passed, one with a block is taken
start_in_pass : (n at : ℕ) (input : List ℕ) → copy_of (drop at input) ≡ 3 → start_in (suc n) at input ≡ start_in n (at + 1) input
unfolding start_in
start_in_pass n at input e = ap (λ (k : ℕ). pick (ltb k 3) at (start_in n (at + 1) input)) e

start_in_hit : (n at : ℕ) (input : List ℕ) → copy_of (drop at input) < 3 → start_in (suc n) at input ≡ at
unfolding start_in
start_in_hit n at input h = ap (λ (t : Bool). pick t at (start_in n (at + 1) input)) (lt-ltb (copy_of (drop at input)) 3 h)

module _ (from at : ℕ) (input : List ℕ) (s : start_from from input ≡ start_in (length input - at) at input) where
  module _ (l : at < length input) where
    one_more : length input - at ≡ suc (length input - (at + 1))
    one_more = omega arith

    pub pass_on : copy_of (drop at input) ≡ 3 → start_from from input ≡ start_in (length input - (at + 1)) (at + 1) input
    pass_on e = s ∙ ap (λ (n : ℕ). start_in n at input) one_more ∙ start_in_pass (length input - (at + 1)) at input e

    pub hit_at : copy_of (drop at input) < 3 → at ≡ start_from from input
    hit_at e = sym (s ∙ ap (λ (n : ℕ). start_in n at input) one_more ∙ start_in_hit (length input - (at + 1)) at input e)

  pub end_at : length input ≤ at → at ≡ start_from from input
  unfolding start_in
  end_at l = let m : length input - at ≡ 0 = omega arith in sym (s ∙ ap (λ (n : ℕ). start_in n at input) m)

-- where the search stops
stops : (n at : ℕ) (input : List ℕ) → (at ≤ start_in n at input) × (start_in n at input ≤ at + n)
unfolding start_in
stops zero at input = (omega arith, omega arith)
stops (suc n) at input = by (ltb (copy_of (drop at input)) 3) (start_in n (at + 1) input) (stops n (at + 1) input)
  where
    by : (t : Bool) (k : ℕ) → (at + 1 ≤ k) × (k ≤ at + 1 + n) → (at ≤ pick t at k) × (pick t at k ≤ at + suc n)
    by true k h = (omega arith, omega arith)
    by false k h = (omega arith, omega arith)

-- short of the end it stops at a block
found_in : (n at : ℕ) (input : List ℕ) → start_in n at input < at + n → copy_of (drop (start_in n at input) input) < 3
unfolding start_in
found_in zero at input h = absurd (omega arith)
found_in (suc n) at input h = by (ltb (copy_of (drop at input)) 3) (start_in n (at + 1) input) refl (found_in n (at + 1) input) h
  where
    by : (t : Bool) (k : ℕ) → ltb (copy_of (drop at input)) 3 ≡ t → (k < at + 1 + n → copy_of (drop k input) < 3) → pick t at k < at + suc n → copy_of (drop (pick t at k) input) < 3
    by true k e ih l = ltb-true (copy_of (drop at input)) 3 e
    by false k e ih l = ih (omega arith)

-- before it there is none
none_in : (n at i : ℕ) (input : List ℕ) → at ≤ i → i < start_in n at input → 3 ≤ copy_of (drop i input)
unfolding start_in
none_in zero at i input l h = absurd (omega arith)
none_in (suc n) at i input l h = by (ltb (copy_of (drop at input)) 3) (start_in n (at + 1) input) refl (λ x y. none_in n (at + 1) i input x y) h
  where
    by : (t : Bool) (k : ℕ) → ltb (copy_of (drop at input)) 3 ≡ t → (at + 1 ≤ i → i < k → 3 ≤ copy_of (drop i input)) → i < pick t at k → 3 ≤ copy_of (drop i input)
    by true k e ih y = absurd (omega arith)
    by false k e ih y =
        ⊎_elim (λ x. subst (λ (j : ℕ). 3 ≤ copy_of (drop j input)) x (ltb-false (copy_of (drop at input)) 3 e)) (λ x. ih (omega arith) y) (eq-or-lt_of_le l)

module _ (from : ℕ) (input : List ℕ) (w : from ≤ length input) where
  pub start_in_is : (from ≤ start_from from input) × (start_from from input ≤ length input)
  unfolding start_from
  start_in_is = let s = stops (length input - from) from input in (s.0, omega arith)

  pub start_found : start_from from input < length input → copy_of (drop (start_from from input) input) < 3
  unfolding start_from
  start_found h = found_in (length input - from) from input (omega arith)

  pub start_none : (i : ℕ) → from ≤ i → i < start_from from input → 3 ≤ copy_of (drop i input)
  unfolding start_from
  start_none i l h = none_in (length input - from) from i input l h
