-- The statements on leap seconds are kept, as one; and a watch completes a scan over a leap second: each of its tags is good and comes a second
-- after the one before it.
-- Assumes nothing.
use Prim.Native.Nat.{ℕ, zero, suc, ◌<◌}
use mathlib.Core.Path.{◌≡◌, refl, sym, subst}
use mathlib.Core.Bool.{true}
use mathlib.Core.List.{List, [], ◌∷◌}
use native.Mathlib.Omega.{arith}
use lib.IntN.{pos}
use lib.Signed.{◌≤ℤ◌, le_z_yes}
use Rattle.calendar.specs.Leaps.{possible, rises_from, good_list, listed, listed_before}
use Rattle.calendar.proofs.KeepsLists.{is_list}
use Rattle.tag.specs.Digits.{digits_of, decimal, value_of}
use Rattle.tag.specs.Tags.{tag_of, good_second, in_bounds, good_tag}
use Rattle.tag.proofs.KeepsTags.{is_tag}
use Rattle.time.specs.Times.{count_of, time_of, elapsed_of}
use Rattle.time.specs.Times.{Elapsed}
use Rattle.time.proofs.LawsTimes.{answer}
use Rattle.time.proofs.LawsYears.{quick}
use Rattle.time.proofs.KeepsTable.{across_leap}
use Rattle.watch.proofs.KeepsScans.{any_offers}
use Rattle.scope.specs.LeapSeconds.{crossing, Crossing, LeapSeconds}
use Rattle.scope.proofs.KeepsLeapTags.{reading, writing, elapsing}
use Rattle.scope.proofs.KeepsWatch.{leap_watching}

abbrev day : List ℕ
day = 2016366 ∷ []

-- a fact of each of so many, one by one
abbrev Each : ℕ → (ℕ → Type 0) → Type 0
Each zero P = Unit {0}
Each (suc n) P = P 0 × Each n (λ k. P (suc k))

each : (n : ℕ) (P : ℕ → Type 0) → Each n P → (k : ℕ) → k < n → P k
each zero P h k p = absurd (omega arith)
each (suc n) P h zero p = h.0
each (suc n) P h (suc k) p = each n (λ k. P (suc k)) h.1 k (omega arith)

list : good_list day ≡ true
unfolding possible rises_from good_list
list = refl

good : Each 11 (λ k. good_tag day (crossing k) ≡ true)
unfolding listed digits_of decimal value_of tag_of good_second in_bounds good_tag
good = (refl, (refl, (refl, (refl, (refl, (refl, (refl, (refl, (refl, (refl, (refl, tt)))))))))))

abbrev Waits : ℕ → Type 0
Waits k = elapsed_of day (crossing k) (crossing (suc k)) ≡ answer 0 (pos 1000)

waits : Each 10 Waits
unfolding possible rises_from good_list listed listed_before digits_of decimal value_of tag_of good_second in_bounds good_tag count_of time_of elapsed_of
waits = (
  rw (← quick 2016),
  (rw (← quick 2016), (rw (← quick 2016), (rw (← quick 2016), (rw (← quick 2016), (rw (← quick 2016, ← quick 2017), (rw (← quick 2017), (rw (← quick 2017), (rw (← quick 2017), (rw (← quick 2017), tt))))))))),
)

scan : Crossing
unfolding possible rises_from good_list listed listed_before digits_of decimal value_of tag_of good_second in_bounds good_tag count_of time_of elapsed_of
scan = record {
  completed = λ valid.
      (any_offers day).whole 1000 valid crossing (omega arith) (is_list day list) (λ k h. is_tag day (crossing k) (each 11 (λ k. good_tag day (crossing k) ≡ true) good k (omega arith))) (λ k h.
      subst (λ (a : Elapsed). (pos 0 ≤ℤ a.ms) × (a.ms ≤ℤ pos 1000)) (sym (each 10 Waits waits k h)) (le_z_yes tt, le_z_yes tt));
  true_time = rw (← quick 2016, ← quick 2017);
}

pub leap_seconds : LeapSeconds
leap_seconds = record {
  reading = reading;
  writing = writing;
  elapsing = elapsing;
  watching = leap_watching;
  examples = across_leap;
  scan = scan;
}
