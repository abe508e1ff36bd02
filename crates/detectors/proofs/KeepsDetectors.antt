-- The promises of specs/Promises.antt are kept: the bit of channel c, detector d, stands at i, where i + 5 is 4 x c + d, so that the channels and
-- their detectors go through the 76 bits in order, and what is counted and found among the bits is so among the detectors.
-- Assumes nothing.
use Prim.Native.Nat.{ℕ, zero, suc, ◌+◌, ◌-◌, ◌*◌, ◌/◌, ◌%◌, ◌≤◌, ◌<◌}
use mathlib.Core.Path.{◌≡◌, refl, sym, ap, ◌∙◌, subst}
use mathlib.Core.Bool.{Bool, true, false}
use mathlib.Core.List.{List}
use mathlib.Core.Logic.Iff
use mathlib.Core.Logic.{◌⊎◌, inl, inr, ⊎_elim, ◌↔◌}
use native.Mathlib.Nat.{zero-lt-suc}
use native.Mathlib.Omega.{arith}
use borrow.Author.Tests.{le-leb, le-ltb, ltb-true, ltb-false, eq-eqb, eqb-true}
use lib.Dec.{eqb, ltb}
use lib.ListN.{length, get_or, drop, length-drop}
use lib.Seq.{get_or-take, get_or-drop, length-take-le}
use Rattle.ground.specs.Choice.{pick}
use Rattle.ground.proofs.LawsChoice.{yes, no, either}
use Rattle.ground.proofs.LawsTests.{never, both}
use Rattle.bits.specs.Bits.{bits, spell, sent}
use Rattle.bits.specs.Fields.{all_zero}
use Rattle.bits.proofs.LawsBelow.{below_at, below_take}
use Rattle.bits.proofs.LawsWords.{length_spell, spell_below}
use Rattle.std.specs.Prelude.{Option, None}
use Rattle.detectors.specs.declared.Detector.{Detector}
use Rattle.detectors.specs.Status.{Asked, detectors, spare_zero, set_in, before_set, place_at, before, channel_of, detector_of, suspects_of, inside, asked_of}
use Rattle.detectors.specs.Promises.{Inside, Asking, is_suspect, sum_to, Counting, NoneSuspect, FirstSuspect, Finding, Sparing, Examples}
use Rattle.detectors.proofs.LawsInside.{within}
use Rattle.detectors.proofs.LawsSums.{sum_same, sum_parts, set_sum, before_zero, first_set, none_is_set, zero_each, each_zero}

-- ---- the bits of the detectors

abbrev bit : List ℕ → ℕ → ℕ
bit status i = get_or (detectors status) i 0

how_many : (status : List ℕ) → length status ≡ 10 → length (detectors status) ≡ 76
unfolding detectors
how_many status ten = length-take-le 76 (sent status) (omega (arith, length_spell 8 status))

is_bit : (status : List ℕ) (i : ℕ) → bit status i < 2
unfolding detectors
is_bit status i = below_at 2 (detectors status) (zero-lt-suc 1) (below_take 2 76 (sent status) (spell_below 8 status)) i

as_sent : (status : List ℕ) (i : ℕ) → i < 76 → bit status i ≡ get_or (sent status) i 0
unfolding detectors
as_sent status i h = get_or-take 76 (sent status) i 0 h

-- ---- one that is asked for

is_inside : (c d : ℕ) → Inside c d → inside c d ≡ true
is_inside c d w =
    both (le-leb 1 c w.from_channel) (both (le-leb c 19 w.to_channel) (both (le-leb 1 d w.from_detector) (le-leb d 4 w.to_detector)))

is_outside : (c d : ℕ) → (Inside c d → ⊥) → inside c d ≡ false
is_outside c d n = by (inside c d) refl
  where
    by : (t : Bool) → inside c d ≡ t → t ≡ false
    by true e = let w = within c d e in absurd (n (record { from_channel = w.0; to_channel = w.1; from_detector = w.2; to_detector = w.3 }))
    by false e = refl

asked : (status : List ℕ) (c d i : ℕ) → Inside c d → i + 5 ≡ c * 4 + d → asked_of status c d ≡ record { number = 0; suspect = eqb (bit status i) 1 }
unfolding asked_of
asked status c d i w e =
    let same : i ≡ before c d = omega arith in
    sym (yes _ refl (is_inside c d w) (ap {B = Asked} (λ (n : ℕ). record { number = 0; suspect = eqb (bit status n) 1 }) same))

asked_bit : (status : List ℕ) (c d i : ℕ) → Inside c d → i + 5 ≡ c * 4 + d → is_suspect status c d ≡ eqb (bit status i) 1
asked_bit status c d i w e = ap (λ (a : Asked). a.suspect) (asked status c d i w e)

pub asking : Asking
unfolding asked_of
asking = record {
  outside = λ status c d n. sym (no _ refl (is_outside c d n) refl);
  taken = λ status c d w. ap (λ (a : Asked). a.number) (asked status c d (c * 4 + d - 5) w (omega arith));
  suspect = λ status c d i w e.
      let s = asked_bit status c d i w e in
      let b = as_sent status i (omega arith) in
      (λ t. sym b ∙ eqb-true (bit status i) 1 (sym s ∙ t), λ t. s ∙ eq-eqb (bit status i) 1 (b ∙ t));
}

-- ---- how many

one_or_none : (b : ℕ) → b < 2 → b ≡ pick (eqb b 1) 1 0
one_or_none zero h = refl
one_or_none (suc zero) h = refl
one_or_none (suc (suc b)) h = absurd (omega arith)

pub counting : Counting
unfolding suspects_of
counting status ten =
    set_sum (detectors status) ∙ ap (λ (n : ℕ). sum_to n (bit status)) (how_many status ten) ∙ sum_parts 19 4 (bit status)
    ∙ sum_same 19 (λ c h. sum_same 4 (λ d l. one c d h l))
  where
    one : (c d : ℕ) → c < 19 → d < 4 → bit status (c * 4 + d) ≡ pick (is_suspect status (suc c) (suc d)) 1 0
    one c d h l =
        let i = c * 4 + d in
        let w : Inside (suc c) (suc d) =
        record { from_channel = omega arith; to_channel = omega arith; from_detector = omega arith; to_detector = omega arith } in
        one_or_none (bit status i) (is_bit status i) ∙ ap (λ (t : Bool). pick t 1 0) (sym (asked_bit status (suc c) (suc d) i w (omega arith)))

-- ---- the first

-- how many bits stand before the first that is 1
abbrev ahead : List ℕ → ℕ
ahead status = before_set (detectors status)

-- fewer than 76 are a detector's place
placed : (k : ℕ) → (place_at k ≡ None) ↔ (76 ≤ k)
unfolding place_at
placed k = (
  either (λ (f : Option Detector). f ≡ None → 76 ≤ k) (ltb k 76) (λ e n. absurd (let z : ◌≡◌ {A = ℕ} 0 1 = cc in omega arith)) (λ e n. ltb-false k 76 e),
  λ h. sym (no _ refl (le-ltb k 76 h) refl),
)

-- a detector whose bit stands before that one
unset : (status : List ℕ) (c d : ℕ) → Inside c d → c * 4 + d < ahead status + 5 → is_suspect status c d ≡ false
unset status c d w h =
    let i = c * 4 + d - 5 in
    asked_bit status c d i w (omega arith) ∙ ap (λ (b : ℕ). eqb b 1) (before_zero (detectors status) i (omega arith))

abbrev NoneOrFirst : List ℕ → Option Detector → Type 0
NoneOrFirst status f = (NoneSuspect status × (channel_of f ≡ 0) × (detector_of f ≡ 0)) ⊎ FirstSuspect status (channel_of f) (detector_of f)

module _ (status : List ℕ) (ten : length status ≡ 10) where
  found : let k = ahead status in k < 76 → FirstSuspect status (k / 4 + 1) (k % 4 + 1)
  found h =
      let k = ahead status in
      let w : Inside (k / 4 + 1) (k % 4 + 1) =
      record { from_channel = omega arith; to_channel = omega arith; from_detector = omega arith; to_detector = omega arith } in
      record {
        inside = w;
        is_suspect_is =
            asked_bit status (k / 4 + 1) (k % 4 + 1) k w (omega arith)
            ∙ eq-eqb (bit status k) 1 (omega (arith, is_bit status k, first_set (detectors status) (omega (arith, how_many status ten))));
        none_before = λ c d v o. unset status c d v (⊎_elim (λ l. omega arith) (λ l. omega arith) o);
      }

  none_found : (76 ≤ ahead status) ↔ NoneSuspect status
  none_found = (
    λ h c d w. unset status c d w (omega arith),
    λ n. let f : ahead status < 76 → ⊥ = λ h. never (sym (n _ _ (found h).inside) ∙ (found h).is_suspect_is) in omega arith,
  )

  none_set : (76 ≤ ahead status) ↔ (set_in (detectors status) ≡ 0)
  none_set = subst (λ (n : ℕ). (n ≤ ahead status) ↔ (set_in (detectors status) ≡ 0)) (how_many status ten) (none_is_set (detectors status))

  none_or_first : NoneOrFirst status (place_at (ahead status))
  unfolding place_at
  none_or_first =
      let k = ahead status in
      either (NoneOrFirst status) (ltb k 76) (λ e. inr (found (ltb-true k 76 e))) (λ e. inl (none_found.0 (ltb-false k 76 e), refl, refl))

pub finding : Finding
unfolding suspects_of
finding = record {
  first = none_or_first;
  nobody = λ status ten. Iff.trans (placed (ahead status)) (none_found status ten);
  none_counted = λ status ten. Iff.trans (placed (ahead status)) (none_set status ten);
}

-- ---- the last four bits

pub sparing : Sparing
unfolding spare_zero
sparing status ten =
    let all = sent status in
    let rest = drop 76 all in
    let four : length rest ≡ 4 = omega (arith, length-drop 76 all, length_spell 8 status) in (
      λ z i lo hi.
          let e : i ≡ 76 + (i - 76) = omega arith in
          ap (λ (n : ℕ). get_or all n 0) e ∙ sym (get_or-drop 76 all (i - 76) 0) ∙ zero_each rest z (i - 76),
      λ f. each_zero rest (λ i l. get_or-drop 76 all i 0 ∙ f (76 + i) (omega arith) (omega arith)),
    )

pub examples : Examples
unfolding suspects_of spare_zero detectors spell bits all_zero set_in before_set place_at
examples = record { first_bit = refl; last_bit = refl; no_bit = refl; spare_bit = refl }
