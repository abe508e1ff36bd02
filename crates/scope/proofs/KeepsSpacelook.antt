-- The scope's statements on spacelook numbers are kept: 8 and 14 as for parity, then what the table has not, or too small a room.
-- Assumes nothing.
use Prim.Native.Nat.{ℕ, ◌≤◌, ◌<◌}
use mathlib.Core.Path.{◌≡◌, refl, sym, ap, ◌∙◌, subst}
use mathlib.Core.Logic.{◌⊎◌, inl, inr}
use mathlib.Core.Bool.{Bool, true, false, ◌||◌}
use mathlib.Core.List.{List, [], ◌∷◌}
use native.Mathlib.Nat.{le_of_suc-le-suc, lt_of_not-le}
use native.Mathlib.Omega.{arith}
use lib.Dec.{leb, ltb}
use lib.ListN.{get_or, get_or-map}
use lib.IntN.{pos, negsuc}
use lib.Ieee.{fin, to_bits, binary64, size, span, climb}
use borrow.Author.Tests.{leb-true, leb-false}
use Rattle.parity.specs.Words.{ground_of}
use Rattle.parity.specs.declared.Layout.{Layout}
use Rattle.parity.specs.declared.Layout.TheVariants.{ImagerSpacelook, SounderSpacelook}
use Rattle.floating.specs.declared.Reading.{Reading}
use Rattle.floating.specs.Cases.{value_of}
use Rattle.floating.proofs.KeepsFloating.{reading, covering, negating, numbered, examples}
use Rattle.floating.proofs.KeepsOrder.{ordering}
use Rattle.spacelook.specs.Found.{Found}
use Rattle.spacelook.specs.Found.{Read, Refused}
use Rattle.spacelook.specs.Answers.{answer_in, case_in, value_in}
use Rattle.spacelook.specs.Arrays.{count_of, arrays_in, no_array, row_of, size_of}
use Rattle.spacelook.specs.Numbers.{found_of, filled_of, answer_of}
use Rattle.spacelook.proofs.KeepsArrays.{apart}
use Rattle.spacelook.proofs.KeepsNumbers.{imager, sounder, told, behind, filling}
use Rattle.spacelook.proofs.LawsFound as Found
use Rattle.scope.specs.Notions.{◌if◌, FirstOf}
use Rattle.scope.specs.Parity as Parity
use Rattle.scope.specs.Spacelook.{counts, all, reasons, all_reasons, Refusing, Numbers}
use Rattle.scope.proofs.LawsReasons as Reasons
use Rattle.scope.proofs.LawsReasons.{Tells, tells_less, tells_either, decided}
use Rattle.scope.proofs.KeepsParity.{judging}

-- ---- one number

-- the printed counts are those of the table
count_is : (layout : Layout) (field : ℕ) → get_or (0 ∷ counts layout) field 0 ≡ count_of (row_of layout field)
unfolding row_of
count_is ImagerSpacelook field = get_or-map count_of (no_array ∷ arrays_in ImagerSpacelook) field no_array
count_is SounderSpacelook field = get_or-map count_of (no_array ∷ arrays_in SounderSpacelook) field no_array

module _ (layout : Layout) (ws : List ℕ) (field i : ℕ) where
  abbrev found : Found
  found = found_of layout ws field i

  abbrev NotThere : Type 0
  NotThere = get_or (0 ∷ counts layout) field 0 ≤ i

  by_table : ground_of ws ≡ 0 → (NotThere × (answer_in found ≡ 13)) ⊎ ((NotThere → ⊥) × (answer_in found ≡ 0))
  by_table good = by (leb (get_or (0 ∷ counts layout) field 0) i) refl
    where
      by : (t : Bool) → leb (get_or (0 ∷ counts layout) field 0) i ≡ t → (NotThere × (answer_in found ≡ 13)) ⊎ ((NotThere → ⊥) × (answer_in found ≡ 0))
      by true e =
          let h = leb-true (get_or (0 ∷ counts layout) field 0) i e in
          inl (h, sym (ap answer_in (Found.not_there layout ws field i good (subst (λ (n : ℕ). n ≤ i) (count_is layout field) h))))
      by false e =
          let h = leb-false (get_or (0 ∷ counts layout) field 0) i e in
          inr (λ l. omega arith, sym (ap answer_in (Found.there layout ws field i good (subst (λ (n : ℕ). i < n) (count_is layout field) h))))

  number : FirstOf (reasons layout ws field i) (answer_in found)
  number =
      Reasons.behind (Parity.reasons ws) (13 if NotThere ∷ []) (λ e. omega arith, (λ e. omega arith, tt)) (judging.ground ws)
      (λ h. ap answer_in (behind layout ws field i h)) by_table

  zeros_of : (f : Found) → (answer_in f ≡ 0 → ⊥) → (case_in f ≡ 0) × (value_in f ≡ fin false 0 (pos 0))
  zeros_of (Read r) h = absurd (h refl)
  zeros_of (Refused n) h = (refl, refl)

-- ---- all of them

size_is : (layout : Layout) → (size_of layout).1 ≡ all layout
size_is ImagerSpacelook = refl
size_is SounderSpacelook = refl

module _ (layout : Layout) (ws : List ℕ) (room cases : ℕ) where
  answer_is : (filled_of layout ws room cases).number ≡ answer_of layout ws room cases
  unfolding filled_of
  answer_is = refl

  abbrev Small : Type 0
  Small = (room < all layout) ⊎ (cases < all layout)

  tells_small : Tells (ltb room (all layout) || ltb cases (all layout)) Small
  tells_small = tells_either (tells_less room (all layout)) (tells_less cases (all layout))

  by_rooms : ground_of ws ≡ 0 → (Small × ((filled_of layout ws room cases).number ≡ 9)) ⊎ ((Small → ⊥) × ((filled_of layout ws room cases).number ≡ 0))
  by_rooms good =
      decided tells_small (λ _ h. answer_is ∙ sym (nine h))
      (λ _ h. answer_is ∙ sym (Found.enough layout ws room cases good (at_least room (λ l. h (inl l))) (at_least cases (λ l. h (inr l)))))
    where
      nine : Small → 9 ≡ answer_of layout ws room cases
      nine (inl l) = Found.small_room layout ws room cases good (subst (λ (n : ℕ). room < n) (sym (size_is layout)) l)
      nine (inr l) = Found.small_cases layout ws room cases good (subst (λ (n : ℕ). cases < n) (sym (size_is layout)) l)

      at_least : (n : ℕ) → (n < all layout → ⊥) → (size_of layout).1 ≤ n
      at_least n h = subst (λ (m : ℕ). m ≤ n) (sym (size_is layout)) (le_of_suc-le-suc (lt_of_not-le h))

  all_number : FirstOf (all_reasons layout ws room cases) (filled_of layout ws room cases).number
  all_number =
      Reasons.behind (Parity.reasons ws) (9 if Small ∷ []) (λ e. omega arith, (λ e. omega arith, tt)) (judging.ground ws)
      (λ h. answer_is ∙ sym (Found.all_refused layout ws room cases h)) by_rooms

-- ---- the bits of two of the examples

one_bits : to_bits binary64 (fin true 1 (pos 0)) ≡ 0xBFF0000000000000
unfolding to_bits size span climb
one_bits = refl

part_bits : to_bits binary64 (fin false 21 (negsuc 6)) ≡ 0x3FC5000000000000
unfolding to_bits size span climb
part_bits = refl

refusing : Refusing
refusing = record { number = number; zeros = λ layout ws field i. zeros_of layout ws field i (found_of layout ws field i); all_number = all_number }

pub numbers : Numbers
numbers = record {
  reading = reading;
  covering = covering;
  negating = negating;
  ordering = ordering;
  numbered = numbered;
  examples = examples;
  imager = imager;
  sounder = sounder;
  apart = apart;
  refusing = refusing;
  filling = filling;
  told = told;
  bits = (ap (λ (r : Reading). to_bits binary64 (value_of r)) examples.minus_one ∙ one_bits, ap (λ (r : Reading). to_bits binary64 (value_of r)) examples.part ∙ part_bits);
}
