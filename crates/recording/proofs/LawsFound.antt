-- A whole field lies inside the recording, its body behind its front.
-- Assumes nothing.
use mathlib.Core.Path.{◌≡◌, refl, sym, ap, subst}
use mathlib.Core.Bool.{Bool, true, false}
use mathlib.Core.List.{List}
use Prim.Native.Nat.{ℕ, ◌+◌, ◌≤◌}
use native.Mathlib.Omega.{arith}
use borrow.Author.Tests.{le-leb, ltb-false}
use lib.Dec.{leb, ltb}
use lib.ListN.{length, get_or}
use Rattle.ground.specs.Choice.{pick}
use Rattle.ground.proofs.LawsChoice.{yes}
use Rattle.recording.specs.declared.Found.{Found}
use Rattle.recording.specs.declared.Found.TheVariants.{Whole, Cut, End}
use Rattle.recording.specs.Found.{front_length, length_at, found_at, Answered, a_field, the_last, answered, end_of}

-- what is found, by its three tests
abbrev found_by : List ℕ → ℕ → (none few short : Bool) → Found
found_by bytes at none few short = pick none End (pick few Cut (pick short Cut (Whole (get_or bytes at 0) (at + front_length) (length_at bytes at))))

ends_inside : (bytes : List ℕ) (at : ℕ) → end_of (found_at bytes at) ≤ length bytes
unfolding found_at
ends_inside bytes at = by (leb (length bytes) at) (ltb (length bytes) (at + front_length)) (ltb (length bytes) (at + front_length + length_at bytes at)) refl
  where
    by : (a b d : Bool) → ltb (length bytes) (at + front_length + length_at bytes at) ≡ d → end_of (found_by bytes at a b d) ≤ length bytes
    by true b d e = omega arith
    by false true d e = omega arith
    by false false true e = omega arith
    by false false false e = ltb-false (length bytes) (at + front_length + length_at bytes at) e

pub whole_inside : (bytes : List ℕ) (at : ℕ) {tag start n : ℕ} → found_at bytes at ≡ Whole tag start n → start + n ≤ length bytes
whole_inside bytes at e = omega (arith, ap end_of e, ends_inside bytes at)

-- a field has the tag and the length that stand at its front, and its body behind that
abbrev Says : List ℕ → ℕ → Found → Type 0
Says bytes at found = answered found ≡ pick (answered found).has_line (a_field (get_or bytes at 0) (at + front_length) (length_at bytes at)) (the_last (answered found).is_cut)

found_says : (bytes : List ℕ) (at : ℕ) → Says bytes at (found_at bytes at)
unfolding found_at
found_says bytes at = by (leb (length bytes) at) (ltb (length bytes) (at + front_length)) (ltb (length bytes) (at + front_length + length_at bytes at))
  where
    by : (a b d : Bool) → Says bytes at (found_by bytes at a b d)
    by true b d = refl
    by false true d = refl
    by false false true = refl
    by false false false = refl

pub whole_says : (bytes : List ℕ) (at : ℕ) {tag start n : ℕ} → found_at bytes at ≡ Whole tag start n → a_field tag start n ≡ a_field (get_or bytes at 0) (at + front_length) (length_at bytes at)
whole_says bytes at e = subst (Says bytes at) e (found_says bytes at)

pub whole_start : (bytes : List ℕ) (at : ℕ) {tag start n : ℕ} → found_at bytes at ≡ Whole tag start n → start ≡ at + front_length
whole_start bytes at e = ap (λ (a : Answered). a.start) (whole_says bytes at e)

pub none_found : (bytes : List ℕ) → length bytes ≤ 0 → found_at bytes 0 ≡ End
unfolding found_at
none_found bytes l = sym (yes _ refl (le-leb (length bytes) 0 l) refl)
