-- The difference of two counts as an integer: by which is the larger, that it fits 64 bits, what tests of it say; and what elapsed
-- time answers.
-- Assumes nothing.
use mathlib.Core.Path.{◌≡◌, refl, ap, ◌∙◌, sym, subst}
use Prim.Native.Nat.{ℕ, zero, suc, ◌+◌, ◌-◌, ◌≤◌, ◌<◌, ◌^◌}
use native.Mathlib.Omega.{arith}
use mathlib.Core.Bool.{Bool, true, false, cond, not, ◌&&◌}
use mathlib.Core.List.{List}
use lib.Dec.{ltb, le→leb, lt→ltb}
use lib.IntN.{ℤ, pos, negsuc, sub_ℕ, ◌-ℤ◌}
use lib.Signed.{mag, lt_z, ◌<ℤ◌, ◌≤ℤ◌, lt_z_yes, le_z_yes}
use mir.Syntax.{w64}
use mir.Val.{SFits, to_z, of_z}
use mir.Facts.{to_z_pos, to_z-of_z}
use borrow.Author.Rules.{sfits_of}
use borrow.Author.Tests.{lt-ltb, le-ltb, ltb-true, ltb-false}
use Rattle.ground.specs.Choice.{pick}
use Rattle.calendar.specs.Leaps.{good_list}
use Rattle.tag.specs.Tags.{tag_of, good_tag}
use Rattle.time.specs.Times.{time_of, between, Elapsed, elapsed_of}
use Rattle.tag.specs.declared.Tag.{Tag}
use Rattle.ground.proofs.LawsTests.{never, both}

pub minus : (a b : ℕ) → pos a -ℤ pos b ≡ sub_ℕ a b
minus a zero =
    let e : a + 0 ≡ a - 0 = omega arith in
    rw (le-ltb a 0 (omega arith)) (ap pos e)
minus a (suc b) = refl

small : (a b : ℕ) (t : Bool) → a < 2 ^ 62 → b < 2 ^ 62 → mag (cond t (negsuc (b - suc a)) (pos (a - b))) < 2 ^ 63
small a b true p q = omega arith
small a b false p q = omega arith

module _ (a b : ℕ) (p : a < 2 ^ 62) (q : b < 2 ^ 62) where
  counts : to_z w64 a -ℤ to_z w64 b ≡ pos a -ℤ pos b
  counts = rw (to_z_pos w64 {n = a} (omega arith), to_z_pos w64 {n = b} (omega arith))

  pub fits : SFits w64 (to_z w64 a -ℤ to_z w64 b)
  fits = subst (λ (z : ℤ). SFits w64 z) (sym (counts ∙ minus a b)) (sfits_of (small a b (ltb a b) p q))

  pub exact : to_z w64 (of_z w64 (to_z w64 a -ℤ to_z w64 b)) ≡ pos a -ℤ pos b
  exact = to_z-of_z fits ∙ counts

-- Which side of zero a difference is on, and how far from it.
below_zero : (a b : ℕ) → a < b → pos a -ℤ pos b ≡ negsuc (b - suc a)
below_zero a b h = minus a b ∙ ap (λ (t : Bool). cond t (negsuc (b - suc a)) (pos (a - b))) (lt-ltb a b h)

from_zero : (a b : ℕ) → b ≤ a → pos a -ℤ pos b ≡ pos (a - b)
from_zero a b h = minus a b ∙ ap (λ (t : Bool). cond t (negsuc (b - suc a)) (pos (a - b))) (le-ltb a b h)

-- The same of the time from one tag to a second.
module _ (leaps : List ℕ) (a b : Tag) where
  pub earlier : time_of leaps b < time_of leaps a → between leaps a b <ℤ pos 0
  earlier h = subst (λ (z : ℤ). z <ℤ pos 0) (sym (below_zero (time_of leaps b) (time_of leaps a) h)) (lt_z_yes tt)

  pub later : time_of leaps a < time_of leaps b → pos 0 <ℤ between leaps a b
  later h = subst (λ (z : ℤ). pos 0 <ℤ z) (sym (from_zero (time_of leaps b) (time_of leaps a) (omega arith))) (lt_z_yes (lt→ltb 0 (time_of leaps b - time_of leaps a) (omega arith)))

  pub at_least_zero : time_of leaps a ≤ time_of leaps b → pos 0 ≤ℤ between leaps a b
  at_least_zero h = subst (λ (z : ℤ). pos 0 ≤ℤ z) (sym (from_zero (time_of leaps b) (time_of leaps a) h)) (le_z_yes (le→leb 0 (time_of leaps b - time_of leaps a) (omega arith)))

  pub at_most : (n : ℕ) → time_of leaps a ≤ time_of leaps b → time_of leaps b ≤ time_of leaps a + n → between leaps a b ≤ℤ pos n
  at_most n h k = subst (λ (z : ℤ). z ≤ℤ pos n) (sym (from_zero (time_of leaps b) (time_of leaps a) h)) (le_z_yes (le→leb (time_of leaps b - time_of leaps a) n (omega arith)))

  pub not_back : lt_z (between leaps a b) (pos 0) ≡ false → time_of leaps a ≤ time_of leaps b
  not_back h = by (ltb (time_of leaps b) (time_of leaps a)) refl
    where
      by : (t : Bool) → ltb (time_of leaps b) (time_of leaps a) ≡ t → time_of leaps a ≤ time_of leaps b
      by true e = never (sym h ∙ ap (λ (z : ℤ). lt_z z (pos 0)) (below_zero (time_of leaps b) (time_of leaps a) (ltb-true (time_of leaps b) (time_of leaps a) e)))
      by false e = ltb-false (time_of leaps b) (time_of leaps a) e

  pub not_late : (n : ℕ) → lt_z (between leaps a b) (pos 0) ≡ false → lt_z (pos n) (between leaps a b) ≡ false → time_of leaps b ≤ time_of leaps a + n
  not_late n f h =
      let p : time_of leaps a ≤ time_of leaps b = not_back f in
      omega (arith, ltb-false n (time_of leaps b - time_of leaps a) (ap (λ (z : ℤ). lt_z (pos n) z) (sym (from_zero (time_of leaps b) (time_of leaps a) p)) ∙ h))

abbrev pub answer : ℕ → ℤ → Elapsed
answer n d = record { number = n; ms = d }

-- Of two good tags, where one is bad, and by a list that is none.
module _ (leaps a b : List ℕ) where
  answers : (l t : Bool) → good_list leaps ≡ l → good_tag leaps a && good_tag leaps b ≡ t
      → elapsed_of leaps a b ≡ pick (not l) (answer 19 (pos 0)) (pick t (answer 0 (between leaps (tag_of a) (tag_of b))) (answer 12 (pos 0)))
  unfolding elapsed_of
  answers l t g h = λ i. pick (not (g i)) (answer 19 (pos 0)) (pick (h i) (answer 0 (between leaps (tag_of a) (tag_of b))) (answer 12 (pos 0)))

  pub counted : good_list leaps ≡ true → good_tag leaps a ≡ true → good_tag leaps b ≡ true → elapsed_of leaps a b ≡ answer 0 (between leaps (tag_of a) (tag_of b))
  counted l p q = answers true true l (both p q)

  pub not_counted : good_list leaps ≡ true → good_tag leaps a && good_tag leaps b ≡ false → elapsed_of leaps a b ≡ answer 12 (pos 0)
  not_counted l h = answers true false l h

  pub not_listed : good_list leaps ≡ false → elapsed_of leaps a b ≡ answer 19 (pos 0)
  not_listed l = answers false (good_tag leaps a && good_tag leaps b) l refl
