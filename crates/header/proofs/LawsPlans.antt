-- What holds of a header that no ground refuses, and that its plan is what it asks for.
-- Assumes nothing.
use Prim.Native.Nat.{ℕ, ◌<◌, ◌≤◌}
use mathlib.Core.Path.{◌≡◌, refl, sym, ap}
use mathlib.Core.Bool.{Bool, true, not, ◌||◌}
use mathlib.Core.List.{List}
use lib.Dec.{ltb}
use lib.ListN.{length}
use borrow.Author.Tests.{lt-ltb, le-ltb, ltb-false, eqb-true, eq-eqb, ne_eqb, not-false}
use Rattle.ground.specs.Grounds.{first_of, NoneHolds}
use Rattle.ground.proofs.LawsChoice.{yes, no}
use Rattle.ground.proofs.LawsTests.{neither}
use Rattle.row.specs.Rows.{last_block, last_version, permits}
use Rattle.copies.specs.Copies.{header_length}
use Rattle.header.specs.Says.{block_in, size_in, count_in, extra_words, words_in, version_in, row_in}
use Rattle.header.specs.Plans.{wrong_count, header_grounds, plan_grounds}

pub record Clear (h : List ℕ) : Type 0 where
  pub block : block_in h ≤ last_block
  pub version : version_in h ≤ last_version
  pub size : (row_in h).size ≡ size_in h
  pub enough : extra_words ≤ count_in h
  pub counted : permits (row_in h) (words_in h) ≡ true

pub clear : (h : List ℕ) → NoneHolds (header_grounds h) → Clear h
clear h n =
    let m = neither (ltb (count_in h) extra_words) _ n.1.1.1.0 in
    record {
      block = ltb-false last_block (block_in h) n.0;
      version = ltb-false last_version (version_in h) n.1.0;
      size = eqb-true (row_in h).size (size_in h) (not-false _ n.1.1.0);
      enough = ltb-false (count_in h) extra_words m.0;
      counted = not-false _ m.1;
    }

-- the two ends of the count's test
pub few_words : (h : List ℕ) → count_in h < extra_words → true ≡ wrong_count h
few_words h l = sym (ap (λ (t : Bool). t || not (permits (row_in h) (words_in h))) (lt-ltb (count_in h) extra_words l))

pub enough_words : (h : List ℕ) → extra_words ≤ count_in h → not (permits (row_in h) (words_in h)) ≡ wrong_count h
enough_words h l = sym (ap (λ (t : Bool). t || not (permits (row_in h) (words_in h))) (le-ltb (count_in h) extra_words l))

-- the first ground of a plan
pub short_first : (h : List ℕ) → (length h ≡ header_length → ⊥) → first_of (plan_grounds h) ≡ 1
short_first h f = sym (yes _ refl (ap not (ne_eqb (length h) header_length f)) refl)

pub long_first : (h : List ℕ) → length h ≡ header_length → first_of (plan_grounds h) ≡ first_of (header_grounds h)
long_first h l = sym (no _ refl (ap not (eq-eqb (length h) header_length l)) refl)
