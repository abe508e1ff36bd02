-- No ground of a header holds exactly where it asks for a block, and its plan is then of what it asks for.
-- Assumes nothing.
use Prim.Native.Nat.{ℕ, ◌≤◌}
use mathlib.Core.Path.{◌≡◌, refl, sym, ap, ap₂, subst}
use mathlib.Core.Bool.{not, ◌&&◌, ◌||◌}
use mathlib.Core.List.{List}
use native.Mathlib.Omega.{arith}
use lib.Dec.{lit≤, eqb, leb}
use borrow.Author.Tests.{le-ltb, le-leb, leb-true, eqb-true, eq-eqb, ne_eqb}
use Rattle.ground.specs.Grounds.{NoneHolds}
use Rattle.ground.proofs.LawsChoice.{yes, no, either}
use Rattle.ground.proofs.LawsTests.{both, split}
use Rattle.row.specs.Rows.{last_block, last_version}
use Rattle.row.specs.Promises.{Takes}
use Rattle.row.proofs.LawsRow.{suits_takes, takes_suits}
use Rattle.header.specs.Says.{number_of, block_in, size_in, count_in, extra_words, words_in, version_in, row_in}
use Rattle.header.specs.Plans.{header_grounds}
use Rattle.header.specs.Asks.{IsBlock, zeroth, itself, Asks}
use Rattle.header.proofs.LawsPlans.{clear}

-- the number of a block id is the block's
pub is_number : {id b : ℕ} → IsBlock id b → number_of id ≡ b
unfolding number_of
is_number zeroth = refl
is_number (itself n l h) = sym (no _ refl (ne_eqb n 240 (λ e. omega arith)) (yes _ refl (both (le-leb 1 n l) (le-leb n 11 h)) refl))

pub is_known : {id b : ℕ} → IsBlock id b → b ≤ 11
is_known zeroth = lit≤ tt
is_known (itself n l h) = h

pub number_is : (id : ℕ) → number_of id ≤ 11 → IsBlock id (number_of id)
unfolding number_of
number_is id =
    either (λ b. b ≤ 11 → IsBlock id b) (eqb id 240) (λ e _. subst (λ (k : ℕ). IsBlock k 0) (sym (eqb-true id 240 e)) zeroth)
    (λ _. either (λ b. b ≤ 11 → IsBlock id b) (leb 1 id && leb id 11)
    (λ e _. let s = split (leb 1 id) (leb id 11) e in itself id (leb-true 1 id s.0) (leb-true id 11 s.1))
    (λ _ h. absurd (omega arith)))

pub none_asks : (h : List ℕ) → NoneHolds (header_grounds h) → Asks h (block_in h) (version_in h) (size_in h) (words_in h)
none_asks h n =
    let k = clear h n in
    record {
      id = number_is _ k.block;
      size = refl;
      count = omega (arith, k.enough);
      version = refl;
      known = k.version;
      suits = takes_suits k.version (record { sized = k.size; counted = k.counted });
    }

module _ {h : List ℕ} {b v w C : ℕ} (a : Asks h b v w C) where
  pub asked_block : block_in h ≡ b
  asked_block = is_number a.id

  pub asked_words : words_in h ≡ C
  asked_words = omega (arith, a.count)

  asked_takes : Takes (block_in h) (version_in h) (size_in h) (words_in h)
  asked_takes =
      let same : b ≡ block_in h = sym asked_block in
      subst (λ (x : ℕ). Takes x (version_in h) (size_in h) (words_in h)) same
      (subst (λ (x : ℕ). Takes b x (size_in h) (words_in h)) (sym a.version)
      (subst (λ (x : ℕ). Takes b v x (words_in h)) (sym a.size)
      (subst (Takes b v w) (sym asked_words) (suits_takes a.suits))))

  pub asks_none : NoneHolds (header_grounds h)
  asks_none =
      let t = asked_takes in
      let few : extra_words ≤ count_in h = omega (arith, a.count) in (
        le-ltb last_block (block_in h) (omega (arith, asked_block, is_known a.id)),
        (
          le-ltb last_version (version_in h) (omega (arith, a.version, a.known)),
          (
            ap not (eq-eqb (row_in h).size (size_in h) t.sized),
            (ap₂ ◌||◌ (le-ltb (count_in h) extra_words few) (ap not t.counted), tt),
          ),
        ),
      )
