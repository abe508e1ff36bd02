-- The turns of `find`: the copies tried at a start make no block, and the starts passed have none.
-- Assumes nothing.
use Prim.Native.Nat.{ℕ, ◌+◌, ◌-◌, ◌≤◌, ◌<◌}
use mathlib.Core.Path.{◌≡◌, refl, sym, ap, ◌∙◌}
use mathlib.Core.Bool.{false}
use mathlib.Core.List.{List}
use native.Mathlib.Omega.{arith}
use Rattle.std.specs.Prelude.{Option, Some, None}
use lib.ListN.{length, take, drop, length-drop}
use lib.Seq.{take_all}
use borrow.Author.Count.{below_more}
use borrow.Author.Tests.{lt-ltb, le-ltb}
use Rattle.ground.proofs.LawsChoice.{yes, no}
use Rattle.row.specs.Promises.{most_words}
use Rattle.made.specs.Made.{made, makes, bytes_by, scratch_by}
use Rattle.made.proofs.LawsMade.{none_makes, none_left, some_makes, some_long, some_left}
use Rattle.block.specs.Answers.{room_after}
use Rattle.salvaging.specs.Pieces.{copy_of, start_in, start_from, Finds, scratch_at, scratch_found}
use Rattle.salvaging.proofs.LawsSearch.{copy_first, copy_none, pass_on, hit_at, end_at}

-- the part that is lent is the rest
pub rest_is : (at : ℕ) (input : List ℕ) → take (length input - at) (drop at input) ≡ drop at input
rest_is at input = take_all (length input - at) (drop at input) (omega (arith, length-drop at input))

-- the starts from `from` on that lie before `start` have no block
pub record Passed (input scratch₀ scratch : List ℕ) (from start : ℕ) : Type 0 where
  pub within : start ≤ length input
  pub kept : scratch ≡ scratch₀
  pub same : start_from from input ≡ start_in (length input - start) start input

-- the copies before `copy` make no block there
pub record Tried (input scratch₀ scratch : List ℕ) (start copy : ℕ) : Type 0 where
  pub within : copy ≤ 3
  pub kept : scratch ≡ scratch₀
  pub none : (j : ℕ) → j < copy → makes j (drop start input) ≡ false

module _ (input scratch : List ℕ) (from : ℕ) where
  pub begins : from ≤ length input → Passed input scratch scratch from from
  unfolding start_from
  begins l = record { within = l; kept = refl; same = refl }

module _ {input scratch₀ scratch : List ℕ} {from start : ℕ} (p : Passed input scratch₀ scratch from start) where
  pub passed_all : length input ≤ start → Finds input from None × (scratch ≡ scratch_found input from scratch₀)
  unfolding scratch_found
  passed_all l =
      let e = end_at from start input p.same l in
      (omega (arith, e, p.within), no _ refl (le-ltb (start_from from input) (length input) (omega (arith, e))) p.kept)

  module _ (l : start < length input) {scratch₁ : List ℕ} {copy : ℕ} (t : Tried input scratch scratch₁ start copy) where
    pub passes_on : 3 ≤ copy → Passed input scratch₀ scratch₁ from (start + 1)
    passes_on e =
        record {
          within = omega arith;
          kept = t.kept ∙ p.kept;
          same = pass_on from start input p.same l (copy_none (drop start input) (λ j h. t.none j (omega arith)));
        }

    module _ (lent : most_words ≤ length scratch₀) {found : Option ℕ} {rest after : List ℕ} (r : rest ≡ drop start input)
        (e : found ≡ bytes_by copy rest (length scratch₁)) (a : after ≡ scratch_by copy rest scratch₁) where
      roomy : most_words ≤ length scratch₁
      roomy = omega (arith, ap length t.kept, ap length p.kept)

      found_is : found ≡ bytes_by copy (drop start input) (length scratch₁)
      found_is = e ∙ ap (λ (x : List ℕ). bytes_by copy x (length scratch₁)) r

      left_is : after ≡ scratch_by copy (drop start input) scratch₁
      left_is = a ∙ ap (λ (x : List ℕ). scratch_by copy x scratch₁) r

      pub tried_on : copy < 3 → None ≡ found → Tried input scratch after start (copy + 1)
      tried_on c z =
          record {
            within = omega arith;
            kept = none_left copy (drop start input) scratch₁ roomy left_is (z ∙ found_is) ∙ t.kept;
            none =
                below_more (λ (j : ℕ). makes j (drop start input) ≡ false) copy t.none
                (none_makes copy (drop start input) scratch₁ roomy left_is (z ∙ found_is));
          }

      pub hits : {b : ℕ} → copy < 3 → Some b ≡ found → Finds input from (Some (record { start = start; copy = copy; bytes = b })) × (after ≡ scratch_found input from scratch₀)
      unfolding scratch_found
      hits c some =
          let m = some_makes copy (drop start input) scratch₁ roomy left_is (some ∙ found_is) in
          let k : copy_of (drop start input) ≡ copy = copy_first (drop start input) copy m t.none in
          let s : start ≡ start_from from input = hit_at from start input p.same l (omega (arith, k)) in (
            record { at = s; inside = l; which = sym k; long = some_long copy (drop start input) scratch₁ roomy left_is (some ∙ found_is) },
            yes _ refl (lt-ltb (start_from from input) (length input) (omega (arith, s)))
                (some_left copy (drop start input) scratch₁ roomy left_is (some ∙ found_is)
                ∙ ap (room_after (made copy (drop start input))) (t.kept ∙ p.kept)
                ∙ ap (λ (j : ℕ). room_after (made j (drop start input)) scratch₀) (sym k)
                ∙ ap (λ (i : ℕ). scratch_at i input scratch₀) s),
          )
