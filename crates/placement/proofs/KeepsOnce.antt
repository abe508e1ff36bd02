-- No two records of a version hold the same, since the block and the record can be told from the channel and the detector: tested at every
-- block, version and record.
-- Assumes nothing.
use mathlib.Core.Path.{◌≡◌, sym, ap, ◌∙◌, subst}
use mathlib.Core.Bool.{Bool, not, ◌&&◌, ◌||◌}
use Prim.Native.Nat.{ℕ, ◌+◌, ◌%◌, ◌≤◌, ◌<◌}
use native.Mathlib.Omega.{arith}
use lib.Dec.{T, eqb, ltb, lit<, eqb→eq}
use borrow.Author.Tests.{eq-eqb}
use Rattle.ground.specs.Choice.{pick}
use Rattle.ground.proofs.LawsTests.{T-first, T-second}
use Rattle.placement.specs.Placement.{PlacedAnswer}
use Rattle.placement.specs.Placement.{group_of, held_in, records_held, place_of}
use Rattle.placement.specs.Promises.{HeldOnce}
use Rattle.placement.proofs.LawsBelow.{below, below_at}
use Rattle.placement.proofs.LawsPlacement.{unknown_block, unknown_version, absent}
use Rattle.placement.proofs.LawsRecords.{at_most_four}

-- the block that holds a detector of a channel, and which of its records does
abbrev block_for : ℕ → PlacedAnswer → ℕ
block_for v p = pick (eqb p.channel 1) ((p.detector + 3) % 8 + 3) (pick (ltb v 2) (pick (ltb p.channel 4) 2 1) (pick (ltb p.channel 4) 1 2))

abbrev record_for : PlacedAnswer → ℕ
record_for p = pick (eqb p.channel 1) 1 (pick (eqb p.channel 2 || eqb p.channel 4) p.detector (p.detector + 2))

abbrev told : (v b k : ℕ) → PlacedAnswer → Bool
told v b k p = eqb (block_for v p) b && eqb (record_for p) k

abbrev tested : ℕ → ℕ → ℕ → Bool
tested v b k = not (eqb (place_of b v k).number 0) || told v b k (place_of b v k)

all_tested : T (below 4 (λ v. below 12 (λ b. below 5 (tested v b))))
unfolding place_of held_in group_of records_held
all_tested = tt

-- what a placement that is given is known by
module _ (v b k : ℕ) (z : (place_of b v k).number ≡ 0) where
  never : (p : PlacedAnswer) → place_of b v k ≡ p → 0 < p.number → ⊥
  never p e l = omega (arith, sym (ap (λ (q : PlacedAnswer). q.number) e) ∙ z)

  known_block : b ≤ 11
  known_block = let f : 11 < b → ⊥ = λ l. never _ (unknown_block b v k l) (lit< tt) in omega arith

  known_version : v ≤ 3
  known_version = let f : 3 < v → ⊥ = λ l. never _ (unknown_version b v k known_block l) (lit< tt) in omega arith

  few : k ≤ 4
  few =
      let most = at_most_four b v known_block known_version in
      let f : 4 < k → ⊥ = λ l. never _ (absent b v k known_block known_version (λ _ m. omega arith)) (lit< tt) in
      omega arith

  told_of : (block_for v (place_of b v k) ≡ b) × (record_for (place_of b v k) ≡ k)
  told_of =
      let in-version = below_at 4 (λ w. below 12 (λ c. below 5 (tested w c))) all_tested v (omega (arith, known_version)) in
      let in_block = below_at 12 (λ c. below 5 (tested v c)) in-version b (omega (arith, known_block)) in
      let t = subst (λ (s : Bool). T (not s || told v b k (place_of b v k))) (eq-eqb _ 0 z) (below_at 5 (tested v b) in_block k (omega (arith, few))) in
      (eqb→eq _ b (T-first (eqb (block_for v (place_of b v k)) b) _ t), eqb→eq _ k (T-second (eqb (block_for v (place_of b v k)) b) _ t))

pub held_once : HeldOnce
held_once v b k c l z y same alike =
    let equal : place_of b v k ≡ place_of c v l = λ i. record { number = (z ∙ sym y) i; channel = same i; detector = alike i } in
    let one = told_of v b k z in
    let other = told_of v c l y in
    (sym one.0 ∙ ap (block_for v) equal ∙ other.0, sym one.1 ∙ ap record_for equal ∙ other.1)
