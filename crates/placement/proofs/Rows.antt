-- The rule of each of the code's tables, proved by one computed test: every entry says what `place_of` gives for the block, version and
-- record that it stands for.
-- Assumes nothing.
use mathlib.Core.Path.{◌≡◌, ap, ap₂, ◌∙◌}
use mathlib.Core.Bool.{Bool, ◌&&◌}
use mathlib.Core.List.{List, [], ◌∷◌, ◌++◌}
use Prim.Native.Nat.{ℕ, ◌+◌, ◌-◌, ◌≤◌}
use native.Mathlib.Omega.{arith}
use lib.Dec.{T, eqb, eqb→eq}
use lib.ListN.{get_or, take}
use Rattle.ground.proofs.LawsTests.{T-first, T-second}
use Rattle.placement.specs.declared.Held.{Held}
use Rattle.placement.specs.Placement.{PlacedAnswer}
use Rattle.placement.specs.Placement.{◌det◌, early, middle, late, visible_held, group_of, held_in, records_held, place_of}
use Rattle.placement.specs.Table.{named_by}
use Rattle.placement.proofs.LawsBelow.{below, below_at}

abbrev same : PlacedAnswer → PlacedAnswer → Bool
same p q = eqb p.number q.number && (eqb p.channel q.channel && eqb p.detector q.detector)

same_eq : (p q : PlacedAnswer) → T (same p q) → p ≡ q
same_eq p q t =
    let rest = T-second (eqb p.number q.number) (eqb p.channel q.channel && eqb p.detector q.detector) t in
    let n : p.number ≡ q.number = eqb→eq p.number q.number (T-first (eqb p.number q.number) _ t) in
    let c : p.channel ≡ q.channel = eqb→eq p.channel q.channel (T-first (eqb p.channel q.channel) _ rest) in
    let d : p.detector ≡ q.detector = eqb→eq p.detector q.detector (T-second (eqb p.channel q.channel) _ rest) in
    λ i. record { number = n i; channel = c i; detector = d i }

-- the records that a block holds, filled up to four entries
abbrev filled : List Held → List Held
filled held = take 4 (held ++ (0 det 0 ∷ []))

-- blocks 1 and 2 of a group of versions
abbrev group : (ℕ → List Held) → List (List Held)
group held = filled (held 1) ∷ filled (held 2) ∷ []

-- the table of blocks 1 and 2 by version group, block and record, these two counted from 0
abbrev pub entry : ℕ → ℕ → ℕ → Held
entry g b k = get_or (get_or (get_or (group early ∷ group middle ∷ group late ∷ []) g []) b []) k (0 det 0)

abbrev right : ℕ → ℕ → ℕ → Bool
right version b k = same (named_by (entry (group_of version) b k)) (place_of (b + 1) version (k + 1))

all_right : T (below 4 (λ version. below 2 (λ b. below 4 (right version b))))
unfolding named_by group_of place_of held_in records_held
all_right = tt

pub infrared_rule : (block version k : ℕ) → (1 ≤ block) × (block ≤ 2) × (version ≤ 3) × (1 ≤ k) × (k ≤ 4)
    → {g : ℕ} → g ≡ group_of version → named_by (entry g (block - 1) (k - 1)) ≡ place_of block version k
infrared_rule block version k h {g} e =
    let there = below_at 4 (λ v. below 2 (λ b. below 4 (right v b))) all_right version (omega arith) in
    let at = below_at 4 (right version (block - 1)) (below_at 2 (λ b. below 4 (right version b)) there (block - 1) (omega arith)) (k - 1) (omega arith) in
    ap (λ (g : ℕ). named_by (entry g (block - 1) (k - 1))) e
    ∙ same_eq _ _ at ∙ ap₂ (λ (b r : ℕ). place_of b version r) (omega arith) (omega arith)

-- the row of blocks 3 to 10
abbrev right_visible : ℕ → Bool
right_visible at = same (named_by (get_or visible_held at (0 det 0))) (place_of (at + 3) 0 1)

all_visible : T (below 8 right_visible)
unfolding named_by place_of held_in records_held
all_visible = tt

pub visible_rule : (block : ℕ) → 3 ≤ block → block ≤ 10 → named_by (get_or visible_held (block - 3) (0 det 0)) ≡ place_of block 0 1
visible_rule block lo hi = same_eq _ _ (below_at 8 right_visible all_visible (block - 3) (omega arith)) ∙ ap (λ (b : ℕ). place_of b 0 1) (omega arith)
