-- No ground of the copies holds exactly where they agree on one, and the common copy is that one.
-- Assumes nothing.
use Prim.Native.Nat.{ℕ, zero, suc, ◌*◌, ◌≤◌, ◌<◌}
use mathlib.Core.Path.{◌≡◌, refl, sym, ap, ap₂, ◌∙◌, subst}
use mathlib.Core.Bool.{Bool, true, false, not, ◌&&◌, ◌||◌}
use mathlib.Core.List.{List, [], ◌∷◌}
use native.Mathlib.Omega.{arith}
use lib.Dec.{lit<}
use lib.ListN.{length, drop, get_or, length-drop}
use lib.Seq.{length-take-le}
use borrow.Author.Tests.{ltb-false, le-ltb, not-true, not-false}
use Rattle.ground.specs.Choice.{pick}
use Rattle.ground.specs.Grounds.{NoneHolds}
use Rattle.ground.proofs.LawsTests.{neither}
use Rattle.bits.specs.Bits.{Below}
use Rattle.bits.proofs.LawsBelow.{below_take, below_drop}
use Rattle.check_rule.specs.Check.{generator, passes}
use Rattle.check_rule.specs.Finds.{Passes}
use Rattle.check_rule.proofs.LawsPasses.{passes_true, true_passes}
use Rattle.copies.specs.Copies.{copy_length, copies_length, copy_at, same_as, differ, common, common_in, no_copy_passes, copies_differ, copies_grounds}
use Rattle.copies.specs.Agreed.{Agreed}
use Rattle.copies.proofs.LawsSame.{same_refl, same_equal}

-- a property of each of three places
pub each : (P : ℕ → Type 0) → P 0 → P 1 → P 2 → (k : ℕ) → k < 3 → P k
each P a b c zero h = a
each P a b c (suc zero) h = b
each P a b c (suc (suc zero)) h = c
each P a b c (suc (suc (suc k))) h = absurd (omega arith)

pub copy_long : (block : List ℕ) → copies_length ≤ length block → (k : ℕ) → k < 3 → length (copy_at k block) ≡ copy_length
copy_long block l k h = length-take-le copy_length (drop (k * copy_length) block) (omega (arith, length-drop (k * copy_length) block))

pub copy_bytes : (block : List ℕ) → Below 256 block → (k : ℕ) → Below 256 (copy_at k block)
copy_bytes block b k = below_take 256 copy_length (drop (k * copy_length) block) (below_drop 256 (k * copy_length) block b)

never : {X : Type 0} {t : Bool} → t ≡ false → t ≡ true → X
never {X} {t} e f = let z : true ≡ false = sym f ∙ e in let w : ◌≡◌ {A = ℕ} 0 1 = cc in absurd (omega arith)

-- two copies that pass do not differ exactly where they are equal
not_differ : (a b : List ℕ) → differ a b ≡ false → passes a ≡ true → passes b ≡ true → a ≡ b
not_differ a b d p q = same_equal a b (not-false (same_as a b) (sym (ap₂ (λ (x y : Bool). x && (y && not (same_as a b))) p q) ∙ d))

equal_not_differ : (a b : List ℕ) → (passes a ≡ true → passes b ≡ true → a ≡ b) → differ a b ≡ false
equal_not_differ a b f = go (passes a) (passes b) refl refl
  where
    go : (p q : Bool) → passes a ≡ p → passes b ≡ q → (p && (q && not (same_as a b))) ≡ false
    go false q ep eq = refl
    go true false ep eq = refl
    go true true ep eq = ap (λ (z : List ℕ). not (same_as a z)) (sym (f ep eq)) ∙ ap not (same_refl a)

-- the first of three copies that passes, where one does
module _ (a b c : List ℕ) where
  record First : Type 0 where
    place : ℕ
    within : place < 3
    there : get_or (a ∷ b ∷ c ∷ []) place [] ≡ common a b c
    passing : passes (common a b c) ≡ true

  first : (p q : Bool) → passes a ≡ p → passes b ≡ q → (p || (q || passes c)) ≡ true → First
  unfolding common
  first true q ep eq h =
      let e : common a b c ≡ a = ap (λ (t : Bool). pick t a (pick (passes b) b c)) ep in
      record { place = 0; within = lit< tt; there = sym e; passing = ap passes e ∙ ep }
  first false true ep eq h =
      let e : common a b c ≡ b = ap₂ (λ (t u : Bool). pick t a (pick u b c)) ep eq in
      record { place = 1; within = lit< tt; there = sym e; passing = ap passes e ∙ eq }
  first false false ep eq h =
      let e : common a b c ≡ c = ap₂ (λ (t u : Bool). pick t a (pick u b c)) ep eq in
      record { place = 2; within = lit< tt; there = sym e; passing = ap passes e ∙ h }

-- one of three tests holds
some_true : (p q r : Bool) (k : ℕ) → k < 3 → get_or (p ∷ q ∷ r ∷ []) k false ≡ true → (p || (q || r)) ≡ true
some_true true q r k h e = refl
some_true false true r k h e = refl
some_true false false r k h e = each (λ j. get_or (false ∷ false ∷ r ∷ []) j false ≡ true → r ≡ true) (λ z. never refl z) (λ z. never refl z) (λ z. z) k h e

none_true : (p q r : Bool) → (p || (q || r)) ≡ false → (k : ℕ) → k < 3 → get_or (p ∷ q ∷ r ∷ []) k false ≡ false
none_true p q r e = let a = neither p (q || r) e in let b = neither q r a.1 in each (λ k. get_or (p ∷ q ∷ r ∷ []) k false ≡ false) a.0 b.0 b.1

all_false : (t : ℕ → Bool) → ((k : ℕ) → k < 3 → t k ≡ true → ⊥) → (t 0 || (t 1 || t 2)) ≡ false
all_false t f = ap₂ ◌||◌ (is_false 0 (lit< tt)) (ap₂ ◌||◌ (is_false 1 (lit< tt)) (is_false 2 (lit< tt)))
  where
    go : (b : Bool) → (b ≡ true → ⊥) → b ≡ false
    go true n = absurd (n refl)
    go false n = refl

    is_false : (k : ℕ) → k < 3 → t k ≡ false
    is_false k h = go (t k) (f k h)

module _ (block : List ℕ) where
  copy_nth : (k : ℕ) → k < 3 → get_or (copy_at 0 block ∷ copy_at 1 block ∷ copy_at 2 block ∷ []) k [] ≡ copy_at k block
  copy_nth = each (λ k. get_or (copy_at 0 block ∷ copy_at 1 block ∷ copy_at 2 block ∷ []) k [] ≡ copy_at k block) refl refl refl

  mark_nth : (k : ℕ) → k < 3 → get_or (passes (copy_at 0 block) ∷ passes (copy_at 1 block) ∷ passes (copy_at 2 block) ∷ []) k false ≡ passes (copy_at k block)
  mark_nth = each (λ k. get_or (passes (copy_at 0 block) ∷ passes (copy_at 1 block) ∷ passes (copy_at 2 block) ∷ []) k false ≡ passes (copy_at k block)) refl refl refl

  -- where no two differ, all that pass are equal
  pub all_equal : copies_differ block ≡ false → (j k : ℕ) → j < 3 → k < 3 → passes (copy_at j block) ≡ true → passes (copy_at k block) ≡ true → copy_at j block ≡ copy_at k block
  all_equal d j k hj hk =
      let a = copy_at 0 block in
      let b = copy_at 1 block in
      let c = copy_at 2 block in
      let x = neither (differ a b) (differ a c || differ b c) d in
      let y = neither (differ a c) (differ b c) x.1 in
      let Same : ℕ → ℕ → Type 0 = λ j k. passes (copy_at j block) ≡ true → passes (copy_at k block) ≡ true → copy_at j block ≡ copy_at k block in
      let ab : Same 0 1 = not_differ a b x.0 in
      let ac : Same 0 2 = not_differ a c y.0 in
      let bc : Same 1 2 = not_differ b c y.1 in
      each (λ j. (k : ℕ) → k < 3 → Same j k)
      (each (Same 0) (λ _ _. refl) ab ac)
      (each (Same 1) (λ p q. sym (ab q p)) (λ _ _. refl) bc)
      (each (Same 2) (λ p q. sym (ac q p)) (λ p q. sym (bc q p)) (λ _ _. refl))
      j hj k hk

  module _ (bytes : Below 256 block) where
    passes_at : (k : ℕ) → passes (copy_at k block) ≡ true → Passes generator (copy_at k block)
    passes_at k p = passes_true (copy_at k block) (copy_bytes block bytes k) p

    pub none_agreed : NoneHolds (copies_grounds block) → Agreed block (common_in block)
    none_agreed n =
        let f = first (copy_at 0 block) (copy_at 1 block) (copy_at 2 block) _ _ refl refl (not-false _ n.1.0) in
        let k = f.place in
        let there : copy_at k block ≡ common_in block = sym (copy_nth k f.within) ∙ f.there in
        let pass : passes (copy_at k block) ≡ true = ap passes there ∙ f.passing in
        record {
          long = ltb-false (length block) copies_length n.0;
          place = k;
          within = f.within;
          there = there;
          passing = subst (Passes generator) there (passes_at k pass);
          only = λ j h p. all_equal n.1.1.0 j k h f.within (true_passes (copy_at j block) p) pass ∙ there;
        }

    pub agreed_none : {c : List ℕ} → Agreed block c → NoneHolds (copies_grounds block) × (common_in block ≡ c)
    agreed_none {c} g =
        let is : (k : ℕ) → k < 3 → passes (copy_at k block) ≡ true → copy_at k block ≡ c = λ k h p. g.only k h (passes_at k p) in
        let pass : passes (copy_at g.place block) ≡ true = ap passes g.there ∙ true_passes c g.passing in
        let some = some_true _ _ _ g.place g.within (mark_nth g.place g.within ∙ pass) in
        let f = first (copy_at 0 block) (copy_at 1 block) (copy_at 2 block) _ _ refl refl some in
        let there : copy_at f.place block ≡ common_in block = sym (copy_nth f.place f.within) ∙ f.there in
        let alike : (j k : ℕ) → j < 3 → k < 3 → differ (copy_at j block) (copy_at k block) ≡ false =
        λ j k hj hk. equal_not_differ (copy_at j block) (copy_at k block) (λ p q. is j hj p ∙ sym (is k hk q)) in (
          (
            le-ltb (length block) copies_length g.long,
            (
              ap not some,
              (ap₂ ◌||◌ (alike 0 1 (lit< tt) (lit< tt)) (ap₂ ◌||◌ (alike 0 2 (lit< tt) (lit< tt)) (alike 1 2 (lit< tt) (lit< tt))), tt),
            ),
          ),
          sym there ∙ is f.place f.within (ap passes there ∙ f.passing),
        )

    -- and none passes, as a test and as a fact
    pub none_passes : no_copy_passes block ≡ true → (k : ℕ) → k < 3 → Passes generator (copy_at k block) → ⊥
    none_passes e k h p = never (sym (mark_nth k h) ∙ none_true _ _ _ (not-true _ e) k h) (true_passes (copy_at k block) p)

    pub passes_none : ((k : ℕ) → k < 3 → Passes generator (copy_at k block) → ⊥) → no_copy_passes block ≡ true
    passes_none f = ap not (all_false (λ k. passes (copy_at k block)) (λ k h p. f k h (passes_at k p)))
