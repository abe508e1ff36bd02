-- The promises on the sections are kept: sections that follow each other with their parity words between them have each word once; and a
-- verdict is its section's test.
-- Assumes nothing.
use Prim.Native.Nat.{ℕ, ◌+◌, ◌≤◌, ◌<◌}
use mathlib.Core.Path.{◌≡◌, refl, sym, ap, ◌∙◌}
use mathlib.Core.Bool.{Bool, true, false, ◌&&◌}
use mathlib.Core.List.{List, [], ◌∷◌, ◌++◌}
use mathlib.Core.Logic.{◌↔◌}
use native.Mathlib.Omega.{arith}
use lib.Arith.{lt_of_le-ne}
use lib.Dec.{eqb, leb, lit≤}
use lib.ListN.{get_or}
use borrow.Author.Tests.{eqb-true, eqb-false, eq-eqb, ne_eqb, le-leb, lt-leb, leb-true, leb-false}
use Rattle.ground.specs.Choice.{pick}
use Rattle.parity.specs.declared.Layout.{Layout}
use Rattle.parity.specs.declared.Layout.TheVariants.{ImagerSpacelook, SounderSpacelook}
use Rattle.parity.specs.declared.Section.{Section}
use Rattle.parity.specs.Sections.{SectionsAnswer, xor_of, ◌to◌kept_in◌, first_word, last_word, parity_word, word, words_from, sections_in, holds_in, verdicts_on}
use Rattle.parity.specs.Words.{ground_of}
use Rattle.parity.specs.Promises.{times_in, Covered, verdict, Judged}
use Rattle.parity.proofs.LawsSections.{accepts}

-- ---- how often a section has a word

abbrev among : Section → ℕ → ℕ
among s k = pick (leb (first_word s) k && leb k (last_word s)) 1 0

abbrev parity_of : Section → ℕ → ℕ
parity_of s k = pick (eqb k (parity_word s)) 1 0

module _ (s : Section) (k : ℕ) where
  inside : first_word s ≤ k → k ≤ last_word s → among s k ≡ 1
  inside p q = λ i. pick (le-leb (first_word s) k p i && le-leb k (last_word s) q i) 1 0

  before : k < first_word s → among s k ≡ 0
  before p = λ i. pick (lt-leb (first_word s) k p i && leb k (last_word s)) 1 0

  behind : first_word s ≤ k → last_word s < k → among s k ≡ 0
  behind p q = λ i. pick (le-leb (first_word s) k p i && lt-leb k (last_word s) q i) 1 0

  is_parity : k ≡ parity_word s → parity_of s k ≡ 1
  is_parity e = λ i. pick (eq-eqb k (parity_word s) e i) 1 0

  no_parity : (k ≡ parity_word s → ⊥) → parity_of s k ≡ 0
  no_parity n = λ i. pick (ne_eqb k (parity_word s) n i) 1 0

-- Sections from word f on, each with its parity word right behind it, up to word t.
abbrev Row : ℕ → List Section → ℕ → Type 0
Row f [] t = f ≡ t
Row f (s ∷ ss) t = (first_word s ≡ f) × ((f ≤ last_word s) × ((parity_word s ≡ last_word s + 1) × Row (parity_word s + 1) ss t))

below_row : (f : ℕ) (ss : List Section) (t : ℕ) → Row f ss t → (k : ℕ) → k < f → times_in ss k ≡ 0
unfolding times_in
below_row f [] t r k h = refl
below_row f (s ∷ ss) t r k h =
    omega (arith, before s k (omega arith), no_parity s k (λ e. omega arith), below_row (parity_word s + 1) ss t r.1.1.1 k (omega arith))

to_end : (f : ℕ) (ss : List Section) (t : ℕ) → Row f ss t → f ≤ t
to_end f [] t r = omega arith
to_end f (s ∷ ss) t r = omega (arith, to_end (parity_word s + 1) ss t r.1.1.1)

behind_row : (f : ℕ) (ss : List Section) (t : ℕ) → Row f ss t → (k : ℕ) → t ≤ k → times_in ss k ≡ 0
unfolding times_in
behind_row f [] t r k h = refl
behind_row f (s ∷ ss) t r k h =
    let e : parity_word s + 1 ≤ t = to_end (parity_word s + 1) ss t r.1.1.1 in
    omega (arith, behind s k (omega arith) (omega arith), no_parity s k (λ q. omega arith), behind_row (parity_word s + 1) ss t r.1.1.1 k h)

once_row : (f : ℕ) (ss : List Section) (t : ℕ) → Row f ss t → (k : ℕ) → f ≤ k → k < t → times_in ss k ≡ 1
unfolding times_in
once_row f [] t r k lo hi = absurd (omega arith)
once_row f (s ∷ ss) t r k lo hi = by (leb k (last_word s)) refl (eqb k (parity_word s)) refl (once_row (parity_word s + 1) ss t r.1.1.1 k)
  where
    by : (x : Bool) → leb k (last_word s) ≡ x → (y : Bool) → eqb k (parity_word s) ≡ y → (parity_word s + 1 ≤ k → k < t → times_in ss k ≡ 1)
        → among s k + parity_of s k + times_in ss k ≡ 1
    by true p y q f =
        let h : k ≤ last_word s = leb-true k (last_word s) p in
        omega (arith, inside s k (omega arith) h, no_parity s k (λ e. omega arith), below_row (parity_word s + 1) ss t r.1.1.1 k (omega arith))
    by false p true q f =
        let h : k ≡ parity_word s = eqb-true k (parity_word s) q in
        omega (arith, behind s k (omega arith) (omega arith), is_parity s k h, below_row (parity_word s + 1) ss t r.1.1.1 k (omega arith))
    by false p false q f =
        let h : last_word s < k = leb-false k (last_word s) p in
        let n : k ≡ parity_word s → ⊥ = eqb-false k (parity_word s) q in
        let m : parity_word s < k = lt_of_le-ne (omega arith) (λ e. n (sym e)) in
        omega (arith, behind s k (omega arith) h, no_parity s k n, f (omega arith) hi)

times_append : (ss us : List Section) (k : ℕ) → times_in (ss ++ us) k ≡ times_in ss k + times_in us k
unfolding times_in
times_append [] us k = omega arith
times_append (s ∷ ss) us k = omega (arith, times_append ss us k)

-- ---- the layouts

-- the Imager's first three sections are such a row, and the fourth has its parity word further on
abbrev three : List Section
three = 1 to 221 kept_in 222 ∷ 223 to 701 kept_in 702 ∷ 703 to 1181 kept_in 1182 ∷ []

abbrev fourth : Section
fourth = 1183 to 7902 kept_in 7906

three_row : Row 1 three 1183
three_row = (refl, (lit≤ tt, (refl, (refl, (lit≤ tt, (refl, (refl, (lit≤ tt, (refl, refl)))))))))

sounder_row : Row 1 (sections_in SounderSpacelook) 2928
sounder_row = (refl, (lit≤ tt, (refl, (refl, (lit≤ tt, (refl, refl))))))

module _ (k : ℕ) where
  by_parts : times_in (sections_in ImagerSpacelook) k ≡ times_in three k + times_in (fourth ∷ []) k
  by_parts = times_append three (fourth ∷ []) k

  in_fourth : times_in (fourth ∷ []) k ≡ among fourth k + parity_of fourth k + 0
  unfolding times_in
  in_fourth = refl

  imager : 1 ≤ k → k ≤ 7902 → times_in (sections_in ImagerSpacelook) k ≡ 1
  imager lo hi = by (leb 1183 k) refl
    where
      by : (x : Bool) → leb 1183 k ≡ x → times_in (sections_in ImagerSpacelook) k ≡ 1
      by true p =
          let h : 1183 ≤ k = leb-true 1183 k p in
          omega (arith, by_parts, in_fourth, behind_row 1 three 1183 three_row k h, inside fourth k h hi, no_parity fourth k (λ e. omega arith))
      by false p =
          let h : k < 1183 = leb-false 1183 k p in
          omega (arith, by_parts, in_fourth, once_row 1 three 1183 three_row k lo h, before fourth k h, no_parity fourth k (λ e. omega arith))

  imager_none : 7903 ≤ k → (k ≡ 7906 → ⊥) → times_in (sections_in ImagerSpacelook) k ≡ 0
  imager_none lo n = omega (arith, by_parts, in_fourth, behind_row 1 three 1183 three_row k (omega arith), behind fourth k (omega arith) (omega arith), no_parity fourth k n)

pub covered : Covered
unfolding times_in
covered = record {
  imager = imager;
  spares = λ k lo hi. imager_none k lo (λ e. omega arith);
  imager_end = refl;
  imager_behind = λ k lo. imager_none k (omega arith) (λ e. omega arith);
  sounder = λ k lo hi. once_row 1 (sections_in SounderSpacelook) 2928 sounder_row k lo (omega arith);
  sounder_behind = λ k lo. behind_row 1 (sections_in SounderSpacelook) 2928 sounder_row k lo;
}

-- ---- the verdicts

module _ (words : List ℕ) (h : ground_of words ≡ 0) where
  judged_as : (layout : Layout) (i : ℕ) → verdict layout words i ≡ get_or (verdicts_on layout words) i false
  judged_as layout i = ap (λ (r : SectionsAnswer). get_or r.holds i false) (sym (accepts layout words h))

  says : (s : Section) {v : Bool} → v ≡ holds_in s words → (v ≡ true) ↔ (xor_of (words_from (first_word s) (last_word s) words) ≡ word words (parity_word s))
  unfolding holds_in
  says s e = (
    λ t. eqb-true (xor_of (words_from (first_word s) (last_word s) words)) (word words (parity_word s)) (sym e ∙ t),
    λ q. e ∙ eq-eqb (xor_of (words_from (first_word s) (last_word s) words)) (word words (parity_word s)) q,
  )

pub judged : Judged
judged = record {
  imager = λ words h. (
    says words h (1 to 221 kept_in 222) (judged_as words h ImagerSpacelook 0),
    says words h (223 to 701 kept_in 702) (judged_as words h ImagerSpacelook 1),
    says words h (703 to 1181 kept_in 1182) (judged_as words h ImagerSpacelook 2),
    says words h (1183 to 7902 kept_in 7906) (judged_as words h ImagerSpacelook 3),
  );
  sounder = λ words h. (
    says words h (1 to 221 kept_in 222) (judged_as words h SounderSpacelook 0),
    says words h (223 to 2926 kept_in 2927) (judged_as words h SounderSpacelook 1),
    judged_as words h SounderSpacelook 2,
    judged_as words h SounderSpacelook 3,
  );
}
