-- The promises on the frame fields are kept: each test of the table tells whether its field is out of range, and the first words rise, so that
-- the first field found is the lowest.
-- Assumes nothing.
use Prim.Native.Nat.{ℕ, ◌<◌}
use mathlib.Core.Path.{◌≡◌, refl, sym, ap, ◌∙◌, subst}
use mathlib.Core.Logic.{◌⊎◌, inl, inr}
use mathlib.Core.Bool.{Bool, true, false, ◌||◌}
use mathlib.Core.List.{List, [], ◌∷◌}
use native.Mathlib.Omega.{arith}
use lib.Dec.{eqb, ltb}
use borrow.Author.Tests.{eqb-true, eqb-false, ltb-true, ltb-false, lt-ltb}
use Rattle.ground.specs.Grounds.{Ground, ◌when◌, first_of}
use Rattle.ground.proofs.LawsTests.{never, or_false, or_second}
use Rattle.ground.proofs.LawsLowest.{Has, TellsAll, IsLowest, has_above, lowest_first, first_lowest, none_lowest}
use Rattle.sounder.specs.Frame.{◌from◌to◌, frame_of, is_out, first_from, first_out}
use Rattle.sounder.specs.Promises.{two, OutOf, Out, RSSCT, ASSCT, SNSLN, SWFPX, SEFPX, crossed, SNFLN, SSFLN, NoneOut, Lowest, Framing}

-- ---- one test

module _ (least most n : ℕ) where
  is_out_is : OutOf least most n → ltb n least || ltb most n ≡ true
  is_out_is o = by (ltb n least) (ltb most n) refl refl o
    where
      by : (t u : Bool) → ltb n least ≡ t → ltb most n ≡ u → OutOf least most n → t || u ≡ true
      by true u e f o = refl
      by false true e f o = refl
      by false false e f (inl l) = absurd (omega (arith, ltb-false n least e))
      by false false e f (inr l) = absurd (omega (arith, ltb-false most n f))

  out_is : ltb n least || ltb most n ≡ true → OutOf least most n
  out_is h = by (ltb n least) refl h
    where
      by : (t : Bool) → ltb n least ≡ t → t || ltb most n ≡ true → OutOf least most n
      by true e h = inl (ltb-true n least e)
      by false e h = inr (ltb-true most n h)

-- a test that is true of what holds tells it
tells : {P : Type 0} (t : Bool) → (t ≡ true → P) → (P → t ≡ true) → (t ≡ true → P) × (t ≡ false → P → ⊥)
tells t f g = (f, λ e p. never (sym e ∙ g p))

module _ (words : List ℕ) where
  abbrev test : ℕ → ℕ → ℕ → ℕ → Bool
  test k least most i = is_out (k from least to most) (frame_of words) i

  abbrev grounds : List Ground
  grounds =
      (181 when test 181 1 396 0)
      ∷ (183 when test 183 1 396 1)
      ∷ (185 when test 185 1 1579 2)
      ∷ (187 when test 187 1 1754 3)
      ∷ (189 when test 189 5 1758 4)
      ∷ (191 when test 191 1 1579 5)
      ∷ (193 when test 193 4 1582 6)
      ∷ []

  by_grounds : first_out (frame_of words) ≡ first_of grounds
  unfolding first_out first_from
  by_grounds = refl

  -- a field that is out by its range alone
  plain : (least most n : ℕ) {k : ℕ} → (OutOf least most n → Out words k) → (Out words k → OutOf least most n)
      → (((ltb n least || ltb most n) || false ≡ true) → Out words k) × (((ltb n least || ltb most n) || false ≡ false) → Out words k → ⊥)
  plain least most n f g =
      tells _ (λ h. f (out_is least most n (or_false (ltb n least || ltb most n) ∙ h))) (λ o. sym (or_false (ltb n least || ltb most n)) ∙ is_out_is least most n (g o))

  -- what is out at a first word
  at_181 : Out words 181 → OutOf 1 396 (two 181 words)
  at_181 (RSSCT o) = o

  at_183 : Out words 183 → OutOf 1 396 (two 183 words)
  at_183 (ASSCT o) = o

  at_185 : Out words 185 → OutOf 1 1579 (two 185 words)
  at_185 (SNSLN o) = o

  at_187 : Out words 187 → OutOf 1 1754 (two 187 words)
  at_187 (SWFPX o) = o

  at_189 : Out words 189 → (OutOf 5 1758 (two 189 words)) ⊎ (two 189 words < two 187 words)
  at_189 (SEFPX o) = inl o
  at_189 (crossed l) = inr l

  at_191 : Out words 191 → OutOf 1 1579 (two 191 words)
  at_191 (SNFLN o) = o

  at_193 : Out words 193 → OutOf 4 1582 (two 193 words)
  at_193 (SSFLN o) = o

  -- the eastern field is out by its range, or where the west is above it
  eastern : (test 189 5 1758 4 ≡ true → Out words 189) × (test 189 5 1758 4 ≡ false → Out words 189 → ⊥)
  eastern = tells _ (λ h. yes (ltb (two 189 words) 5 || ltb 1758 (two 189 words)) refl h) (λ o. no (at_189 o))
    where
      yes : (t : Bool) → ltb (two 189 words) 5 || ltb 1758 (two 189 words) ≡ t → t || ltb (two 189 words) (two 187 words) ≡ true → Out words 189
      yes true e h = SEFPX (out_is 5 1758 (two 189 words) e)
      yes false e h = crossed (ltb-true (two 189 words) (two 187 words) h)

      no : (OutOf 5 1758 (two 189 words)) ⊎ (two 189 words < two 187 words) → test 189 5 1758 4 ≡ true
      no (inl o) = ap (λ (t : Bool). t || ltb (two 189 words) (two 187 words)) (is_out_is 5 1758 (two 189 words) o)
      no (inr l) = or_second (ltb (two 189 words) 5 || ltb 1758 (two 189 words)) (lt-ltb (two 189 words) (two 187 words) l)

  told : TellsAll (Out words) grounds
  told =
      let a = plain 1 396 (two 181 words) RSSCT at_181 in
      let b = plain 1 396 (two 183 words) ASSCT at_183 in
      let c = plain 1 1579 (two 185 words) SNSLN at_185 in
      let d = plain 1 1754 (two 187 words) SWFPX at_187 in
      let f = plain 1 1579 (two 191 words) SNFLN at_191 in
      let g = plain 4 1582 (two 193 words) SSFLN at_193 in
      (a.0, a.1, (b.0, b.1, (c.0, c.1, (d.0, d.1, (eastern.0, eastern.1, (f.0, f.1, (g.0, g.1, tt)))))))

  listed : {k : ℕ} → Out words k → Has grounds k
  listed (RSSCT o) = inl refl
  listed (ASSCT o) = inr (inl refl)
  listed (SNSLN o) = inr (inr (inl refl))
  listed (SWFPX o) = inr (inr (inr (inl refl)))
  listed (SEFPX o) = inr (inr (inr (inr (inl refl))))
  listed (crossed l) = inr (inr (inr (inr (inl refl))))
  listed (SNFLN o) = inr (inr (inr (inr (inr (inl refl)))))
  listed (SSFLN o) = inr (inr (inr (inr (inr (inr (inl refl))))))

  found : (k : ℕ) → Lowest words k → (first_out (frame_of words) ≡ k) × (k ≡ 0 → ⊥)
  found k l = (
    by_grounds ∙ lowest_first (Out words) grounds told refl k (listed l.out) l.out l.none_lower,
    λ z. let above = has_above 0 grounds refl (listed l.out) in omega arith,
  )

  lowest : (k : ℕ) → (first_out (frame_of words) ≡ k) × (k ≡ 0 → ⊥) → Lowest words k
  lowest k h =
      let first = sym by_grounds ∙ h.0 in
      let l = subst (IsLowest (Out words) grounds) first (first_lowest (Out words) grounds told refl (λ z. h.1 (sym first ∙ z))) in
      record { out = l.0; none_lower = λ j m o. l.1 j (listed o) m o }

  none_out : NoneOut words → first_out (frame_of words) ≡ 0
  none_out n = by (eqb (first_out (frame_of words)) 0) refl
    where
      by : (t : Bool) → eqb (first_out (frame_of words)) 0 ≡ t → first_out (frame_of words) ≡ 0
      by true e = eqb-true (first_out (frame_of words)) 0 e
      by false e = absurd (n _ (lowest _ (refl, eqb-false (first_out (frame_of words)) 0 e)).out)

pub framing : Framing
unfolding first_out first_from
framing = record {
  lowest = λ words k. (found words k, lowest words k);
  none = λ words. (none_out words, λ z k o. none_lowest (Out words) (grounds words) (told words) (sym (by_grounds words) ∙ z) refl k (listed words o) o);
  equal = refl;
  above = refl;
}
