-- The promises on a Sounder documentation block are kept: what it is refused for follows test by test from the words, and what is given where it is
-- not refused is read off the definition.
-- Assumes nothing.
use Prim.Native.Nat.{ℕ, ◌+◌, ◌*◌}
use mathlib.Core.Path.{◌≡◌, refl, sym, ap, ◌∙◌}
use mathlib.Core.Logic.{◌↔◌}
use mathlib.Core.Bool.{Bool, true, false, not}
use mathlib.Core.List.{List, [], ◌∷◌, map}
use native.Mathlib.Omega.{arith}
use lib.Dec.{eqb}
use lib.ListN.{length, get_or}
use borrow.Author.Tests.{eqb-true, eqb-false, eq-eqb, ne_eqb}
use Rattle.ground.specs.Choice.{pick}
use Rattle.bits.specs.Bits.{sent}
use Rattle.parity.specs.Words.{any_large, ground_of}
use Rattle.parity.proofs.LawsWords.{wrong_length, large_word, plain_words, right_length}
use Rattle.calendar.specs.Leaps.{good_list}
use Rattle.calendar.specs.Promises.{IsList}
use Rattle.calendar.proofs.KeepsLists.{is_list, list_is}
use Rattle.tag.specs.Tags.{read_by, read_tag, zero_tag}
use Rattle.detectors.specs.Status as Detectors
use Rattle.detectors.specs.Promises.{Inside}
use Rattle.detectors.proofs.KeepsDetectors as Kept
use Rattle.sounder.specs.Words.{status_in, tag_words}
use Rattle.sounder.specs.Judging.{Refusal, StatusAnswer, Asked, bare, refusal_of, accepted_as, refused_as, status_of, asked_of}
use Rattle.sounder.specs.Promises.{status, Lowest, Plain, SpareZero, Numbers, Says, Judging, Asking}
use Rattle.sounder.proofs.LawsWords.{part_long}
use Rattle.sounder.proofs.LawsJudging.{bad_words, spare_set, field_out, bad_list, none, by_tests, words_taken, list_taken}
use Rattle.sounder.proofs.KeepsFrame.{framing}

-- an answer of the detectors, as one of the block
abbrev as_asked : Detectors.Asked → Asked
as_asked a = record { number = a.number; word = 0; suspect = a.suspect }

module _ (leaps words : List ℕ) where
  abbrev why : Refusal
  why = refusal_of leaps words

  -- ---- by the refusal's number

  refused_status : (why.number ≡ 0 → ⊥) → status_of leaps words ≡ refused_as why
  unfolding status_of
  refused_status h = rw (ne_eqb why.number 0 h)

  accepted_status : why.number ≡ 0 → status_of leaps words ≡ accepted_as leaps words
  unfolding status_of
  accepted_status h = rw (eq-eqb why.number 0 h)

  number_is : (status_of leaps words).number ≡ why.number
  number_is = by (eqb why.number 0) refl
    where
      by : (t : Bool) → eqb why.number 0 ≡ t → (status_of leaps words).number ≡ why.number
      by true e = let z = eqb-true why.number 0 e in ap (λ (s : StatusAnswer). s.number) (accepted_status z) ∙ sym z
      by false e = ap (λ (s : StatusAnswer). s.number) (refused_status (eqb-false why.number 0 e))

  refused_for : (r : Refusal) → r ≡ why → (r.number ≡ 0 → ⊥) → ((status_of leaps words).number ≡ r.number) × ((status_of leaps words).word ≡ r.word)
  refused_for r e n =
      let s = refused_status (λ z. n (ap (λ (x : Refusal). x.number) e ∙ z)) ∙ ap refused_as (sym e) in
      (ap (λ (x : StatusAnswer). x.number) s, ap (λ (x : StatusAnswer). x.word) s)

  -- ---- the numbers

  module _ (p : Plain words) where
    plain : ground_of words ≡ 0
    plain = plain_words words p.long p.small

    ten : length (status words) ≡ 10
    ten = part_long words 32 10 (omega (arith, p.long))

    spare : SpareZero words → Detectors.spare_zero (status_in words) ≡ true
    spare = (Kept.sparing (status words) ten).1

    no_spare : (SpareZero words → ⊥) → Detectors.spare_zero (status_in words) ≡ false
    no_spare n = by (Detectors.spare_zero (status_in words)) refl
      where
        by : (t : Bool) → Detectors.spare_zero (status_in words) ≡ t → t ≡ false
        by true e = absurd (n ((Kept.sparing (status words) ten).0 e))
        by false e = refl

  no_list : (IsList leaps → ⊥) → good_list leaps ≡ false
  no_list n = by (good_list leaps) refl
    where
      by : (t : Bool) → good_list leaps ≡ t → t ≡ false
      by true e = absurd (n (is_list leaps e))
      by false e = refl

  numbers : Numbers leaps words (status_of leaps words).number (status_of leaps words).word
  numbers = record {
    wrong_length = λ h. refused_for (bare 8) (bad_words leaps words (sym (wrong_length words h)) (λ z. omega arith)) (λ z. omega arith);
    large_word = λ h i l. refused_for (bare 14) (bad_words leaps words (sym (large_word words h i l)) (λ z. omega arith)) (λ z. omega arith);
    spare_bit = λ p n. refused_for (bare 21) (spare_set leaps words (plain p) (no_spare p n)) (λ z. omega arith);
    out_of_range = λ p s k l.
        let f = (framing.lowest words k).0 l in
        refused_for (record { number = 22; word = k }) (field_out leaps words (plain p) (spare p s) (sym f.0) f.1) (λ z. omega arith);
    bad_list = λ p s n b.
        refused_for (bare 19) (bad_list leaps words (plain p) (spare p s) ((framing.none words).0 n) (no_list b)) (λ z. omega arith);
    accepted = λ p s n l.
        let e = accepted_status (ap (λ (r : Refusal). r.number) (sym (none leaps words (plain p) (spare p s) ((framing.none words).0 n) (list_is leaps l)))) in
        (ap (λ (x : StatusAnswer). x.number) e, ap (λ (x : StatusAnswer). x.word) e);
  }

  -- ---- the word

  not_22 : ground_of words ≡ 22 → ⊥
  unfolding ground_of
  not_22 h = by (eqb (length words) 8040) (any_large words) h
    where
      by : (t u : Bool) → ◌≡◌ {A = ℕ} (pick (not t) 8 (pick u 14 0)) 22 → ⊥
      by true true e = omega arith
      by true false e = omega arith
      by false u e = omega arith

  word_is : (status_of leaps words).word ≡ why.word
  word_is = by (eqb why.number 0) refl
    where
      by : (t : Bool) → eqb why.number 0 ≡ t → (status_of leaps words).word ≡ why.word
      by true e =
          ap (λ (s : StatusAnswer). s.word) (accepted_status (eqb-true why.number 0 e))
          ∙ by_tests leaps words (λ r. r.number ≡ 0 → 0 ≡ r.word) (λ _ _. refl) (λ _ _. refl) (λ _ _ z. absurd (omega arith)) (λ _ _. refl) (λ _ _ _. refl)
          (eqb-true why.number 0 e)
      by false e = ap (λ (s : StatusAnswer). s.word) (refused_status (eqb-false why.number 0 e))

  word : (status_of leaps words).number ≡ 22 → Lowest words (status_of leaps words).word
  word h =
      by_tests leaps words (λ r. r.number ≡ 22 → (status_of leaps words).word ≡ r.word → Lowest words (status_of leaps words).word) (λ _ e _. absurd (not_22 e))
      (λ _ e _. absurd (omega arith)) (λ _ n _ e. (framing.lowest words _).1 (sym e, λ z. n (sym e ∙ z))) (λ _ e _. absurd (omega arith)) (λ _ _ e _. absurd (omega arith))
      (sym number_is ∙ h) word_is

  no_word : ((status_of leaps words).number ≡ 22 → ⊥) → (status_of leaps words).word ≡ 0
  no_word n =
      word_is
      ∙ by_tests leaps words (λ r. (r.number ≡ 22 → ⊥) → r.word ≡ 0) (λ _ _. refl) (λ _ _. refl) (λ _ _ k. absurd (k refl)) (λ _ _. refl) (λ _ _ _. refl)
      (λ e. n (number_is ∙ e))

  -- ---- what is given

  module _ (h : (status_of leaps words).number ≡ 0) where
    taken : why.number ≡ 0
    taken = sym number_is ∙ h

    -- a list that is tested good reads a tag as the tag reader does
    read_so : (s : List ℕ) → read_by leaps s ≡ read_tag leaps s
    unfolding read_tag
    read_so s = sym (ap (λ (t : Bool). pick t (read_by leaps s) (record { number = 19; tag = zero_tag })) (list_taken leaps words taken))

    says : Says leaps words (status_of leaps words)
    says =
        let e = accepted_status taken in
        record {
          suspects = ap (λ (s : StatusAnswer). s.suspects) e;
          first = ap (λ (s : StatusAnswer). s.first) e;
          raw = ap (λ (s : StatusAnswer). s.raw) e;
          blocks = ap (λ (s : StatusAnswer). s.blocks) e;
          frame = ap (λ (s : StatusAnswer). s.frame) e;
          tags =
              ap (λ (s : StatusAnswer). s.tags) e
              ∙ (λ i. map (λ k. read_so (tag_words k words) i) (0 ∷ 1 ∷ 2 ∷ 3 ∷ 4 ∷ 5 ∷ 6 ∷ 7 ∷ 8 ∷ 9 ∷ 10 ∷ 11 ∷ 12 ∷ 13 ∷ 14 ∷ []));
        }

    asked_so : (c d : ℕ) → asked_of leaps words c d ≡ as_asked (Detectors.asked_of (status words) c d)
    unfolding asked_of
    asked_so c d = rw (eq-eqb why.number 0 taken)

    pub asked_suspect : (c d : ℕ) → (asked_of leaps words c d).suspect ≡ (Detectors.asked_of (status words) c d).suspect
    asked_suspect c d = ap (λ (a : Asked). a.suspect) (asked_so c d)

    pub asked_no_word : (c d : ℕ) → (asked_of leaps words c d).word ≡ 0
    asked_no_word c d = ap (λ (a : Asked). a.word) (asked_so c d)

    pub ten_words : length (status words) ≡ 10
    ten_words = part_long words 32 10 (omega (arith, right_length words (words_taken leaps words taken)))

    suspect : (c d i : ℕ) → Inside c d → i + 5 ≡ c * 4 + d → ((asked_of leaps words c d).suspect ≡ true) ↔ (get_or (sent (status words)) i 0 ≡ 1)
    suspect c d i inside e =
        let same = asked_suspect c d in
        let k = (Kept.asking).suspect (status words) c d i inside e in
        (λ t. k.0 (sym same ∙ t), λ b. same ∙ k.1 b)

  asked_refused : (c d : ℕ) → ((status_of leaps words).number ≡ 0 → ⊥)
      → asked_of leaps words c d ≡ record { number = (status_of leaps words).number; word = (status_of leaps words).word; suspect = false }
  unfolding asked_of
  asked_refused c d n =
      let s = refused_status (λ z. n (number_is ∙ z)) in
      rw (ne_eqb why.number 0 (λ z. n (number_is ∙ z))) (λ i. record { number = (sym s i).number; word = (sym s i).word; suspect = false })

pub judging : Judging
judging = record {
  number = numbers;
  word = word;
  no_word = no_word;
  says = says;
  refused = λ leaps words n.
      let s = refused_status leaps words (λ z. n (number_is leaps words ∙ z)) in
      s ∙ (λ i. refused_as (record { number = (sym s i).number; word = (sym s i).word }));
}

pub asking : Asking
asking = record {
  refused = asked_refused;
  outside = λ leaps words c d h n. asked_so leaps words h c d ∙ ap as_asked ((Kept.asking).outside (status words) c d n);
  taken = λ leaps words c d h i.
      (ap (λ (a : Asked). a.number) (asked_so leaps words h c d) ∙ (Kept.asking).taken (status words) c d i, ap (λ (a : Asked). a.word) (asked_so leaps words h c d));
  suspect = λ leaps words c d i h. suspect leaps words h c d i;
}
