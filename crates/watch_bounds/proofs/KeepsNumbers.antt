-- The promises on the numbers are kept, by the list of grounds: each test says what its bound does.
-- Assumes nothing.
use mathlib.Core.Path.{◌≡◌, refl, sym, ap, ◌∙◌, subst}
use Prim.Native.Nat.{ℕ, ◌^◌, ◌≤◌, ◌<◌}
use native.Mathlib.Omega.{arith}
use mathlib.Core.Bool.{Bool, true, false, not, ◌&&◌, ◌||◌}
use mathlib.Core.List.{List, [], ◌∷◌, ◌++◌}
use lib.Dec.{ltb}
use borrow.Author.Tests.{le-ltb, lt-ltb, ltb-true, ltb-false, not-false}
use Rattle.ground.specs.Choice.{pick}
use Rattle.ground.specs.Grounds.{Ground, ◌when◌, NoneHolds}
use Rattle.ground.proofs.LawsGrounds.{none_first, none_append, first_is}
use Rattle.row.specs.Rows.{last_block}
use Rattle.calendar.specs.Leaps.{good_list}
use Rattle.calendar.specs.Promises.{IsList}
use Rattle.calendar.proofs.KeepsLists.{list_is, is_list}
use Rattle.tag.specs.Tags.{in_bounds, good_tag}
use Rattle.tag.specs.Promises.{IsTag, Bounded}
use Rattle.tag.specs.declared.Tag.{Tag}
use Rattle.tag.proofs.LawsBounds.{facts, tests}
use Rattle.tag.proofs.KeepsTags.{good, bad, fails, not_list, is_tag}
use Rattle.watch_bounds.specs.Bounds.{longest_wait, bounding, bad_limit, bad_expected, bad_fill, bad_last, lent, offered, grounds, refusal_of}
use Rattle.watch_bounds.specs.Promises.{Expects, Earlier, Within, Sound, Numbers}
use Rattle.watch_bounds.specs.declared.Watch.{Watch}
use Rattle.watch_bounds.proofs.LawsBounds.{from_one, to_ten, accepted_for}
use Rattle.watch_bounds.proofs.LawsSets.{below_all, all_below}

-- ---- what each test says

-- a test that fails where something holds, holds where it does not
holds : (t : Bool) {P : Type 0} → (t ≡ false → P) → (P → ⊥) → t ≡ true
holds true f n = refl
holds false f n = absurd (n (f refl))

expects : (w : Watch) → bad_expected w ≡ false → Expects w
expects w h o = (from_one w h o, to_ten w h o)

expecting : (w : Watch) → Expects w → bad_expected w ≡ false
expecting w h = by w.opened h
  where
    by : (o : Bool) → (o ≡ true → (1 ≤ w.expected) × (w.expected ≤ 10)) → o && (ltb w.expected 1 || ltb 10 w.expected) ≡ false
    by true f = λ i. le-ltb w.expected 1 (f refl).0 i || le-ltb 10 w.expected (f refl).1 i
    by false f = refl

earlier : (w : Watch) → bad_fill w ≡ false → Earlier w
earlier w h b i = by w.opened (below_all w.fill (bounding w) b (ltb-true w.fill (2 ^ bounding w) (not-false (ltb w.fill (2 ^ bounding w)) h)) i)
  where
    by : (o : Bool) → b < pick o w.expected 0 → (o ≡ true) × (b < w.expected)
    by true l = (refl, l)
    by false l = absurd (omega arith)

-- an open watch's set, as a number
pub under : (w : Watch) → bad_fill w ≡ false → w.opened ≡ true → w.fill < 2 ^ w.expected
under w h o = all_below w.fill w.expected (λ b i. (earlier w h b i).1)

bounded : (w : Watch) → Earlier w → bad_fill w ≡ false
bounded w f = ap not (lt-ltb w.fill (2 ^ bounding w) (all_below w.fill (bounding w) (λ b h. by b (f b h))))
  where
    by : (b : ℕ) → (w.opened ≡ true) × (b < w.expected) → b < bounding w
    by b p = subst (λ (o : Bool). b < pick o w.expected 0) (sym p.0) p.1

when_open : (o x : Bool) → (o ≡ true → x ≡ false) → o && x ≡ false
when_open true x h = h refl
when_open false x h = refl

no_tag : (leaps : List ℕ) (t : Tag) → (Bounded leaps t → ⊥) → in_bounds leaps t ≡ false
no_tag leaps t h = fails (in_bounds leaps t) (facts leaps t) h

within : (leaps : List ℕ) (w : Watch) → Within leaps w → NoneHolds (lent leaps w)
within leaps w h = (
  le-ltb longest_wait w.limit h.limit,
  (
    expecting w h.expected,
    (
      bounded w h.fill,
      (ap not (list_is leaps h.list), (when_open w.opened _ (λ o. ap not (tests leaps w.last (h.last o))), tt)),
    ),
  ),
)

-- ---- the numbers

module _ (leaps : List ℕ) (w : Watch) (b : ℕ) (s : List ℕ) where
  abbrev given : ℕ
  given = refusal_of leaps w b s

  -- the grounds behind the set, and behind the list
  abbrev listed : List Ground
  listed = (12 when bad_last leaps w) ∷ offered b (good_tag leaps s)

  abbrev filled : List Ground
  filled = (19 when not (good_list leaps)) ∷ listed

  long : 3600000 < w.limit → given ≡ 16
  unfolding refusal_of
  long h = first_is [] (16 when bad_limit w) ((13 when bad_expected w) ∷ (20 when bad_fill w) ∷ filled) tt (lt-ltb longest_wait w.limit h)

  module _ (l : w.limit ≤ 3600000) where
    short : bad_limit w ≡ false
    short = le-ltb longest_wait w.limit l

    unexpected : (Expects w → ⊥) → given ≡ 13
    unfolding refusal_of
    unexpected n = first_is ((16 when bad_limit w) ∷ []) (13 when bad_expected w) ((20 when bad_fill w) ∷ filled) (short, tt) (holds (bad_expected w) (expects w) n)

    module _ (e : Expects w) where
      unbounded : (Earlier w → ⊥) → given ≡ 20
      unfolding refusal_of
      unbounded n =
          first_is ((16 when bad_limit w) ∷ (13 when bad_expected w) ∷ []) (20 when bad_fill w) filled (short, (expecting w e, tt)) (holds (bad_fill w) (earlier w) n)

      module _ (f : Earlier w) where
        unlisted : (IsList leaps → ⊥) → given ≡ 19
        unfolding refusal_of
        unlisted n =
            first_is ((16 when bad_limit w) ∷ (13 when bad_expected w) ∷ (20 when bad_fill w) ∷ []) (19 when not (good_list leaps)) listed
            (short, (expecting w e, (bounded w f, tt))) (ap not (not_list leaps n))

        untagged : IsList leaps → w.opened ≡ true → (Bounded leaps w.last → ⊥) → given ≡ 12
        unfolding refusal_of
        untagged k o n =
            first_is ((16 when bad_limit w) ∷ (13 when bad_expected w) ∷ (20 when bad_fill w) ∷ (19 when not (good_list leaps)) ∷ []) (12 when bad_last leaps w) (offered b (good_tag leaps s))
            (short, (expecting w e, (bounded w f, (ap not (list_is leaps k), tt)))) (λ i. o i && not (no_tag leaps w.last n i))

  module _ (h : Within leaps w) where
    unknown : 11 < b → given ≡ 4
    unfolding refusal_of
    unknown k = first_is (lent leaps w) (4 when ltb last_block b) ((12 when not (good_tag leaps s)) ∷ []) (within leaps w h) (lt-ltb last_block b k)

    bad_tag : b ≤ 11 → (IsTag leaps s → ⊥) → given ≡ 12
    unfolding refusal_of
    bad_tag k n =
        first_is (lent leaps w ++ ((4 when ltb last_block b) ∷ [])) (12 when not (good_tag leaps s)) []
        (none_append (lent leaps w) ((4 when ltb last_block b) ∷ []) (within leaps w h) (le-ltb last_block b k, tt)) (ap not (bad leaps s n))

  pub no_refusal : Sound leaps w b s → given ≡ 0
  unfolding refusal_of
  no_refusal h =
      none_first (grounds leaps w b (good_tag leaps s)) (none_append (lent leaps w) (offered b (good_tag leaps s)) (within leaps w h.watch) (le-ltb last_block b h.block, (ap not (good leaps s h.tag), tt)))

pub numbers : (leaps : List ℕ) → Numbers leaps (refusal_of leaps)
numbers leaps = record {
  limit = long leaps;
  expected = unexpected leaps;
  fill = unbounded leaps;
  list = unlisted leaps;
  last = untagged leaps;
  block = unknown leaps;
  tag = bad_tag leaps;
  accepted = no_refusal leaps;
}

-- An accepted offer is sound.
pub sound_for : (leaps : List ℕ) (w : Watch) (b : ℕ) (s : List ℕ) → refusal_of leaps w b s ≡ 0 → Sound leaps w b s
sound_for leaps w b s z =
    let p = accepted_for leaps w b s z in
    record {
      watch =
          record {
            limit = ltb-false longest_wait w.limit p.limit;
            expected = expects w p.expected;
            fill = earlier w p.fill;
            list = is_list leaps p.list;
            last = λ o. facts leaps w.last (not-false (in_bounds leaps w.last) (sym (ap (λ (t : Bool). t && not (in_bounds leaps w.last)) o) ∙ p.last));
          };
      block = ltb-false last_block b p.block;
      tag = is_tag leaps s p.tag;
    }
