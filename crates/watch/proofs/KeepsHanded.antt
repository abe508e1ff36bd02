-- The promises on the fill blocks of any offers are kept. The invariant: of an open watch, the offers accepted since its block 0 had the
-- blocks below the expected one in order, and those of them that were fill are its set.
-- Assumes nothing.
use mathlib.Core.Path.{◌≡◌, refl, sym, ap, ◌∙◌, subst}
use mathlib.Core.Logic.{◌⊎◌, ◌↔◌, inl, inr}
use Prim.Native.Nat.{ℕ, suc, ◌+◌, ◌^◌, ◌≤◌, ◌<◌}
use native.Mathlib.Nat.{not-suc-le-zero}
use native.Mathlib.Numerals.{add-one}
use native.Mathlib.Omega.{arith}
use mathlib.Core.Bool.{Bool, true, false}
use mathlib.Core.List.{List, [], ◌∷◌, ◌++◌, append-nil}
use lib.Dec.{eqb}
use lib.ListN.{length, length-append}
use lib.Count.{ones}
use borrow.Author.Tests.{eqb-true}
use Rattle.ground.specs.Choice.{pick}
use Rattle.ground.proofs.LawsChoice.{either}
use Rattle.ground.proofs.LawsTests.{never}
use Rattle.tag.specs.Tags.{tag_of}
use Rattle.watch_bounds.specs.Sets.{Has}
use Rattle.watch_bounds.specs.Bounds.{refusal_of}
use Rattle.watch_bounds.specs.declared.Watch.{Watch}
use Rattle.watch_bounds.proofs.LawsBounds.{accepted_for, from_one}
use Rattle.watch_bounds.proofs.KeepsNumbers.{under}
use Rattle.watch_bounds.proofs.LawsSets.{none_in_empty}
use Rattle.watch.specs.Verdicts.{kind_of, fill_of, count_of}
use Rattle.watch.specs.Fills.{is_fill, filled}
use Rattle.watch.specs.Rules.{Stepped, idle, opening}
use Rattle.watch.specs.Offers.{Offer, next_of, after, is_accepted, accepted, begins}
use Rattle.watch.specs.Promises.{BegunBy}
use Rattle.watch.specs.Filled.{Among, fills_of, blocks_of, taken_by, first_blocks, Handed, AnyFills}
use Rattle.watch.proofs.LawsTurn.{Turn, refuses, strays, opens, closes, keeps, back, late, broken, complete}
use Rattle.watch.proofs.LawsOffers.{stands_at, goes_on, starts, is_taken, is_refused, is_first, not_first, not_taken, every, turn_of}
use Rattle.watch.proofs.LawsFills.{fill_not_one, filled_gains, one_fill_more, as_it_was}
use Rattle.watch.proofs.LawsLists.{among_more}

-- ---- lists of offers and one more

blocks_append : (xs ys : List Offer) → blocks_of (xs ++ ys) ≡ blocks_of xs ++ blocks_of ys
unfolding blocks_of
blocks_append [] ys = refl
blocks_append (x ∷ xs) ys = ap (λ (l : List ℕ). x.block ∷ l) (blocks_append xs ys)

-- one that is chosen in front or not, before more
put_first : (x : Offer) (t : Bool) {all : List Offer} (some more : List Offer) → all ≡ some ++ more → pick t (x ∷ all) all ≡ pick t (x ∷ some) some ++ more
put_first x true some more e = ap (λ (l : List Offer). x ∷ l) e
put_first x false some more e = e

fills_append : (xs ys : List Offer) → fills_of (xs ++ ys) ≡ fills_of xs ++ fills_of ys
unfolding fills_of
fills_append [] ys = refl
fills_append (x ∷ xs) ys = put_first x (is_fill x.valid) (fills_of xs) (fills_of ys) (fills_append xs ys)

module _ (xs : List Offer) (o : Offer) where
  one_block : blocks_of (xs ++ (o ∷ [])) ≡ blocks_of xs ++ (o.block ∷ [])
  unfolding blocks_of
  one_block = blocks_append xs (o ∷ [])

  one_fill : is_fill o.valid ≡ true → fills_of (xs ++ (o ∷ [])) ≡ fills_of xs ++ (o ∷ [])
  unfolding fills_of
  one_fill f = fills_append xs (o ∷ []) ∙ ap (λ (t : Bool). fills_of xs ++ pick t (o ∷ []) []) f

  no_fill : is_fill o.valid ≡ false → fills_of (xs ++ (o ∷ [])) ≡ fills_of xs
  unfolding fills_of
  no_fill n = fills_append xs (o ∷ []) ∙ ap (λ (t : Bool). fills_of xs ++ pick t (o ∷ []) []) n ∙ append-nil (fills_of xs)

-- those accepted of a list and one more
accepted_one : (w : Watch) (xs : List Offer) (o : Offer) → accepted w (xs ++ (o ∷ [])) ≡ accepted w xs ++ pick (is_accepted (after w xs) o) (o ∷ []) []
unfolding accepted after
accepted_one w [] o = refl
accepted_one w (x ∷ xs) o =
    put_first x (is_accepted w x) (accepted (next_of w x) xs) (pick (is_accepted (after (next_of w x) xs) o) (o ∷ []) []) (accepted_one (next_of w x) xs o)

module _ (w : Watch) (os : List Offer) (o : Offer) (B : BegunBy w os) (n : begins (after w os) o ≡ false) where
  grows_by : {t : Bool} → is_accepted (after w os) o ≡ t → taken_by w (os ++ (o ∷ [])) (goes_on w os o B n) ≡ taken_by w os B ++ pick t (o ∷ []) []
  unfolding goes_on
  grows_by {t} h =
      accepted_one (after w B.earlier) (B.first ∷ B.since) o
      ∙ ap (λ (x : Bool). taken_by w os B ++ pick x (o ∷ []) []) (ap (λ (v : Watch). is_accepted v o) (sym (stands_at w os B)) ∙ h)

begins_taken : (w : Watch) (os : List Offer) (o : Offer) (h : begins (after w os) o ≡ true) → is_accepted (after w os) o ≡ true → taken_by w (os ++ (o ∷ [])) (starts w os o h) ≡ o ∷ []
unfolding starts accepted
begins_taken w os o h t = ap (λ (x : Bool). pick x (o ∷ []) []) t

-- ---- a scan and one block more

nothing_yet : Handed [] (first_blocks 0) 0 (ones 0)
unfolding blocks_of fills_of first_blocks ones
nothing_yet = record { in_order = refl; fills = λ k. (λ i. absurd (none_in_empty k i), λ a. absurd (not-suc-le-zero a.1)); many = refl }

-- block e, above the set
module _ (taken : List Offer) (o : Offer) (e set : ℕ) (h : set < 2 ^ e) (q : o.block ≡ e) (H : Handed taken (first_blocks e) set (ones set)) where
  abbrev new : ℕ
  new = filled set e o.valid

  abbrev listed : List ℕ
  listed = blocks_of (fills_of taken)

  in_order : blocks_of (taken ++ (o ∷ [])) ≡ first_blocks (suc e)
  unfolding first_blocks
  in_order = one_block taken o ∙ (λ i. H.in_order i ++ (q i ∷ []))

  more_fill : is_fill o.valid ≡ true → Handed (taken ++ (o ∷ [])) (first_blocks (suc e)) new (ones new)
  more_fill f = record {
    in_order = in_order;
    fills = λ k. subst (λ (l : List ℕ). Has new k ↔ Among k l) (sym (ap blocks_of (one_fill taken o f) ∙ one_block (fills_of taken) o)) (
      (λ i. (among_more listed o.block k).1 (was k ((filled_gains set e o.valid h k).0 i))),
      (λ a. (filled_gains set e o.valid h k).1 (now k ((among_more listed o.block k).0 a))),
    );
    many = ap length (one_fill taken o f) ∙ length-append (fills_of taken) (o ∷ []) ∙ ap (λ (n : ℕ). n + 1) H.many ∙ sym (one_fill_more set e o.valid h f);
  }
    where
      was : (k : ℕ) → Has set k ⊎ ((k ≡ e) × (o.valid ≡ 1 → ⊥)) → Among k listed ⊎ (k ≡ o.block)
      was k (inl i) = inl ((H.fills k).0 i)
      was k (inr p) = inr (p.0 ∙ sym q)

      now : (k : ℕ) → Among k listed ⊎ (k ≡ o.block) → Has set k ⊎ ((k ≡ e) × (o.valid ≡ 1 → ⊥))
      now k (inl a) = inl ((H.fills k).1 a)
      now k (inr z) = inr (z ∙ q, fill_not_one o.valid f)

  more_valid : is_fill o.valid ≡ false → Handed (taken ++ (o ∷ [])) (first_blocks (suc e)) new (ones new)
  more_valid n =
      subst (λ (x : ℕ). Handed (taken ++ (o ∷ [])) (first_blocks (suc e)) x (ones x)) (sym (as_it_was set e o.valid n))
      (record {
        in_order = in_order;
        fills = λ k. subst (λ (l : List Offer). Has set k ↔ Among k (blocks_of l)) (sym (no_fill taken o n)) (H.fills k);
        many = ap length (no_fill taken o n) ∙ H.many;
      })

  more : Handed (taken ++ (o ∷ [])) (first_blocks (suc e)) new (ones new)
  more = by (is_fill o.valid) refl
    where
      by : (t : Bool) → is_fill o.valid ≡ t → Handed (taken ++ (o ∷ [])) (first_blocks (suc e)) new (ones new)
      by true f = more_fill f
      by false n = more_valid n

-- ---- the invariant

-- Of an open watch: its block 0, and its blocks so far.
record Filling (l : ℕ) (os : List Offer) (w : Watch) : Type 0 where
  by : BegunBy (idle l) os
  handed : Handed (taken_by (idle l) os by) (first_blocks w.expected) w.fill (ones w.fill)

abbrev Inv : ℕ → List Offer → Watch → Type 0
Inv l os w = w.opened ≡ true → Filling l os w

module _ (l : ℕ) (os : List Offer) (o : Offer) where
  abbrev w : Watch
  w = after (idle l) os

  abbrev number : ℕ
  number = refusal_of o.leaps w o.block o.tag

  abbrev longer : List Offer
  longer = os ++ (o ∷ [])

  opened : o.block ≡ 0 → number ≡ 0 → Filling l longer (opening o.valid (tag_of o.tag) w.limit)
  opened z e =
      let first = is_first w o z e in
      let set = filled 0 0 o.valid in
      record {
        by = starts (idle l) os o first;
        handed = subst (λ (taken : List Offer). Handed taken (first_blocks 1) set (ones set)) (sym (begins_taken (idle l) os o first (is_taken w o e))) (more [] o 0 0 (omega arith) z nothing_yet);
      }

  module _ (I : Inv l os w) where
    refused : (number ≡ 0 → ⊥) → Inv l longer w
    refused n i =
        let F = I i in
        let later = not_taken w o n in
        record {
          by = goes_on (idle l) os o F.by later;
          handed = subst (λ (taken : List Offer). Handed taken (first_blocks w.expected) w.fill (ones w.fill)) (sym (grows_by (idle l) os o F.by later (is_refused w o n) ∙ append-nil (taken_by (idle l) os F.by))) F.handed;
        }

    -- the offered block is above the set so far
    kept : number ≡ 0 → (i : w.opened ≡ true) → o.block ≡ w.expected
        → Handed (taken_by (idle l) os (I i).by ++ (o ∷ [])) (first_blocks (suc w.expected)) (filled w.fill w.expected o.valid) (ones (filled w.fill w.expected o.valid))
    kept e i q = more (taken_by (idle l) os (I i).by) o w.expected w.fill (under w (accepted_for o.leaps w o.block o.tag e).fill i) q (I i).handed

    turned : {r : Stepped} → Turn o.leaps w o.block o.valid o.tag r → Inv l longer r.next
    turned (refuses h) = refused h
    turned (strays e z n) = λ i. never (sym z ∙ i)
    turned (opens e z) = λ i. opened z e
    turned (closes e i y) = either (Inv l longer) (eqb o.block 0) (λ z _. opened (eqb-true o.block 0 z) e) (λ z j. never j)
    turned (keeps e i m q n) = λ _.
        let set = filled w.fill w.expected o.valid in
        let later = not_first w o (λ z. omega (arith, from_one w (accepted_for o.leaps w o.block o.tag e).expected i)) in
        record {
          by = goes_on (idle l) os o (I i).by later;
          handed =
              subst (λ (taken : List Offer). Handed taken (first_blocks (w.expected + 1)) set (ones set)) (sym (grows_by (idle l) os o (I i).by later (is_taken w o e)))
              (subst (λ (k : ℕ). Handed (taken_by (idle l) os (I i).by ++ (o ∷ [])) (first_blocks k) set (ones set)) (sym (add-one w.expected)) (kept e i q));
        }

    -- ---- a closing

    completes : {r : Stepped} → Turn o.leaps w o.block o.valid o.tag r → kind_of r.verdict ≡ 7
        → (by : BegunBy (idle l) os) × Handed (taken_by (idle l) os by ++ (o ∷ [])) (first_blocks 11) (fill_of r.verdict) (count_of r.verdict)
    completes (refuses h) x = absurd (omega arith)
    completes (strays e z n) x = absurd (omega arith)
    completes (opens e z) x = absurd (omega arith)
    completes (closes e i (back h)) x = absurd (omega arith)
    completes (closes e i (late h)) x = absurd (omega arith)
    completes (closes e i broken) x = absurd (omega arith)
    completes (closes e i (complete m q n)) x = (
      (I i).by,
      subst (λ (k : ℕ). Handed (taken_by (idle l) os (I i).by ++ (o ∷ [])) (first_blocks (suc k)) (filled w.fill k o.valid) (ones (filled w.fill k o.valid)))
          (sym q ∙ n) (kept e i q),
    )
    completes (keeps e i m q n) x = absurd (omega arith)

    closes_as_was : {r : Stepped} → Turn o.leaps w o.block o.valid o.tag r → 4 ≤ kind_of r.verdict → kind_of r.verdict < 7
        → (by : BegunBy (idle l) os) × Handed (taken_by (idle l) os by) (first_blocks w.expected) (fill_of r.verdict) (count_of r.verdict)
    closes_as_was (refuses h) x y = absurd (omega arith)
    closes_as_was (strays e z n) x y = absurd (omega arith)
    closes_as_was (opens e z) x y = absurd (omega arith)
    closes_as_was (closes e i (back h)) x y = ((I i).by, (I i).handed)
    closes_as_was (closes e i (late h)) x y = ((I i).by, (I i).handed)
    closes_as_was (closes e i broken) x y = ((I i).by, (I i).handed)
    closes_as_was (closes e i (complete m q n)) x y = absurd (omega arith)
    closes_as_was (keeps e i m q n) x y = absurd (omega arith)

always : (l : ℕ) (os : List Offer) → Inv l os (after (idle l) os)
always l = every l (Inv l) (λ os o I. turned l os o I (turn_of (after (idle l) os) o)) (λ i. never i)

pub any_fills : AnyFills
unfolding first_blocks
any_fills = record {
  complete = λ l os o h. let c = completes l os o (always l os) (turn_of (after (idle l) os) o) h in record { by = c.0; handed = c.1 };
  closed = λ l os o h k. let c = closes_as_was l os o (always l os) (turn_of (after (idle l) os) o) h k in record { by = c.0; handed = c.1 };
}
