-- Demand 3. A copy that is changed so that the check finds it, and that still passes, is the copy that was sent, so the copies still agree on
-- that one; and a changed field no longer passes. What the block as sent meets is carried over to the block as received.
-- Assumes nothing.
use Prim.Native.Nat.{ℕ, ◌*◌, ◌≤◌}
use mathlib.Core.Path.{◌≡◌, refl, sym, ap, ◌∙◌, subst}
use mathlib.Core.Logic.{⊎_elim}
use mathlib.Core.Bool.{Bool, true, false}
use mathlib.Core.List.{List, ◌++◌}
use native.Mathlib.Omega.{arith}
use lib.Dec.{lit<}
use lib.ListN.{length, take, drop, get_or}
use Rattle.ground.proofs.LawsTests.{never}
use Rattle.bits.specs.Bits.{Below, words, sent}
use Rattle.bits.specs.Runs.{Altered}
use Rattle.bits.proofs.LawsBelow.{below_drop}
use Rattle.check_rule.specs.Check.{generator}
use Rattle.check_rule.specs.Finds.{Passes}
use Rattle.check_rule.proofs.LawsFinds.{our_check_finds_runs}
use Rattle.row.specs.Field.{field_bytes}
use Rattle.copies.specs.Copies.{header_length, copies_length, copy_at, same_as}
use Rattle.copies.specs.Agreed.{Agreed}
use Rattle.copies.proofs.LawsSame.{same_refl, same_equal}
use Rattle.copies.proofs.LawsAgreed.{copy_bytes}
use Rattle.header.specs.Asks.{Asks}
use Rattle.block.specs.Layout.{block_length}
use Rattle.block.specs.Answers.{refused_answer, answer_of, room_after}
use Rattle.block.specs.Meets.{Meets}
use Rattle.block.specs.Promises.{Accepted, Found, Received, Alike, BearsFound, FindsAltered}
use Rattle.block.proofs.LawsMeets.{refused_10}
use Rattle.block.proofs.KeepsReader.{refuses_in_order, refusal_leaves, accepted_meets, accepts_exactly, answers_truly, words_cut}

module _ (Change : List ℕ → List ℕ → Type 0) (found : Found Change) where
  -- where a string passes and, changed, still does, it is the same
  pub changed_same : (x y : List ℕ) → Below 256 x → Change x y → Passes generator x → Passes generator y → y ≡ x
  changed_same x y b a px py = go (same_as y x) refl
    where
      go : (t : Bool) → same_as y x ≡ t → y ≡ x
      go true e = same_equal y x e
      go false e = absurd (found x y b a (λ q. never (sym e ∙ ap (λ (v : List ℕ). same_as v x) (sym q) ∙ same_refl x)) px py)

  -- of a block that was sent so, and meets the specification
  module _ (one other c : List ℕ) (r : Received Change one other c) (m : Meets one) where
    sent_copy : m.copy ≡ c
    sent_copy = let g = m.agreed in sym g.there ∙ r.equal g.place g.within

    passing : Passes generator c
    passing = subst (Passes generator) sent_copy m.agreed.passing

    copy_below : Below 256 c
    copy_below = subst (Below 256) (r.equal 0 (lit< tt)) (copy_bytes one r.bytes 0)

    -- the copies as received agree on the one that was sent
    still_agreed : Agreed other c
    still_agreed =
        record {
          long = omega (arith, r.long, m.agreed.long);
          place = r.place;
          within = r.within;
          there = r.whole;
          passing = passing;
          only = λ k l q. ⊎_elim (λ e. e) (λ a. changed_same c (copy_at k other) copy_below a passing q) (r.each k l);
        }

    asked : Asks (take header_length c) m.number m.version m.size m.words
    asked = subst (λ (x : List ℕ). Asks (take header_length x) m.number m.version m.size m.words) sent_copy m.asks

    received_long : length other ≡ block_length (field_bytes m.number m.words)
    received_long = r.long ∙ m.long

    module _ (room : List ℕ) (roomy : m.words ≤ length room) where
      module _ (behind : drop copies_length other ≡ drop copies_length one) where
        received_meets : Meets other
        received_meets =
            record {
              copy = c;
              number = m.number;
              version = m.version;
              size = m.size;
              words = m.words;
              agreed = still_agreed;
              asks = asked;
              long = received_long;
              checked = subst (Passes generator) (sym behind) m.checked;
              filled =
                  subst
                  (λ (s : List ℕ). (i : ℕ) → m.words * m.size ≤ i → get_or (sent (take (field_bytes m.number m.words) s)) i 0 ≡ 0)
                  (sym behind) m.filled;
            }

        copies_alike : Alike other one room
        unfolding received_meets
        copies_alike =
            let n = length room in
            let b = r.bytes in
            let b' = r.bytes' in
            record {
              number = accepts_exactly.accepts other n b' received_meets roomy ∙ sym (accepts_exactly.accepts one n b m roomy);
              header = answers_truly.header other n b' received_meets roomy ∙ ap (take header_length) (sym sent_copy) ∙ sym (answers_truly.header one n b m roomy);
              count = answers_truly.count other n b' received_meets roomy ∙ sym (answers_truly.count one n b m roomy);
              left =
                  words_cut other room b' received_meets roomy
                  ∙ ap (λ (s : List ℕ). words m.size m.words (sent (take (field_bytes m.number m.words) s)) ++ drop m.words room) behind
                  ∙ sym (words_cut one room b m roomy);
            }

      field_refused : (Passes generator (drop copies_length other) → ⊥) → (answer_of other (length room) ≡ refused_answer 10) × (room_after other room ≡ room)
      field_refused f =
          let ten : (answer_of other (length room)).number ≡ 10 =
          refuses_in_order other (length room) ∙ refused_10 other r.bytes' still_agreed asked received_long (length room) roomy f in
          let not-0 : Accepted other (length room) → ⊥ = λ e. let k : ◌≡◌ {A = ℕ} 0 10 = sym e ∙ ten in omega arith in
          (refusal_leaves.zeros other (length room) not-0 ∙ ap refused_answer ten, refusal_leaves.unchanged other room not-0)

pub bears_found : BearsFound
bears_found Change found =
    record {
      copies = λ one other c room r e. let k = accepted_meets one r.bytes (length room) e in copies_alike Change found one other c r k.0 room k.1;
      field =
          λ one other c room r e change ne.
          let k = accepted_meets one r.bytes (length room) e in
          field_refused Change found one other c r k.0 room k.1
          (found (drop copies_length one) (drop copies_length other) (below_drop 256 copies_length one r.bytes) change ne k.0.checked);
    }

pub finds_altered : FindsAltered
finds_altered = bears_found (Altered 16) our_check_finds_runs
