-- The writer's ends: a refusal by the header or by the words, and the block written.
-- Assumes nothing.
use mathlib.Core.Path.{◌≡◌, refl, sym, ap, ap₂, ◌∙◌, subst}
use mathlib.Core.Bool.{Bool, true, false, not}
use mathlib.Core.List.{List, ◌++◌}
use Prim.Native.Nat.{ℕ, ◌<◌, ◌≤◌}
use native.Mathlib.Omega.{arith}
use borrow.Author.Tests.{eq-eqb, ne_eqb, lt-ltb, le-ltb}
use lib.Dec.{eqb}
use lib.ListN.{length, drop}
use Rattle.ground.specs.Choice.{pick}
use Rattle.ground.proofs.LawsChoice.{yes, no}
use Rattle.ground.proofs.LawsGrounds.{accepts, refuses}
use Rattle.bits.specs.Fields.{all_fit}
use Rattle.row.specs.Promises.{Held}
use Rattle.copies.specs.Copies.{header_length}
use Rattle.header.specs.Says.{size_in, words_in, bytes_in}
use Rattle.header.specs.Plans.{PlanAnswer, plan_of, granted_plan}
use Rattle.header.proofs.LawsThen.{header_decides, others_decide, plan_is, plan_held}
use Rattle.block.specs.Layout.{block_length}
use Rattle.writer.specs.Blocks.{block_of}
use Rattle.writer.specs.Answers.{Written, block_bytes, written_block, word_grounds, write_refusal, refused_written, written_of, room_written}

module _ (h ws : List ℕ) where
  module _ (room : List ℕ) where
    pub refused : {n : ℕ} → write_refusal h ws (length room) ≡ n → (n ≡ 0 → ⊥) → (refused_written n ≡ written_of h ws (length room)) × (room ≡ room_written h ws room)
    unfolding written_of room_written
    refused {n} e f = (
      refuses (record { number = 0; bytes = block_bytes h }) refused_written e f,
      refuses (written_block h ws ++ drop (block_bytes h) room) (λ _. room) e f,
    )

    pub accepted : write_refusal h ws (length room) ≡ 0 → {after : List ℕ} → after ≡ written_block h ws ++ drop (block_bytes h) room
        → (record { number = 0; bytes = block_bytes h } ≡ written_of h ws (length room)) × (after ≡ room_written h ws room)
    unfolding written_of room_written
    accepted e {after} a = (accepts (record { number = 0; bytes = block_bytes h }) refused_written e, a ∙ accepts _ (λ _. room) e)

-- ---- the writer's ends, one for each return

abbrev pub Ends : (h ws room : List ℕ) → Written → List ℕ → Type 0
Ends h ws room r after = (r ≡ written_of h ws (length room)) × (after ≡ room_written h ws room)

pub short_refused : (h ws room : List ℕ) → (length h ≡ header_length → ⊥) → Ends h ws room (refused_written 1) room
unfolding write_refusal
short_refused h ws room f = refused h ws room (sym (yes _ refl (ap not (ne_eqb (length h) header_length f)) refl)) (λ k. omega arith)

module _ (h ws room : List ℕ) {p : PlanAnswer} (e : p ≡ plan_of h) where
  pub header_refused : (p.number ≡ 0 → ⊥) → Ends h ws room (refused_written p.number) room
  unfolding write_refusal
  header_refused f = refused h ws room (header_decides h e (word_grounds h ws (length room)) f) f

  module _ (z : p.number ≡ 0) where
    granted : p ≡ granted_plan h
    granted = plan_is h e z

    words_is : p.words ≡ words_in h
    words_is = ap (λ (q : PlanAnswer). q.words) granted

    bytes_is : p.bytes ≡ bytes_in h
    bytes_is = ap (λ (q : PlanAnswer). q.bytes) granted

    size_is : p.size ≡ size_in h
    size_is = ap (λ (q : PlanAnswer). q.size) granted

    pub length_refused : (length ws ≡ p.words → ⊥) → Ends h ws room (refused_written 8) room
    unfolding write_refusal
    length_refused f =
        refused h ws room
        (others_decide h e (word_grounds h ws (length room)) z ∙ sym (yes _ refl (ap not (ne_eqb (length ws) (words_in h) (λ k. f (k ∙ sym words_is)))) refl))
        (λ k. omega arith)

    module _ (l : length ws ≡ p.words) where
      counted : not (eqb (length ws) (words_in h)) ≡ false
      counted = ap not (eq-eqb (length ws) (words_in h) (l ∙ words_is))

      pub room_refused : length room < block_length p.bytes → Ends h ws room (refused_written 9) room
      unfolding write_refusal
      room_refused small =
          refused h ws room
          (others_decide h e (word_grounds h ws (length room)) z
          ∙ sym (no _ refl counted (yes _ refl (lt-ltb (length room) (block_bytes h) (subst (λ (n : ℕ). length room < block_length n) bytes_is small)) refl)))
          (λ k. omega arith)

      pub held : Held p.size (length ws) p.bytes
      held = subst (λ (q : PlanAnswer). Held q.size (length ws) q.bytes) (sym granted) (subst (λ (n : ℕ). Held (size_in h) n (bytes_in h)) (sym (l ∙ words_is)) (plan_held h e z))

      module _ (roomy : block_length p.bytes ≤ length room) where
        last_ground : write_refusal h ws (length room) ≡ pick (all_fit p.size ws) 0 14
        unfolding write_refusal
        last_ground =
            others_decide h e (word_grounds h ws (length room)) z
            ∙ sym
            (no _ refl counted (no _ refl (le-ltb (length room) (block_bytes h) (subst (λ (n : ℕ). block_length n ≤ length room) bytes_is roomy)) (turned (all_fit p.size ws) (ap (λ (s : ℕ). all_fit s ws) size_is))))
          where
            turned : (t : Bool) {u : Bool} → t ≡ u → ◌≡◌ {A = ℕ} (pick t 0 14) (pick (not u) 14 0)
            turned true k = sym (ap (λ (b : Bool). pick (not b) 14 0) (sym k))
            turned false k = sym (ap (λ (b : Bool). pick (not b) 14 0) (sym k))

        module _ {answer : ℕ} {after : List ℕ} (a : answer ≡ pick (all_fit p.size ws) 0 14)
            (put : after ≡ pick (all_fit p.size ws) (block_of h p.size p.bytes ws ++ drop (block_length p.bytes) room) room) where
          pub word_refused : (answer ≡ 0 → ⊥) → Ends h ws room (refused_written answer) after
          word_refused f =
              let x = refused h ws room (last_ground ∙ sym a) f in
              (x.0, put ∙ by (all_fit p.size ws) a ∙ x.1)
            where
              by : (t : Bool) → answer ≡ pick t 0 14 → pick t (block_of h p.size p.bytes ws ++ drop (block_length p.bytes) room) room ≡ room
              by true k = absurd (f k)
              by false k = refl

          pub block_written : answer ≡ 0 → Ends h ws room (record { number = 0; bytes = block_length p.bytes }) after
          block_written zero =
              let x = accepted h ws room (last_ground ∙ sym a ∙ zero) (put ∙ by (all_fit p.size ws) (sym a ∙ zero) ∙ ap₂ (λ (s b : ℕ). block_of h s b ws ++ drop (block_length b) room) size_is bytes_is) in
              (ap (λ (b : ℕ). record { number = 0; bytes = block_length b }) bytes_is ∙ x.0, x.1)
            where
              by : (t : Bool) → ◌≡◌ {A = ℕ} (pick t 0 14) 0
                  → pick t (block_of h p.size p.bytes ws ++ drop (block_length p.bytes) room) room ≡ block_of h p.size p.bytes ws ++ drop (block_length p.bytes) room
              by true k = refl
              by false k = absurd (let y : ◌≡◌ {A = ℕ} 14 0 = k in omega arith)
