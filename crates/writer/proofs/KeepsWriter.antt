-- The writer's promises on refusals and on acceptance: its answer and its room go by the first ground that holds, and none holds exactly
-- where the header asks for the words and there is room for their block.
-- Assumes nothing.
use Prim.Native.Nat.{ℕ, ◌^◌, ◌≤◌}
use mathlib.Core.Path.{◌≡◌, refl, sym, ap, ap₂, ◌∙◌, subst}
use mathlib.Core.Bool.{true, not}
use mathlib.Core.List.{List, ◌++◌}
use native.Mathlib.Omega.{arith}
use lib.ListN.{length, drop}
use borrow.Author.Tests.{ltb-false, le-ltb, eqb-true, eq-eqb, not-false}
use Rattle.ground.proofs.LawsGrounds.{reads_number, none_first, first_none, none_append, none_split, exactly}
use Rattle.bits.specs.Bits.{Below}
use Rattle.bits.specs.Fields.{all_fit}
use Rattle.bits.proofs.LawsFill.{fit_below, below_fit}
use Rattle.row.specs.Field.{field_bytes}
use Rattle.copies.specs.Copies.{header_length}
use Rattle.header.specs.Says.{block_in, size_in, words_in, version_in, bytes_in}
use Rattle.header.specs.Plans.{plan_grounds}
use Rattle.header.specs.Asks.{Asks}
use Rattle.header.proofs.LawsAsks.{none_asks, asks_none, asked_block, asked_words}
use Rattle.block.specs.Layout.{block_length}
use Rattle.writer.specs.Answers.{Written, block_bytes, written_block, word_grounds, write_grounds, write_refusal, refused_written, written_of}
use Rattle.writer.specs.Promises.{Writable, RefusesInOrder, RefusesExactly, RefusalLeaves, AsksFor, WritesExactly, WritesFront}
use Rattle.writer.proofs.LawsBlocks.{length_block}
use Rattle.writer.proofs.LawsWrite.{refused, accepted}

-- ---- refusals

pub refuses_in_order : RefusesInOrder
unfolding written_of write_refusal
refuses_in_order h ws room =
    reads_number (record { number = 0; bytes = block_bytes h }) refused_written (λ (r : Written). r.number) refl (λ n. refl) (write_refusal h ws room)

pub refuses_exactly : RefusesExactly
refuses_exactly h ws room = exactly (write_grounds h ws room) refl refl (refuses_in_order h ws room)

number_is : (h ws : List ℕ) (room : ℕ) → write_refusal h ws room ≡ (written_of h ws room).number
unfolding write_refusal
number_is h ws room = sym (refuses_in_order h ws room)

pub refusal_leaves : RefusalLeaves
refusal_leaves =
    record {
      zeros = λ h ws room f. sym (refused h ws room (number_is h ws (length room)) f).0;
      unchanged = λ h ws room f. sym (refused h ws room (number_is h ws (length room)) f).1;
    }

-- ---- acceptance

module _ (h ws : List ℕ) where
  writable_asks : (room : ℕ) → Writable h ws room → (a : AsksFor h ws) × (block_length (field_bytes a.number (length ws)) ≤ room)
  writable_asks room e =
      let s = none_split (plan_grounds h) (word_grounds h ws room) (first_none (write_grounds h ws room) refl (sym (refuses_in_order h ws room) ∙ e)) in
      let n = s.0 in
      let f = s.1 in
      let many : words_in h ≡ length ws = sym (eqb-true (length ws) (words_in h) (not-false _ f.0)) in (
        record {
          number = block_in h;
          version = version_in h;
          size = size_in h;
          long = eqb-true (length h) header_length (not-false _ n.0);
          asks = subst (Asks h (block_in h) (version_in h) (size_in h)) many (none_asks h n.1);
          sized = fit_below (size_in h) ws (not-false _ f.1.1.0);
        },
        subst (λ (C : ℕ). block_length (field_bytes (block_in h) C) ≤ room) many (ltb-false room (block_bytes h) f.1.0),
      )

  module _ (a : AsksFor h ws) where
    pub bytes_are : bytes_in h ≡ field_bytes a.number (length ws)
    bytes_are = ap₂ field_bytes (asked_block a.asks) (asked_words a.asks)

    asks_writable : (room : ℕ) → block_length (field_bytes a.number (length ws)) ≤ room → Writable h ws room
    asks_writable room r =
        let fits : all_fit (size_in h) ws ≡ true = below_fit (size_in h) ws (subst (λ (w : ℕ). Below (2 ^ w) ws) (sym a.asks.size) a.sized) in
        refuses_in_order h ws room
        ∙ none_first (write_grounds h ws room)
        (none_append (plan_grounds h) (word_grounds h ws room) (ap not (eq-eqb (length h) header_length a.long), asks_none a.asks)
        (ap not (eq-eqb (length ws) (words_in h) (sym (asked_words a.asks))), (le-ltb room (block_bytes h) (omega (arith, bytes_are)), (ap not fits, tt))))

pub writes_exactly : WritesExactly
writes_exactly = record { accepts = λ h ws room a. asks_writable h ws a room; only = writable_asks }

pub writes_front : WritesFront
writes_front h ws room e =
    let put = accepted h ws room (number_is h ws (length room) ∙ e) refl in
    let long : block_bytes h ≡ length (written_block h ws) = sym (length_block h (size_in h) (bytes_in h) ws (writable_asks h ws (length room) e).0.long) in
    record {
      count = sym put.0 ∙ ap (λ (n : ℕ). record { number = 0; bytes = n }) long;
      left = sym put.1 ∙ ap (λ (n : ℕ). written_block h ws ++ drop n room) long;
    }
