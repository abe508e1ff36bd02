-- The three returns of `salvage`: too little room, no block, and all done.
-- Assumes nothing.
use Prim.Native.Nat.{ℕ, ◌≤◌, ◌<◌}
use mathlib.Core.Path.{◌≡◌, refl, sym, ap, ◌∙◌}
use mathlib.Core.Bool.{Bool, true, false, not, ◌||◌}
use mathlib.Core.List.{List}
use native.Mathlib.Omega.{arith}
use lib.Dec.{ltb}
use lib.ListN.{length}
use borrow.Author.Tests.{ltb-false, lt-ltb, le-ltb}
use Rattle.ground.proofs.LawsChoice.{yes, no}
use Rattle.ground.proofs.LawsTests.{neither}
use Rattle.ground.proofs.LawsGrounds.{accepts, refuses}
use Rattle.row.specs.Promises.{most_words}
use Rattle.salvaging.specs.Pieces.{start_from, pieces_of, recording_of, report_of, words_over}
use Rattle.salvaging.specs.Answers.{SalvageAnswer, bytes_for, numbers_for, small_rooms, refusal_of, refused_salvaged, done_salvaged, salvaged_of, ahead, recording_after, report_after, scratch_after}
use Rattle.salvaging.proofs.SalvageTurns.{Done}

-- what the test of the rooms shows
pub record Rooms (input recording report scratch : ℕ) : Type 0 where
  pub recorded : bytes_for input ≤ recording
  pub reported : numbers_for input ≤ report
  pub worded : most_words ≤ scratch

pub roomy : {t : Bool} (n m r w : ℕ) → t ≡ small_rooms n m r w → t ≡ false → Rooms n m r w
roomy n m r w e f =
    let a = neither (ltb m (bytes_for n) || ltb r (numbers_for n)) (ltb w most_words) (sym e ∙ f) in
    let b = neither (ltb m (bytes_for n)) (ltb r (numbers_for n)) a.0 in
    record { recorded = ltb-false m (bytes_for n) b.0; reported = ltb-false r (numbers_for n) b.1; worded = ltb-false w most_words a.1 }

module _ (input recording report scratch : List ℕ) where
  abbrev n : ℕ
  n = refusal_of input (length recording) (length report) (length scratch)

  pub record Ends (r : SalvageAnswer) (recording' report' scratch' : List ℕ) : Type 0 where
    pub answer : r ≡ salvaged_of input (length recording) (length report) (length scratch)
    pub recorded : recording' ≡ recording_after input recording (length report) (length scratch)
    pub reported : report' ≡ report_after input (length recording) report (length scratch)
    pub worded : scratch' ≡ scratch_after input (length recording) (length report) scratch

  refused_with : {k : ℕ} → n ≡ k → (k ≡ 0 → ⊥) → Ends (refused_salvaged k) recording report scratch
  unfolding salvaged_of recording_after report_after scratch_after
  refused_with e f =
      record {
        answer = refuses (done_salvaged input) refused_salvaged e f;
        recorded = refuses (ahead (recording_of input (pieces_of input)) recording) (λ _. recording) e f;
        reported = refuses (ahead (report_of input (pieces_of input)) report) (λ _. report) e f;
        worded = refuses (words_over input (pieces_of input) scratch) (λ _. scratch) e f;
      }

  module _ {t : Bool} (e : t ≡ small_rooms (length input) (length recording) (length report) (length scratch)) where
    pub too_small : t ≡ true → Ends (refused_salvaged 9) recording report scratch
    unfolding refusal_of
    too_small h = refused_with (sym (yes _ e h refl)) (λ z. omega arith)

    module _ (f : t ≡ false) where
      pub none_found : length input ≤ start_from 0 input → Ends (refused_salvaged 18) recording report scratch
      unfolding refusal_of
      none_found h = refused_with (sym (no _ e f (yes _ refl (ap not (le-ltb (start_from 0 input) (length input) h)) refl))) (λ z. omega arith)

      pub all_done : start_from 0 input < length input → {recording' report' scratch' : List ℕ} {r : SalvageAnswer} → Done input recording recording' report report' scratch scratch' r
          → Ends r recording' report' scratch'
      unfolding refusal_of salvaged_of recording_after report_after scratch_after
      all_done h d =
          let z : n ≡ 0 = sym (no _ e f (no _ refl (ap not (lt-ltb (start_from 0 input) (length input) h)) refl)) in
          record {
            answer = d.answer ∙ accepts (done_salvaged input) refused_salvaged z;
            recorded = d.recorded ∙ accepts (ahead (recording_of input (pieces_of input)) recording) (λ _. recording) z;
            reported = d.reported ∙ accepts (ahead (report_of input (pieces_of input)) report) (λ _. report) z;
            worded = d.worded ∙ accepts (words_over input (pieces_of input) scratch) (λ _. scratch) z;
          }
