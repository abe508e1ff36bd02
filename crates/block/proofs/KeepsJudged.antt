-- The promises of reading by a lent header; and that a block is read by the header that its copies agree on.
-- Assumes nothing.
use Prim.Native.Nat.{ℕ}
use mathlib.Core.Path.{◌≡◌, refl, sym, ap, ◌∙◌}
use mathlib.Core.Bool.{Bool, true, false}
use mathlib.Core.List.{List}
use lib.Dec.{eqb}
use lib.ListN.{length, take}
use Rattle.ground.specs.Choice.{pick}
use Rattle.ground.specs.Grounds.{first_of}
use Rattle.ground.proofs.LawsGrounds.{refuses, none_first, exactly}
use Rattle.bits.specs.Bits.{Below}
use Rattle.copies.specs.Copies.{header_length, header_in, copies_grounds}
use Rattle.copies.specs.Agreed.{Agreed}
use Rattle.copies.proofs.LawsAgreed.{agreed_none}
use Rattle.block.specs.Grounds.{grounds_by, refusal_by}
use Rattle.block.specs.Answers.{refused_judged, accepted_judged, judged_by, words_laid, room_by, refused_answer, accepted_answer, answer_of}
use Rattle.block.specs.Promises.{JudgesInOrder, ReadsByCommon}
use Rattle.block.proofs.LawsReader.{judged_number, refused_alike, room_alike}
use Rattle.block.proofs.KeepsReader.{number_is}

judged_first : (h block : List ℕ) (room : ℕ) → (judged_by h block room).number ≡ first_of (grounds_by h block room)
unfolding refusal_by
judged_first = judged_number

module _ (h block : List ℕ) where
  judged_zeros : (room : ℕ) → ((judged_by h block room).number ≡ 0 → ⊥) → judged_by h block room ≡ refused_judged (judged_by h block room).number
  unfolding judged_by
  judged_zeros room f = sym (refuses (accepted_judged h) refused_judged (sym (judged_number h block room)) f)

  judged_room : (room : List ℕ) → ((judged_by h block (length room)).number ≡ 0 → ⊥) → room_by h block room ≡ room
  unfolding room_by
  judged_room room f = sym (refuses (words_laid h block room) (λ (_ : ℕ). room) (sym (judged_number h block (length room))) f)

pub judges_in_order : JudgesInOrder
judges_in_order =
    record {
      first = judged_first;
      exactly = λ h block room. exactly (grounds_by h block room) refl refl (judged_first h block room);
      zeros = judged_zeros;
      unchanged = judged_room;
    }

module _ (block : List ℕ) (none : first_of (copies_grounds block) ≡ 0) where
  abbrev h : List ℕ
  h = header_in block

  number_alike : (room : ℕ) → (answer_of block room).number ≡ (judged_by h block room).number
  number_alike room = number_is block room ∙ refused_alike block room none ∙ sym (judged_number h block room)

  count_alike : (room : ℕ) → (answer_of block room).words ≡ (judged_by h block room).words
  unfolding answer_of judged_by
  count_alike room =
      ap (λ (n : ℕ). (pick (eqb n 0) (accepted_answer block) (refused_answer n)).words) (refused_alike block room none)
      ∙ by (eqb (refusal_by h block room) 0) (refusal_by h block room)
    where
      by : (t : Bool) (n : ℕ) → (pick t (accepted_answer block) (refused_answer n)).words ≡ (pick t (accepted_judged h) (refused_judged n)).words
      by true n = refl
      by false n = refl

pub reads_by_common : ReadsByCommon
reads_by_common =
    let none : (block c : List ℕ) → Below 256 block → Agreed block c → first_of (copies_grounds block) ≡ 0 =
    λ block c b g. none_first (copies_grounds block) (agreed_none block b g).0 in
    let same : (block c : List ℕ) → Below 256 block → Agreed block c → header_in block ≡ take header_length c = λ block c b g. ap (take header_length) (agreed_none block b g).1 in
    record {
      number = λ block c room b g. number_alike block (none block c b g) room ∙ ap (λ (x : List ℕ). (judged_by x block room).number) (same block c b g);
      count = λ block c room b g. count_alike block (none block c b g) room ∙ ap (λ (x : List ℕ). (judged_by x block room).words) (same block c b g);
      left = λ block c room b g. room_alike block room (none block c b g) ∙ ap (λ (x : List ℕ). room_by x block room) (same block c b g);
    }
