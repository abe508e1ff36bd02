-- Data that is marked not valid is read all the same: no word that is read is word 9, and what is read of a block beside its copies is its
-- length and what lies behind them.
-- Assumes nothing.
use Prim.Native.Nat.{ℕ, ◌<◌}
use mathlib.Core.Path.{◌≡◌, refl, sym, ap, ◌∙◌, subst}
use mathlib.Core.Logic.{◌↔◌}
use mathlib.Core.Bool.{Bool, true, false}
use mathlib.Core.List.{List}
use native.Mathlib.Omega.{arith}
use lib.Dec.{lit<, eqb}
use lib.ListN.{length, take, drop, get_or, set, length-set, length-drop}
use lib.Seq.{get_or-set_other}
use borrow.Author.Tests.{eqb-true, eqb-false}
use Rattle.bits.specs.Bits.{Below}
use Rattle.check_rule.specs.Check.{generator}
use Rattle.check_rule.specs.Finds.{Passes}
use Rattle.copies.specs.Copies.{header_length, copies_length, copy_at}
use Rattle.copies.specs.Agreed.{Agreed}
use Rattle.copies.proofs.LawsAgreed.{agreed_none}
use Rattle.block.specs.Answers.{Answer, Judged, refused_answer, answer_of, room_after, judged_by, room_by}
use Rattle.block.specs.Grounds.{refusal_by}
use Rattle.block.specs.Promises.{Accepted, MarkUnread, MarkedApart, ReadsMarkedAlike}
use Rattle.block.proofs.KeepsReader.{refusal_leaves, accepted_answer_is, answers_truly}
use Rattle.block.proofs.KeepsJudged.{reads_by_common}

-- two blocks, read by two headers, are answered alike and leave the room alike
abbrev Same : (h block k other : List ℕ) → Type 0
Same h block k other = ((lent : ℕ) → judged_by h block lent ≡ judged_by k other lent) × ((room : List ℕ) → room_by h block room ≡ room_by k other room)

mark_same : (h : List ℕ) (mark : ℕ) (block : List ℕ) → Same (set h 8 mark) block h block
unfolding judged_by room_by refusal_by
mark_same h mark block =
    let kept : (j : ℕ) → (j ≡ 8 → ⊥) → get_or (set h 8 mark) j 0 ≡ get_or h j 0 = λ j f. get_or-set_other h 8 j mark 0 f in
    simp (length-set h 8 mark, kept 0 (λ e. omega arith), kept 1 (λ e. omega arith), kept 2 (λ e. omega arith), kept 3 (λ e. omega arith), kept 7 (λ e. omega arith))
    (λ lent. refl, λ room. refl)

behind_same : (h one other : List ℕ) → length other ≡ length one → drop copies_length other ≡ drop copies_length one → Same h other h one
unfolding judged_by room_by refusal_by
behind_same h one other long behind = simp (long, behind) (λ lent. refl, λ room. refl)

pub mark_unread : MarkUnread
mark_unread = record { answer = λ h block lent mark. (mark_same h mark block).0 lent; left = λ h block room mark. (mark_same h mark block).1 room }

-- the header that an accepted block answers
header_of : (block c : List ℕ) (room : ℕ) → Below 256 block → Agreed block c → Accepted block room → (answer_of block room).header ≡ take header_length c
header_of block c room b g a = ap (λ (r : Answer). r.header) (accepted_answer_is block b room a) ∙ ap (take header_length) (agreed_none block b g).1

same_tests : (a b : Bool) → (a ≡ true → b ≡ true) → (b ≡ true → a ≡ true) → b ≡ a
same_tests true b f g = f refl
same_tests false true f g = sym (g refl)
same_tests false false f g = refl

module _ (one other : List ℕ) (mark : ℕ) (bytes : Below 256 one) (bytes' : Below 256 other) (m : MarkedApart one other mark) where
  long : length other ≡ length one
  long = omega (arith, m.agreed.long, m.agreed'.long, length-drop copies_length one, length-drop copies_length other, ap length m.behind)

  abbrev h : List ℕ
  h = take header_length m.copy

  same : Same (take header_length m.copy') other h one
  same =
      let x = mark_same h mark other in
      let y = behind_same h one other long m.behind in
      subst (λ (k : List ℕ). Same k other h one) (sym m.header) (λ lent. x.0 lent ∙ y.0 lent, λ room. x.1 room ∙ y.1 room)

  number_alike : (room : ℕ) → (answer_of other room).number ≡ (answer_of one room).number
  number_alike room =
      reads_by_common.number other m.copy' room bytes' m.agreed' ∙ ap (λ (r : Judged). r.number) (same.0 room)
      ∙ sym (reads_by_common.number one m.copy room bytes m.agreed)

  count_alike : (room : ℕ) → (answer_of other room).words ≡ (answer_of one room).words
  count_alike room =
      reads_by_common.count other m.copy' room bytes' m.agreed' ∙ ap (λ (r : Judged). r.words) (same.0 room)
      ∙ sym (reads_by_common.count one m.copy room bytes m.agreed)

  left_alike : (room : List ℕ) → room_after other room ≡ room_after one room
  left_alike room =
      reads_by_common.left other m.copy' room bytes' m.agreed' ∙ same.1 room ∙ sym (reads_by_common.left one m.copy room bytes m.agreed)

  -- a mark that says truly, of an accepted block, whether copy k passes
  marks_alike : (room k : ℕ) → k < 3 → (get : Answer → Bool)
      → ((block : List ℕ) → Below 256 block → Accepted block room → (get (answer_of block room) ≡ true) ↔ Passes generator (copy_at k block))
      → get (answer_of other room) ≡ get (answer_of one room)
  marks_alike room k l get truly = go (eqb (answer_of one room).number 0) refl
    where
      go : (t : Bool) → eqb (answer_of one room).number 0 ≡ t → get (answer_of other room) ≡ get (answer_of one room)
      go true e =
          let a = eqb-true (answer_of one room).number 0 e in
          let x = truly one bytes a in
          let y = truly other bytes' (number_alike room ∙ a) in
          same_tests (get (answer_of one room)) (get (answer_of other room)) (λ t. y.1 ((m.passing k l).0 (x.0 t))) (λ t. x.1 ((m.passing k l).1 (y.0 t)))
      go false e =
          let f = eqb-false (answer_of one room).number 0 e in
          ap get
          (refusal_leaves.zeros other room (λ z. f (sym (number_alike room) ∙ z)) ∙ ap refused_answer (number_alike room) ∙ sym (refusal_leaves.zeros one room f))

  header_marked : (room : ℕ) → Accepted one room → (answer_of other room).header ≡ set (answer_of one room).header 8 mark
  header_marked room a =
      header_of other m.copy' room bytes' m.agreed' (number_alike room ∙ a) ∙ m.header
      ∙ ap (λ (k : List ℕ). set k 8 mark) (sym (header_of one m.copy room bytes m.agreed a))

pub reads_marked_alike : ReadsMarkedAlike
reads_marked_alike one other room mark b b' m =
    let n = length room in
    record {
      number = number_alike one other mark b b' m n;
      count = count_alike one other mark b b' m n;
      first = marks_alike one other mark b b' m n 0 (lit< tt) (λ (r : Answer). r.first) (λ block c. answers_truly.first block n c);
      second = marks_alike one other mark b b' m n 1 (lit< tt) (λ (r : Answer). r.second) (λ block c. answers_truly.second block n c);
      third = marks_alike one other mark b b' m n 2 (lit< tt) (λ (r : Answer). r.third) (λ block c. answers_truly.third block n c);
      header = header_marked one other mark b b' m n;
      left = left_alike one other mark b b' m room;
    }
