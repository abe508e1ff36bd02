-- What the calls of `read_by` and of `read` gave, put together: the number is that of the first ground of all, and where none holds the words
-- are taken. Reading a block is reading it by its common header, which has 28 bytes.
-- Assumes nothing.
use Prim.Native.Nat.{ℕ, ◌*◌, ◌≤◌}
use mathlib.Core.Path.{◌≡◌, refl, sym, ap, ap₂, ◌∙◌, subst}
use mathlib.Core.Bool.{Bool, true, false, not, ◌||◌}
use mathlib.Core.List.{List, [], ◌∷◌, ◌++◌}
use native.Mathlib.Omega.{arith}
use lib.Dec.{lit<, eqb, ltb}
use lib.ListN.{length, drop, length-drop}
use lib.Seq.{length-take-le}
use borrow.Author.Tests.{ltb-false, le-ltb, le-leb, eqb-true, eq-eqb, ne_eqb, not-false}
use Rattle.ground.specs.Choice.{pick}
use Rattle.ground.specs.Grounds.{◌when◌, first_of}
use Rattle.ground.proofs.LawsChoice.{no, either}
use Rattle.ground.proofs.LawsGrounds.{none_first, first_none, first_then, accepts, refuses, reads_number}
use Rattle.bits.specs.Fields.{words_of, bad_size, fit, take_answer, room_taken}
use Rattle.check_rule.specs.Check.{passes}
use Rattle.row.specs.Promises.{Held}
use Rattle.copies.specs.Copies.{CommonAnswer, header_length, copy_length, copies_length, copy_at, common, common_in, header_in, copies_grounds, found_common, common_of}
use Rattle.copies.proofs.LawsAgreed.{copy_long}
use Rattle.copies.proofs.KeepsCopies.{common_number, common_found}
use Rattle.header.specs.Plans.{PlanAnswer, header_grounds, granted_plan, plan_of}
use Rattle.header.specs.Says.{words_in, bytes_in}
use Rattle.header.proofs.LawsThen.{header_decides, others_decide, plan_is, plan_held}
use Rattle.block.specs.Answers.{Answer, Judged, refused_judged, accepted_judged, judged_by, words_laid, room_by, refused_answer, answer_with, accepted_answer, answer_of, room_after}
use Rattle.block.specs.Layout.{block_length, information_field}
use Rattle.block.specs.Grounds.{wrong_length, field_grounds, field_by, refusal_by, refusal_of}

-- what the test of the length shows
pub right_length : {t : Bool} (bytes : ℕ) (block : List ℕ) → t ≡ wrong_length bytes block → t ≡ false → length block ≡ block_length bytes
right_length bytes block e f = eqb-true (length block) (block_length bytes) (not-false _ (sym e ∙ f))

pub field_long : (bytes : ℕ) (block : List ℕ) → length block ≡ block_length bytes → length (information_field bytes block) ≡ bytes
field_long bytes block l = length-take-le bytes (drop copies_length block) (omega (arith, length-drop copies_length block))

-- words that the field holds, and that the room is large enough for, are taken
pub words_taken : (size words bytes : ℕ) (field room : List ℕ) → length field ≡ bytes → Held size words bytes → words ≤ length room
    → room_taken size words field room ≡ words_of size words field ++ drop words room
words_taken size words bytes field room l h r =
    let sized : bad_size size ≡ false = ap₂ ◌||◌ (ne_eqb size 0 (λ e. omega (arith, h.low))) (le-ltb 16 size h.high) in
    let fits : fit words size (length field) ≡ true = le-leb (words * size) (length field * 8) (omega (arith, h.fits)) in
    let none : take_answer size words field (length room) ≡ 0 =
    none_first ((6 when bad_size size) ∷ (8 when not (fit words size (length field))) ∷ (9 when ltb (length room) words) ∷ [])
    (sized, (ap not fits, (le-ltb (length room) words r, tt))) in
    sym (accepts (words_of size words field ++ drop words room) (λ _. room) none)

-- the common header of a block that is long enough to have one
header_long : (block : List ℕ) → copies_length ≤ length block → length (header_in block) ≡ header_length
unfolding common
header_long block l =
    let long = copy_long block l in
    let e : length (common_in block) ≡ copy_length =
    either (λ (c : List ℕ). length c ≡ copy_length) (passes (copy_at 0 block)) (λ _. long 0 (lit< tt))
    (λ _. either (λ (c : List ℕ). length c ≡ copy_length) (passes (copy_at 1 block)) (λ _. long 1 (lit< tt)) (λ _. long 2 (lit< tt))) in
    length-take-le header_length (common_in block) (omega arith)

-- ---- by a given header: one law for each return of `read_by`

pub judged_number : (h block : List ℕ) (room : ℕ) → (judged_by h block room).number ≡ refusal_by h block room
unfolding judged_by
judged_number h block room = reads_number (accepted_judged h) refused_judged (λ (r : Judged). r.number) refl (λ n. refl) (refusal_by h block room)

module _ (h block room : List ℕ) where
  abbrev EndsBy : Judged → List ℕ → Type 0
  EndsBy r after = (r ≡ judged_by h block (length room)) × (after ≡ room_by h block room)

  refused_by : {n : ℕ} → refusal_by h block (length room) ≡ n → (n ≡ 0 → ⊥) → EndsBy (refused_judged n) room
  unfolding judged_by room_by
  refused_by e f = (refuses (accepted_judged h) refused_judged e f, refuses (words_laid h block room) (λ _. room) e f)

  pub accepted_by : refusal_by h block (length room) ≡ 0 → EndsBy (accepted_judged h) (words_laid h block room)
  unfolding judged_by room_by
  accepted_by e = (accepts (accepted_judged h) refused_judged e, accepts (words_laid h block room) (λ _. room) e)

  module _ {p : PlanAnswer} (e : p ≡ plan_of h) where
    pub header_refused : (p.number ≡ 0 → ⊥) → EndsBy (refused_judged p.number) room
    unfolding refusal_by
    header_refused f = refused_by (header_decides h e (field_by h block (length room)) f) f

    module _ (z : p.number ≡ 0) {n : ℕ} (m : n ≡ first_of (field_grounds p.size p.words p.bytes block (length room))) where
      granted : p ≡ granted_plan h
      granted = plan_is h e z

      field_number : first_of (field_by h block (length room)) ≡ n
      field_number = sym (m ∙ ap (λ (q : PlanAnswer). first_of (field_grounds q.size q.words q.bytes block (length room))) granted)

      number_by : refusal_by h block (length room) ≡ n
      unfolding refusal_by
      number_by = others_decide h e (field_by h block (length room)) z ∙ field_number

      pub field_refused : (n ≡ 0 → ⊥) → EndsBy (refused_judged n) room
      field_refused f = refused_by number_by f

      module _ (none : n ≡ 0) where
        pub field_held : Held p.size p.words p.bytes × ((length block ≡ block_length p.bytes) × (p.words ≤ length room))
        field_held =
            let f = first_none (field_by h block (length room)) refl (field_number ∙ none) in
            subst (λ (q : PlanAnswer). Held q.size q.words q.bytes × ((length block ≡ block_length q.bytes) × (q.words ≤ length room))) (sym granted)
            (plan_held h e z, (right_length (bytes_in h) block refl f.0, ltb-false (length room) (words_in h) f.1.1.0))

        pub field_read : {after : List ℕ} → after ≡ words_of p.size p.words (information_field p.bytes block) ++ drop p.words room
            → EndsBy (record { number = 0; words = p.words }) after
        field_read a =
            let x = accepted_by (number_by ∙ none) in (
              (λ i. record { number = 0; words = (granted i).words }) ∙ x.0,
              a ∙ (λ i. words_of (granted i).size (granted i).words (information_field (granted i).bytes block) ++ drop (granted i).words room) ∙ x.1,
            )

-- ---- by the common header: one law for each return of `read`

module _ (block : List ℕ) where
  abbrev h : List ℕ
  h = header_in block

  -- where the copies are not refused, a block is refused as it is by the common header
  pub refused_alike : (room : ℕ) → first_of (copies_grounds block) ≡ 0 → refusal_of block room ≡ refusal_by h block room
  unfolding refusal_of refusal_by
  refused_alike room none =
      let long = ltb-false (length block) copies_length (first_none (copies_grounds block) refl none).0 in
      first_then (copies_grounds block) (header_grounds h ++ field_by h block room) refl
      ∙ ap (λ (n : ℕ). pick (eqb n 0) (first_of (header_grounds h ++ field_by h block room)) n) none
      ∙ no _ refl (ap not (eq-eqb (length h) header_length (header_long block long))) refl

  pub room_alike : (room : List ℕ) → first_of (copies_grounds block) ≡ 0 → room_after block room ≡ room_by h block room
  unfolding room_after room_by
  room_alike room none = ap (λ (n : ℕ). pick (eqb n 0) (words_laid h block room) room) (refused_alike (length room) none)

  module _ (room : List ℕ) where
    abbrev Ends : Answer → List ℕ → Type 0
    Ends r after = (r ≡ answer_of block (length room)) × (after ≡ room_after block room)

    refused_whole : {n : ℕ} → refusal_of block (length room) ≡ n → (n ≡ 0 → ⊥) → Ends (refused_answer n) room
    unfolding answer_of room_after
    refused_whole e f = (refuses (accepted_answer block) refused_answer e f, refuses (words_laid h block room) (λ _. room) e f)

    accepted_whole : refusal_of block (length room) ≡ 0 → accepted_answer block ≡ answer_of block (length room)
    unfolding answer_of
    accepted_whole e = accepts (accepted_answer block) refused_answer e

    module _ {common : CommonAnswer} (e : common ≡ common_of block) where
      copies_number : first_of (copies_grounds block) ≡ common.number
      copies_number = sym (ap (λ (c : CommonAnswer). c.number) e ∙ common_number block)

      pub copies_refused : (common.number ≡ 0 → ⊥) → Ends (refused_answer common.number) room
      unfolding refusal_of
      copies_refused f =
          let rest = first_of (header_grounds h ++ field_by h block (length room)) in
          refused_whole
          (first_then (copies_grounds block) (header_grounds h ++ field_by h block (length room)) refl
          ∙ ap (λ (n : ℕ). pick (eqb n 0) rest n) copies_number ∙ sym (no rest refl (ne_eqb common.number 0 f) refl)) f

      module _ (z : common.number ≡ 0) {judged : Judged} {after : List ℕ}
          (j : judged ≡ judged_by common.header block (length room)) (a : after ≡ room_by common.header block room) where
        found_is : common ≡ found_common (copy_at 0 block) (copy_at 1 block) (copy_at 2 block)
        found_is = e ∙ common_found block (copies_number ∙ z)

        judged_is : judged ≡ judged_by h block (length room)
        judged_is = j ∙ ap (λ (c : CommonAnswer). judged_by c.header block (length room)) found_is

        left_is : after ≡ room_after block room
        left_is = a ∙ ap (λ (c : CommonAnswer). room_by c.header block room) found_is ∙ sym (room_alike room (copies_number ∙ z))

        number_by_header : refusal_by h block (length room) ≡ judged.number
        number_by_header = sym (ap (λ (r : Judged). r.number) judged_is ∙ judged_number h block (length room))

        number_whole : refusal_of block (length room) ≡ judged.number
        number_whole = refused_alike (length room) (copies_number ∙ z) ∙ number_by_header

        pub rest_refused : (judged.number ≡ 0 → ⊥) → Ends (refused_answer judged.number) after
        rest_refused f = ((refused_whole number_whole f).0, left_is)

        pub whole_read : judged.number ≡ 0 → Ends (answer_with common judged.words) after
        whole_read none =
            let words : judged.words ≡ words_in h = ap (λ (r : Judged). r.words) (judged_is ∙ sym (accepted_by h block room (number_by_header ∙ none)).0) in
            ((λ i. answer_with (found_is i) (words i)) ∙ accepted_whole (number_whole ∙ none), left_is)
