-- A block's parts laid into room one after the other.
-- Assumes nothing.
use mathlib.Core.Path.{◌≡◌, refl, sym, ap, ap₂, ◌∙◌}
use mathlib.Core.Bool.{Bool, true, false, not, ◌||◌}
use mathlib.Core.List.{List, ◌++◌, append_assoc}
use Prim.Native.Nat.{ℕ, ◌+◌, ◌-◌, ◌*◌, ◌≤◌}
use native.Mathlib.Nat.{zero-add}
use native.Mathlib.Omega.{arith}
use borrow.Author.Tests.{le-leb, le-ltb, ne_eqb}
use lib.Dec.{eqb}
use lib.ListN.{length, take, drop, replicate, length-append, length-drop, take-append-drop}
use lib.Seq.{length-take-le, take_at, drop_at, drop-drop}
use Rattle.ground.specs.Choice.{pick}
use Rattle.ground.proofs.LawsChoice.{no}
use Rattle.bits.specs.Fields.{bad_size, put_answer, field_put, field_of, all_fit}
use Rattle.bits.proofs.LawsFields.{length_field_of}
use Rattle.check_rule.specs.Check.{check_word, bytes_of}
use Rattle.room.specs.Laid.{laid, laid_inside}
use Rattle.room.proofs.LawsLaid.{laid_inside_is, lay_then, laid_all}
use Rattle.row.specs.Promises.{Held}
use Rattle.block.specs.Layout.{block_length}
use Rattle.writer.specs.Blocks.{sealed, copies_of, block_of}
use Rattle.writer.proofs.LawsBlocks.{length_sealed, copies_long}

-- thirty zeros with the header laid into them, and its check behind it
pub copy_made : (h : List ℕ) → length h ≡ 28 → {one two check : List ℕ} → one ≡ laid_inside (replicate 30 0) 0 h → two ≡ laid_inside one 28 check
    → check ≡ bytes_of (check_word h) → two ≡ sealed h
copy_made h l {one} {two} {check} e₁ e₂ e =
    let zeros : List ℕ = replicate 30 0 in
    let first : one ≡ laid zeros 0 h = e₁ ∙ laid_inside_is zeros 0 h (omega arith) in
    let second : two ≡ laid_inside one 28 (bytes_of (check_word h)) = e₂ ∙ ap (laid_inside one 28) e in
    lay_then zeros 0 h (bytes_of (check_word h)) 28 first second (omega arith) (omega arith) ∙ laid_all zeros (sealed h) (omega (arith, length_sealed h))

pub copies_made : (h room : List ℕ) → length h ≡ 28 → {copy one two three : List ℕ} → 90 ≤ length room → copy ≡ sealed h → one ≡ laid_inside room 0 copy
    → two ≡ laid_inside one 30 copy → three ≡ laid_inside two 60 copy → three ≡ laid room 0 (copies_of h)
copies_made h room l {copy} {one} {two} {three} roomy e e₁ e₂ e₃ =
    let c = sealed h in
    let long : length c ≡ 30 = length_sealed h ∙ omega arith in
    let both : length (c ++ c) ≡ 60 = length-append c c ∙ omega arith in
    let first : one ≡ laid room 0 c = e₁ ∙ ap (laid_inside room 0) e ∙ laid_inside_is room 0 c (omega arith) in
    let second : two ≡ laid room 0 (c ++ c) = lay_then room 0 c c 30 first (e₂ ∙ ap (laid_inside one 30) e) (omega arith) (omega arith) in
    lay_then room 0 (c ++ c) c 60 second (e₃ ∙ ap (laid_inside two 60) e) (omega arith) (omega arith) ∙ ap (laid room 0) (append_assoc c c c)

-- putting words of a good size that fit: only a word too large refuses
put_answer_is : (size len : ℕ) (ws : List ℕ) → Held size (length ws) len → put_answer size ws len ≡ pick (all_fit size ws) 0 14
put_answer_is size len ws h =
    sym
    (no _ refl (good_size size h.low h.high)
    (no _ refl (ap not (le-leb (length ws * size) (len * 8) h.fits)) (turned (all_fit size ws))))
  where
    good_size : (size : ℕ) → 1 ≤ size → size ≤ 16 → bad_size size ≡ false
    good_size size low high =
        ap₂ (λ (a b : Bool). a || b) (ne_eqb size 0 (λ e. omega arith)) (le-ltb 16 size high)

    turned : (t : Bool) → ◌≡◌ {A = ℕ} (pick t 0 14) (pick (not t) 14 0)
    turned true = refl
    turned false = refl

-- ---- the block in the room

module _ (h ws room : List ℕ) (size bytes : ℕ) (held : Held size (length ws) bytes) (roomy : block_length bytes ≤ length room) where
  abbrev part : List ℕ
  part = take (90 + bytes - 90) (drop 90 room)

  part_long : length part ≡ bytes
  part_long =
      let e : 90 + bytes - 90 ≡ bytes = omega arith in
      length-take-le (90 + bytes - 90) (drop 90 room) (omega (arith, length-drop 90 room)) ∙ e

  answer_is : put_answer size ws (90 + bytes - 90) ≡ pick (all_fit size ws) 0 14
  answer_is =
      let e : 90 + bytes - 90 ≡ bytes = omega arith in
      ap (put_answer size ws) e ∙ put_answer_is size bytes ws held

  field_put_is : field_put size ws part ≡ pick (all_fit size ws) (field_of size bytes ws) part
  field_put_is =
      let e : put_answer size ws (length part) ≡ pick (all_fit size ws) 0 14 = ap (put_answer size ws) part_long ∙ put_answer_is size bytes ws held in
      ap₂ (λ (n k : ℕ). pick (eqb n 0) (field_of size k ws) part) e part_long ∙ by (all_fit size ws)
    where
      by : (t : Bool) → pick (eqb (pick t 0 14) 0) (field_of size bytes ws) part ≡ pick t (field_of size bytes ws) part
      by true = refl
      by false = refl

  -- the room with a field in it
  abbrev filled : List ℕ → List ℕ
  filled field = take 90 room ++ (field ++ drop (90 + bytes) room)

  -- where a word is too large, the part is put back as it was
  kept : filled part ≡ room
  kept =
      let e : 90 + bytes - 90 ≡ bytes = omega arith in
      ap (λ (k : ℕ). take 90 room ++ (take k (drop 90 room) ++ drop (90 + bytes) room)) e
      ∙ ap (λ (t : List ℕ). take 90 room ++ (take bytes (drop 90 room) ++ t)) (sym (drop-drop bytes 90 room))
      ∙ ap (λ (t : List ℕ). take 90 room ++ t) (take-append-drop bytes (drop 90 room)) ∙ take-append-drop 90 room

  abbrev Done : ℕ → List ℕ → Type 0
  Done answer after = (answer ≡ pick (all_fit size ws) 0 14) × (after ≡ pick (all_fit size ws) (block_of h size bytes ws ++ drop (block_length bytes) room) room)

  pub refused : {answer : ℕ} {one : List ℕ} → answer ≡ put_answer size ws (90 + bytes - 90) → (answer ≡ 0 → ⊥) → one ≡ filled (field_put size ws part) → Done answer one
  refused {answer} {one} e no_zero put = by (all_fit size ws) (e ∙ answer_is) (put ∙ ap filled field_put_is)
    where
      by : (t : Bool) → answer ≡ pick t 0 14 → one ≡ filled (pick t (field_of size bytes ws) part)
          → (answer ≡ pick t 0 14) × (one ≡ pick t (block_of h size bytes ws ++ drop (block_length bytes) room) room)
      by true a o = absurd (no_zero a)
      by false a o = (a, o ∙ kept)

  module _ (l : length h ≡ 28) where
    -- the field, the copies in front of it, and its check word behind it
    made : {one two three : List ℕ} → one ≡ filled (field_of size bytes ws) → two ≡ laid one 0 (copies_of h)
        → three ≡ laid two (90 + bytes) (bytes_of (check_word (take (90 + bytes - 90) (drop 90 two))))
        → three ≡ block_of h size bytes ws ++ drop (block_length bytes) room
    unfolding block_of
    made {one} {two} {three} e₁ e₂ e₃ =
        let f = field_of size bytes ws in
        let c = copies_of h in
        let rest = drop (90 + bytes) room in
        let cut : 90 + bytes - 90 ≡ bytes = omega arith in
        let front : length (take 90 room) ≡ 90 = length-take-le 90 room (omega arith) in
        let long : length f ≡ bytes = length_field_of size bytes ws in
        let behind : drop (0 + length c) one ≡ f ++ rest =
        ap₂ drop (zero-add (length c) ∙ copies_long h l) e₁ ∙ drop_at (take 90 room) (f ++ rest) 90 front in
        let two_is : two ≡ c ++ (f ++ rest) = e₂ ∙ ap (λ (t : List ℕ). c ++ t) behind in
        let field : take (90 + bytes - 90) (drop 90 two) ≡ f =
        ap₂ take cut (ap (drop 90) two_is ∙ drop_at c (f ++ rest) 90 (copies_long h l)) ∙ take_at f rest bytes long in
        let both : length (c ++ f) ≡ 90 + bytes = length-append c f ∙ omega (arith, copies_long h l) in
        let two-is' : two ≡ (c ++ f) ++ rest = two_is ∙ sym (append_assoc c f rest) in
        let k = bytes_of (check_word f) in
        e₃
        ∙ ap (λ (m : List ℕ). laid two (90 + bytes) (bytes_of (check_word m))) field
        ∙ ap₂ (λ (x y : List ℕ). x ++ (k ++ y))
        (ap (take (90 + bytes)) two-is' ∙ take_at (c ++ f) rest (90 + bytes) both)
        (sym (drop-drop 2 (90 + bytes) two) ∙ ap (drop 2) (ap (drop (90 + bytes)) two-is' ∙ drop_at (c ++ f) rest (90 + bytes) both) ∙ drop-drop 2 (90 + bytes) room)
        ∙ append_assoc c f (k ++ drop (block_length bytes) room)
        ∙ ap (λ (t : List ℕ). c ++ t) (sym (append_assoc f k (drop (block_length bytes) room)))
        ∙ sym (append_assoc c (f ++ k) (drop (block_length bytes) room))

    pub accepted : {one two three : List ℕ} → 0 ≡ put_answer size ws (90 + bytes - 90) → one ≡ filled (field_put size ws part)
        → two ≡ laid one 0 (copies_of h) → three ≡ laid two (90 + bytes) (bytes_of (check_word (take (90 + bytes - 90) (drop 90 two)))) → Done 0 three
    accepted {one} {two} {three} e put e₂ e₃ = by (all_fit size ws) (e ∙ answer_is) (put ∙ ap filled field_put_is)
      where
        by : (t : Bool) → ◌≡◌ {A = ℕ} 0 (pick t 0 14) → one ≡ filled (pick t (field_of size bytes ws) part)
            → (◌≡◌ {A = ℕ} 0 (pick t 0 14)) × (three ≡ pick t (block_of h size bytes ws ++ drop (block_length bytes) room) room)
        by true a o = (a, made o e₂ e₃)
        by false a o = absurd (let z : ◌≡◌ {A = ℕ} 0 14 = a in omega arith)
