-- A turn of `take_groups` takes sixteen words from as many bytes as two words have bits, and keeps the state of `take_each`'s loop, with no
-- bits in hand. At its end `take_each` is lent what is left.
-- Assumes nothing.
use mathlib.Core.Path.{◌≡◌, sym, ap, ap₂, ◌∙◌, subst}
use mathlib.Core.List.{List, [], ◌++◌, append_assoc, append-nil}
use Prim.Native.Nat.{ℕ, ◌+◌, ◌-◌, ◌*◌, ◌/◌, ◌≤◌}
use native.Mathlib.Omega.{arith}
use lib.ListN.{length, take, drop}
use lib.Seq.{drop-drop, drop-length}
use borrow.Rule.Slice.PartMut.{put_mid, post_of}
use Rattle.room.specs.Laid.{laid}
use Rattle.room.proofs.LawsLaid.{length_laid, take_laid, drop_laid, laid_then}
use Rattle.bits.specs.Bits.{bits, words, sent}
use Rattle.bits.specs.Fields.{words_of}
use Rattle.bits.proofs.LawsElements.{to_end}
use Rattle.bits.proofs.LawsFitting.{Grouped, sixteen_left, enough_left, sixteen_fewer}
use Rattle.bits.proofs.LawsGroups.{words_bytes}
use Rattle.bits.proofs.LawsWords.{length_words}
use Rattle.taking.proofs.EachTurns.{State}

-- four words more behind the n that stand in the room from i on
pub four_more : (size n bytes at i : ℕ) (field room : List ℕ) {ws room₁ room₂ : List ℕ} → n * size ≡ bytes * 8 → i ≤ length room
    → room₁ ≡ laid room i (words size n (sent (drop at field))) → ws ≡ words size 4 (sent (drop (at + bytes) field)) → room₂ ≡ laid room₁ (i + n) ws
    → room₂ ≡ laid room i (words size (n + 4) (sent (drop at field)))
four_more size n bytes at i field room {ws} {room₁} {room₂} e h r w r₂ =
    let first = words size n (sent (drop at field)) in
    let more = words size 4 (sent (drop (at + bytes) field)) in
    laid_then room i first more (i + n) r (r₂ ∙ ap (laid room₁ (i + n)) w) (ap (λ (m : ℕ). i + m) (sym (length_words size n (sent (drop at field))))) h
    ∙ ap (laid room i)
    (ap (λ (l : List ℕ). first ++ words size 4 (sent l)) (sym (drop-drop bytes at field)) ∙ sym (words_bytes size n bytes 4 (drop at field) e))

-- ---- the loop

module _ {field : List ℕ} {size count : ℕ} {room₀ room : List ℕ} {at i : ℕ} (s : State field size count room₀ room 0 0 at i) where
  -- the bytes of a turn are there
  pub within : Grouped size → 13 + 56 / size ≤ count - i → at + size / 2 * 3 + 8 ≤ length field
  within g h = omega (arith, s.read, enough_left size (count - i) g h (length field - at) (omega (arith, s.enough)))

  module _ (g : Grouped size) (h : 13 + 56 / size ≤ count - i) (fits : count ≤ length room₀) where
    next : State field size count room₀ (laid room i (words size 16 (sent (drop at field)))) 0 0 (at + size * 2) (i + 16)
    unfolding bits
    next =
        let ws = words size 16 (sent (drop at field)) in
        let later = words size (count - (i + 16)) (sent (drop (at + size * 2) field)) in
        let j : i + length ws ≡ i + 16 = ap (λ (n : ℕ). i + n) (length_words size 16 (sent (drop at field))) in
        let inside : i ≤ length room = omega (arith, s.long) in
        let sixteen = sixteen_left size (count - i) g h in
        let m : count - i ≡ 16 + (count - (i + 16)) = omega arith in
        let fewer = sixteen_fewer count i size (omega arith) in record {
          done = omega arith;
          read = omega (arith, within g h, g.even, g.most);
          short = s.short;
          small = s.small;
          enough = omega (arith, s.enough, fewer);
          says =
              s.says
              ∙ ap (λ (n : ℕ). take i room ++ words size n (sent (drop at field))) m
              ∙ ap (λ (l : List ℕ). take i room ++ l)
              (words_bytes size 16 (size * 2) (count - (i + 16)) (drop at field) (omega arith)
              ∙ ap (λ (l : List ℕ). ws ++ words size (count - (i + 16)) (sent l)) (drop-drop (size * 2) at field))
              ∙ sym (append_assoc (take i room) ws later)
              ∙ ap (λ (l : List ℕ). l ++ later) (sym (take_laid room i ws inside) ∙ ap (λ (n : ℕ). take n (laid room i ws)) j);
          rest =
              ap (λ (n : ℕ). drop n (laid room i ws)) (sym j) ∙ drop_laid room i ws inside ∙ ap (λ (n : ℕ). drop n room) j
              ∙ sym (drop-drop 16 i room) ∙ ap (drop 16) s.rest ∙ drop-drop 16 i room₀;
          long = length_laid room i ws (omega (arith, s.long, j)) ∙ s.long;
        }

    -- the same, where the room is known to equal that one
    pub turn : {room' : List ℕ} → room' ≡ laid room i (words size 16 (sent (drop at field))) → State field size count room₀ room' 0 0 (at + size * 2) (i + 16)
    turn r = subst (λ (l : List ℕ). State field size count room₀ l 0 0 (at + size * 2) (i + 16)) (sym r) next

  -- the words that are left stand in the room's part from i on
  pub ends : (ws : List ℕ) → count ≤ length room₀
      → ws ≡ words_of size (count - i) (take (length field - at) (drop at field)) ++ drop (count - i) (take (length room - i) (drop i room))
      → put_mid i (length room - i) room ws ≡ words_of size count field ++ drop count room₀
  unfolding words_of bits
  ends ws fits e =
      let behind : i + (length room - i) ≡ length room = omega (arith, s.long, s.done) in
      let all : i + (count - i) ≡ count = omega (arith, s.done) in
      let none : post_of i (length room - i) room ≡ [] = drop-drop (length room - i) i room ∙ ap (λ (n : ℕ). drop n room) behind ∙ drop-length room in
      let left = words size (count - i) (sent (drop at field)) in
      let ws' : ws ≡ left ++ drop count room₀ =
      e
      ∙ ap₂ (λ (x y : List ℕ). words size (count - i) (sent x) ++ drop (count - i) y) (to_end at field) (to_end i room)
      ∙ ap (λ (l : List ℕ). left ++ l) (ap (drop (count - i)) s.rest ∙ drop-drop (count - i) i room₀ ∙ ap (λ (n : ℕ). drop n room₀) all) in
      ap (λ (l : List ℕ). take i room ++ (ws ++ l)) none
      ∙ ap (λ (l : List ℕ). take i room ++ l) (append-nil ws ∙ ws')
      ∙ sym (append_assoc (take i room) left (drop count room₀))
      ∙ ap (λ (l : List ℕ). l ++ drop count room₀) (sym s.says)
