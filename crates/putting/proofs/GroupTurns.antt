-- A turn of `put_groups` puts sixteen words into as many bytes as two words have bits, and zeros behind them, which the next one overwrites.
-- At its end `put_plain` is lent what is left.
-- Assumes nothing.
use mathlib.Core.Path.{◌≡◌, refl, sym, ap, ap₂, ◌∙◌, subst}
use mathlib.Core.List.{List, [], ◌++◌, append-nil}
use Prim.Native.Nat.{ℕ, ◌+◌, ◌-◌, ◌*◌, ◌/◌, ◌≤◌}
use native.Mathlib.Nat.{add-mul, zero-mul}
use native.Mathlib.Omega.{arith}
use lib.ListN.{length, take, drop, replicate, length-drop, length-replicate, take-append-drop}
use lib.Seq.{take-add, drop-drop, drop-length, length-take-le}
use borrow.Rule.Slice.PartMut.{put_mid, post_of}
use Rattle.room.specs.Laid.{laid}
use Rattle.room.proofs.LawsLaid.{length_laid, take_front, laid_over}
use Rattle.bits.specs.Bits.{words}
use Rattle.bits.specs.Fields.{field_of}
use Rattle.bits.proofs.LawsElements.{to_end}
use Rattle.bits.proofs.LawsFields.{length_field_of, field_of_longer, field_of_append}
use Rattle.bits.proofs.LawsFitting.{Grouped, sixteen_left, enough_left}

-- four words more behind the n that stand in the room from `at` on, over c bytes that were written too far
pub four_more : (size n b c long at : ℕ) (ws room : List ℕ) {room₁ room₂ eight : List ℕ}
    → n * size ≡ b * 8 → long ≡ b + c → c ≤ 8 → 4 * size ≤ 64 → n + 4 ≤ length ws → at + b ≤ length room
    → room₁ ≡ laid room at (field_of size long (take n ws)) → eight ≡ field_of size 8 (take 4 (drop n ws)) → room₂ ≡ laid room₁ (at + b) eight
    → room₂ ≡ laid room at (field_of size (b + 8) (take (n + 4) ws))
four_more size n b c long at ws room {room₁} {room₂} {eight} e l small most enough inside r w r₂ =
    let first = field_of size b (take n ws) in
    let more = field_of size 8 (take 4 (drop n ws)) in
    let zeros : List ℕ = replicate c 0 in
    let count : length (take n ws) ≡ n = length-take-le n ws (omega arith) in
    let four : length (take 4 (drop n ws)) ≡ 4 = length-take-le 4 (drop n ws) (omega (arith, length-drop n ws)) in
    let bits : length (take n ws) * size ≡ b * 8 = ap (λ (m : ℕ). m * size) count ∙ e in
    let bits' : length (take 4 (drop n ws)) * size ≡ 4 * size = ap (λ (m : ℕ). m * size) four in
    let whole : field_of size long (take n ws) ≡ first ++ zeros = ap (λ (m : ℕ). field_of size m (take n ws)) l ∙ field_of_longer size b c (take n ws) (omega (arith, bits)) in
    let place : at + b ≡ at + length first = ap (λ (m : ℕ). at + m) (sym (length_field_of size b (take n ws))) in
    r₂ ∙ ap₂ (λ (x y : List ℕ). laid x (at + b) y) (r ∙ ap (laid room at) whole) w
    ∙ ap (λ (m : ℕ). laid (laid room at (first ++ zeros)) m more) place
    ∙ laid_over room at first zeros more (omega arith) (omega (arith, length-replicate {A = ℕ} c 0, length_field_of size 8 (take 4 (drop n ws))))
    ∙ ap (laid room at)
    (sym (field_of_append size b 8 (take n ws) (take 4 (drop n ws)) bits (omega (arith, bits'))) ∙ ap (field_of size (b + 8)) (sym (take-add n 4 ws)))

-- ---- the loop

pub record State (ws : List ℕ) (size : ℕ) (room₀ room : List ℕ) (i at : ℕ) : Type 0 where
  pub done : i ≤ length ws
  pub even : i * size ≡ at * 8
  pub says : take at room ≡ field_of size at (take i ws)
  pub long : length room ≡ length room₀

pub start : (ws : List ℕ) (size : ℕ) (room : List ℕ) → State ws size room room 0 0
unfolding field_of words
start ws size room = record {
  done = omega arith;
  even = zero-mul size;
  says = refl;
  long = refl;
}

module _ {ws : List ℕ} {size : ℕ} {room₀ room : List ℕ} {i at : ℕ} (s : State ws size room₀ room i at) (fits : length ws * size ≤ length room₀ * 8) where
  split : length ws * size ≡ i * size + (length ws - i) * size
  split =
      let e : length ws ≡ i + (length ws - i) = omega (arith, s.done) in
      ap (λ (n : ℕ). n * size) e ∙ add-mul i (length ws - i) size

  pub inside : at ≤ length room₀
  inside = omega (arith, split, s.even)

  pub enough : (length ws - i) * size ≤ (length room₀ - at) * 8
  enough = omega (arith, split, s.even)

  taken : length (take i ws) * size ≡ at * 8
  taken = ap (λ (n : ℕ). n * size) (length-take-le i ws s.done) ∙ s.even

  module _ (g : Grouped size) (h : 13 + 56 / size ≤ length ws - i) where
    -- the bytes of a turn are there
    pub within : at + size / 2 * 3 + 8 ≤ length room
    within = omega (arith, inside, s.long, enough_left size (length ws - i) g h (length room₀ - at) enough)

    next : State ws size room₀ (laid room at (field_of size (size / 2 * 3 + 8) (take 16 (drop i ws)))) (i + 16) (at + size * 2)
    next =
        let sixteen = take 16 (drop i ws) in
        let first = field_of size (size * 2) sixteen in
        let c = 8 - size / 2 in
        let zeros : List ℕ = replicate c 0 in
        let left = sixteen_left size (length ws - i) g h in
        let count : length sixteen ≡ 16 = length-take-le 16 (drop i ws) (omega (arith, left, length-drop i ws)) in
        let bits : length sixteen * size ≡ 16 * size = ap (λ (n : ℕ). n * size) count in
        let e : size / 2 * 3 + 8 ≡ size * 2 + c = omega (arith, g.even, g.most) in
        let whole : field_of size (size / 2 * 3 + 8) sixteen ≡ first ++ zeros =
        ap (λ (n : ℕ). field_of size n sixteen) e ∙ field_of_longer size (size * 2) c sixteen (omega (arith, bits)) in
        let here : at ≤ length room = omega (arith, inside, s.long) in
        let place : at + length first ≡ at + size * 2 = ap (λ (n : ℕ). at + n) (length_field_of size (size * 2) sixteen) in record {
          done = omega (arith, left);
          even = add-mul i 16 size ∙ omega (arith, s.even);
          says =
              ap₂ take (sym place) (ap (laid room at) whole)
              ∙ take_front room at first zeros here
              ∙ ap (λ (l : List ℕ). l ++ first) s.says
              ∙ sym (field_of_append size at (size * 2) (take i ws) sixteen taken (omega (arith, bits)))
              ∙ ap (field_of size (at + size * 2)) (sym (take-add i 16 ws));
          long = length_laid room at (field_of size (size / 2 * 3 + 8) sixteen) (omega (arith, within, length_field_of size (size / 2 * 3 + 8) sixteen)) ∙ s.long;
        }

    -- the same, where the room is known to equal that one
    pub turn : {room' : List ℕ} → room' ≡ laid room at (field_of size (size / 2 * 3 + 8) (take 16 (drop i ws))) → State ws size room₀ room' (i + 16) (at + size * 2)
    turn r = subst (λ (l : List ℕ). State ws size room₀ l (i + 16) (at + size * 2)) (sym r) next

  -- the words that are left are put into the room's part from `at` on
  pub ends : (bytes : List ℕ) → bytes ≡ field_of size (length (take (length room - at) (drop at room))) (take (length ws - i) (drop i ws))
      → put_mid at (length room - at) room bytes ≡ field_of size (length room₀) ws
  ends bytes e =
      let last = length room₀ - at in
      let behind : at + (length room - at) ≡ length room = omega (arith, s.long, inside) in
      let all : at + last ≡ length room₀ = omega (arith, inside) in
      let none : post_of at (length room - at) room ≡ [] = drop-drop (length room - at) at room ∙ ap (λ (n : ℕ). drop n room) behind ∙ drop-length room in
      let count : length (take (length room - at) (drop at room)) ≡ last = ap length (to_end at room) ∙ length-drop at room ∙ ap (λ (n : ℕ). n - at) s.long in
      let rest : length (drop i ws) * size ≤ last * 8 = subst (λ (n : ℕ). n * size ≤ last * 8) (sym (length-drop i ws)) enough in
      ap (λ (l : List ℕ). take at room ++ (bytes ++ l)) none
      ∙ ap₂ (λ (x y : List ℕ). x ++ y) s.says (append-nil bytes ∙ e ∙ ap₂ (field_of size) count (to_end i ws))
      ∙ sym (field_of_append size at last (take i ws) (drop i ws) taken rest)
      ∙ ap₂ (field_of size) all (take-append-drop i ws)
