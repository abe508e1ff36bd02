-- The state of `put_each`'s loop, and its three turns: a byte is written, a word is taken in, the last byte is filled up with zeros.
-- Assumes nothing.
use mathlib.Core.Path.{◌≡◌, refl, sym, ap, ap₂, ◌∙◌}
use mathlib.Core.List.{List, [], ◌++◌, append_assoc, append-nil}
use Prim.Native.Nat.{ℕ, ◌+◌, ◌-◌, ◌*◌, ◌/◌, ◌%◌, ◌^◌, ◌≤◌, ◌<◌}
use native.Mathlib.Nat.{mod-lt, add-zero, sub-zero, zero-mul, zero-add}
use native.Mathlib.Omega.{arith}
use lib.ListN.{length, get_or, take, drop, set, replicate, length-set, drop_of_length-le, replicate-append-replicate}
use lib.Seq.{take_all}
use lib.Pow.{pow_pos}
use Rattle.bits.specs.Bits.{bits, spell, words, Below}
use Rattle.bits.specs.Fields.{field_of}
use Rattle.bits.proofs.LawsBelow.{below_at}
use Rattle.bits.proofs.LawsBits.{bits_zero}
use Rattle.bits.proofs.LawsWords.{spell_next, spell_nil}
use Rattle.bits.proofs.LawsBits.{intake, intake_lt}
use Rattle.bits.proofs.LawsTurns.{emit, left}

-- the fill that is still to come
abbrev pub tail : (len at have n i size : ℕ) → ℕ
tail len at have n i size = (len - at) * 8 - (have + (n - i) * size)

pub record State (ws : List ℕ) (size : ℕ) (room₀ room : List ℕ) (acc have i at : ℕ) : Type 0 where
  pub done : at ≤ length room₀
  pub taken : i ≤ length ws
  pub short : have < size + 8
  pub small : acc < 2 ^ have
  pub enough : have + (length ws - i) * size ≤ (length room₀ - at) * 8
  pub says : field_of size (length room₀) ws
      ≡ take at room ++ words 8 (length room₀ - at) (bits have acc ++ (spell size (drop i ws) ++ replicate (tail (length room₀) at have (length ws) i size) 0))
  pub long : length room ≡ length room₀

pub start : (ws : List ℕ) (size : ℕ) (room : List ℕ) → length ws * size ≤ length room * 8 → 1 ≤ size → State ws size room room 0 0 0 0
unfolding bits field_of
start ws size room h p = record {
  done = omega arith;
  taken = omega arith;
  short = omega arith;
  small = omega arith;
  enough = simp sub-zero (omega arith);
  says = simp (sub-zero, zero-add);
  long = refl;
}

module _ {ws : List ℕ} {size : ℕ} {room₀ room : List ℕ} {acc have i at : ℕ} (s : State ws size room₀ room acc have i at) (more : at < length room₀) where
  -- the state as it says it, at another way to write what is left
  with_tail : (z : ℕ) → tail (length room₀) at have (length ws) i size ≡ z
      → field_of size (length room₀) ws ≡ take at room ++ words 8 (length room₀ - at) (bits have acc ++ (spell size (drop i ws) ++ replicate z 0))
  with_tail z e = s.says ∙ ap (λ (z : ℕ). take at room ++ words 8 (length room₀ - at) (bits have acc ++ (spell size (drop i ws) ++ replicate z 0))) e

  pub write_turn : 8 ≤ have → State ws size room₀ (set room at (acc / 2 ^ (have - 8))) (acc % 2 ^ (have - 8)) (have - 8) i (at + 1)
  write_turn h = record {
    done = omega arith;
    taken = s.taken;
    short = omega (arith, s.short);
    small = mod-lt acc (pow_pos (have - 8));
    enough = omega (arith, s.enough);
    says =
        emit _ 8 (length room₀) room at acc have _ more (omega (arith, s.long)) h s.small
        (with_tail (tail (length room₀) (at + 1) (have - 8) (length ws) i size) (omega (arith, s.enough)));
    long = length-set room at _ ∙ s.long;
  }

  pub take_turn : Below (2 ^ size) ws → have < 8 → i < length ws → State ws size room₀ room (acc * 2 ^ size + get_or ws i 0) (have + size) (i + 1) at
  take_turn below h l =
      let w : get_or ws i 0 < 2 ^ size = below_at (2 ^ size) ws (pow_pos size) below i in
      let z = tail (length room₀) at (have + size) (length ws) (i + 1) size in
      let e : tail (length room₀) at have (length ws) i size ≡ z = omega (arith, left (length ws) i size l) in record {
        done = s.done;
        taken = omega arith;
        short = omega arith;
        small = intake_lt have size s.small w;
        enough = omega (arith, left (length ws) i size l, s.enough);
        says =
            with_tail z e
            ∙ ap (λ (l : List ℕ). take at room ++ words 8 (length room₀ - at) l)
            (ap (λ (l : List ℕ). bits have acc ++ (l ++ replicate z 0)) (spell_next size ws i l)
            ∙ ap (λ (l : List ℕ). bits have acc ++ l) (append_assoc (bits size (get_or ws i 0)) (spell size (drop (i + 1) ws)) (replicate z 0))
            ∙ intake have size acc (get_or ws i 0) _ w);
        long = s.long;
      }

  pub fill_turn : 1 ≤ size → have < 8 → length ws ≤ i → State ws size room₀ room (acc * 2 ^ (8 - have)) 8 i at
  fill_turn p h l =
      let z = tail (length room₀) at 8 (length ws) i size in
      let none : length ws - i ≡ 0 = omega arith in
      let n : (length ws - i) * size ≡ 0 = ap (λ (m : ℕ). m * size) none ∙ zero-mul size in
      let e : tail (length room₀) at have (length ws) i size ≡ (8 - have) + z = omega (arith, n) in
      let w : have + (8 - have) ≡ 8 = omega arith in
      let o : spell size (drop i ws) ≡ [] = ap (spell size) (drop_of_length-le ws l) ∙ spell_nil size in record {
        done = s.done;
        taken = s.taken;
        short = omega arith;
        small = rw (← add-zero (acc * 2 ^ (8 - have))) (rw w at (intake_lt have (8 - have) s.small (pow_pos (8 - have))));
        enough = omega (arith, n);
        says =
            with_tail ((8 - have) + z) e
            ∙ ap (λ (l : List ℕ). take at room ++ words 8 (length room₀ - at) l)
            (ap (λ (l : List ℕ). bits have acc ++ (l ++ replicate ((8 - have) + z) 0)) o
            ∙ ap (λ (l : List ℕ). bits have acc ++ l)
            (sym (replicate-append-replicate (8 - have) z 0) ∙ ap (λ (l : List ℕ). l ++ replicate z 0) (sym (bits_zero (8 - have))))
            ∙ intake have (8 - have) acc 0 (replicate z 0) (pow_pos (8 - have))
            ∙ ap₂ (λ (x y : ℕ). bits x y ++ replicate z 0) w (add-zero (acc * 2 ^ (8 - have)))
            ∙ ap (λ (l : List ℕ). bits 8 (acc * 2 ^ (8 - have)) ++ (l ++ replicate z 0)) (sym o));
        long = s.long;
      }

-- all bytes are written
pub finish : {ws : List ℕ} {size : ℕ} {room₀ room : List ℕ} {acc have i at : ℕ} → State ws size room₀ room acc have i at
    → length room ≤ at → room ≡ field_of size (length room₀) ws
unfolding words
finish {ws} {size} {room₀} {room} {acc} {have} {i} {at} s h =
    let z : length room₀ - at ≡ 0 = omega (arith, s.long) in
    sym (take_all at room h) ∙ sym (append-nil (take at room))
    ∙ ap (λ (m : ℕ). take at room ++ words 8 m (bits have acc ++ (spell size (drop i ws) ++ replicate (tail (length room₀) at have (length ws) i size) 0))) (sym z)
    ∙ sym s.says
