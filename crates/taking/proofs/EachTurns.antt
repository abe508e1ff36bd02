-- The state of `take_each`'s loop, and its two turns: a byte is read, a word is written. With no bits in hand it is the state of
-- `take_groups`' loop too.
-- Assumes nothing.
use mathlib.Core.Path.{◌≡◌, refl, sym, ap, ap₂, ◌∙◌}
use mathlib.Core.List.{List, ◌++◌, append-nil}
use Prim.Native.Nat.{ℕ, ◌+◌, ◌-◌, ◌*◌, ◌/◌, ◌%◌, ◌^◌, ◌≤◌, ◌<◌}
use native.Mathlib.Nat.{mod-lt, sub-zero}
use native.Mathlib.Omega.{arith}
use lib.ListN.{length, get_or, take, drop, set, length-set, take-append-drop}
use lib.Seq.{drop-set-lt, drop-drop}
use lib.Pow.{pow_pos}
use Rattle.bits.specs.Bits.{bits, spell, words, Below}
use Rattle.bits.specs.Fields.{words_of}
use Rattle.bits.proofs.LawsBelow.{below_at}
use Rattle.bits.proofs.LawsBits.{intake, intake_lt}
use Rattle.bits.proofs.LawsTurns.{emit, left}
use Rattle.bits.proofs.LawsWords.{spell_next}

pub record State (field : List ℕ) (size count : ℕ) (room₀ room : List ℕ) (acc have at i : ℕ) : Type 0 where
  pub done : i ≤ count
  pub read : at ≤ length field
  pub short : have < size + 8
  pub small : acc < 2 ^ have
  pub enough : (count - i) * size ≤ have + (length field - at) * 8
  pub says : words size count (spell 8 field) ≡ take i room ++ words size (count - i) (bits have acc ++ spell 8 (drop at field))
  pub rest : drop i room ≡ drop i room₀
  pub long : length room ≡ length room₀

pub start : (field : List ℕ) (size count : ℕ) (room : List ℕ) → count * size ≤ length field * 8 → 1 ≤ size → State field size count room room 0 0 0 0
unfolding bits
start field size count room h p = record {
  done = omega arith;
  read = omega arith;
  short = omega arith;
  small = omega arith;
  enough = simp sub-zero (omega arith);
  says = simp sub-zero;
  rest = refl;
  long = refl;
}

module _ {field : List ℕ} {size count : ℕ} {room₀ room : List ℕ} {acc have at i : ℕ} (s : State field size count room₀ room acc have at i) (more : i < count) where
  -- where a byte is wanted there is one
  pub within : have < size → at < length field
  within h = omega (arith, left count i size more)

  pub read_turn : Below 256 field → have < size → State field size count room₀ room (acc * 256 + get_or field at 0) (have + 8) (at + 1) i
  read_turn bytes h =
      let b : get_or field at 0 < 2 ^ 8 = below_at 256 field (omega arith) bytes at in record {
        done = s.done;
        read = omega (arith, within h);
        short = omega arith;
        small = intake_lt have 8 s.small b;
        enough = omega (arith, within h, s.enough);
        says =
            s.says
            ∙ ap (λ (l : List ℕ). take i room ++ words size (count - i) l)
            (ap (λ (l : List ℕ). bits have acc ++ l) (spell_next 8 field at (within h))
            ∙ intake have 8 acc (get_or field at 0) (spell 8 (drop (at + 1) field)) b);
        rest = s.rest;
        long = s.long;
      }

  pub write_turn : count ≤ length room₀ → size ≤ have
      → State field size count room₀ (set room i (acc / 2 ^ (have - size))) (acc % 2 ^ (have - size)) (have - size) at (i + 1)
  write_turn fits h = record {
    done = omega arith;
    read = s.read;
    short = omega (arith, s.short);
    small = mod-lt acc (pow_pos (have - size));
    enough = omega (arith, left count i size more, s.enough);
    says = emit _ size count room i acc have _ more (omega (arith, s.long)) h s.small s.says;
    rest = drop-set-lt (i + 1) room i _ (omega arith) ∙ sym (drop-drop 1 i room) ∙ ap (drop 1) s.rest ∙ drop-drop 1 i room₀;
    long = length-set room i _ ∙ s.long;
  }

-- all words are written
pub finish : {field : List ℕ} {size count : ℕ} {room₀ room : List ℕ} {acc have at i : ℕ} → State field size count room₀ room acc have at i
    → count ≤ i → room ≡ words_of size count field ++ drop count room₀
unfolding words_of words
finish {field} {size} {count} {room₀} {room} {acc} {have} {at} {i} s h =
    let e : i ≡ count = omega (arith, s.done) in
    let z : count - i ≡ 0 = omega arith in
    sym (take-append-drop i room)
    ∙ ap₂ (λ (x y : List ℕ). x ++ y)
    (sym (append-nil (take i room)) ∙ ap (λ (m : ℕ). take i room ++ words size m (bits have acc ++ spell 8 (drop at field))) (sym z) ∙ sym s.says)
    (s.rest ∙ ap (λ (m : ℕ). drop m room₀) e)
