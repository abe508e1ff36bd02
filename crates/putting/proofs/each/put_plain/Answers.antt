-- `putting::each::put_plain` meets its contract: the words in the bytes that they need and a few more, and zeros behind these.
-- Assumes nothing.
use mathlib.Core.Path.{◌≡◌, sym, ap, ap₂, ◌∙◌, subst}
use mathlib.Core.List.{List, ◌++◌}
use Prim.Native.Nat.{ℕ, ◌+◌, ◌-◌, ◌*◌, ◌/◌, ◌%◌, ◌≤◌}
use native.Mathlib.Omega.{arith}
use lib.ListN.{length, take, drop, replicate}
use lib.Seq.{take_at, drop_at, length-take-le}
use Rattle.bits.specs.Fields.{field_of}
use Rattle.bits.proofs.LawsFields.{field_of_longer}
use Rattle.bits.proofs.LawsFitting.{end_fits, end_enough, rest_short}
use Rattle.putting.proofs.each.put_plain.Goals as goal

-- the bytes that n words need, and where zeros begin that are cleared many at a time
end : ℕ → ℕ → ℕ
end n size = n / 8 * size + (n % 8 * size + 7) / 8

from : ℕ → ℕ → ℕ → ℕ
from n size len = end n size + (len - end n size - 1) % 15

module _ (n size len : ℕ) (most : size ≤ 16) (fits : n * size ≤ len * 8) where
  inside : end n size ≤ len
  unfolding end
  inside = end_fits n size len fits

  short : n % 8 * size ≤ 7 * 255
  short = rest_short n size 0 (omega arith)

  enough : n * size ≤ from n size len * 8
  unfolding end from
  enough = omega (arith, end_enough n size 0)

  at_most : (len - end n size ≡ 0 → ⊥) → from n size len ≤ len
  unfolding end from
  at_most h = omega (arith, inside)

pub overflow_mul-end : goal.overflow_mul-end
unfolding end
overflow_mul-end c =
    omega (arith, inside (length c.args.fitting.words.now) c.args.fitting.size (length c.args.field.now) c.args.fitting.le_size.1 c.requires.size_in_bounds)

pub overflow_mul-end-2 : goal.overflow_mul-end-2
overflow_mul-end-2 c =
    omega (arith, short (length c.args.fitting.words.now) c.args.fitting.size (length c.args.field.now) c.args.fitting.le_size.1 c.requires.size_in_bounds)

pub overflow_add-end : goal.overflow_add-end
overflow_add-end c =
    omega (arith, short (length c.args.fitting.words.now) c.args.fitting.size (length c.args.field.now) c.args.fitting.le_size.1 c.requires.size_in_bounds)

pub overflow_add-end-2 : goal.overflow_add-end-2
unfolding end
overflow_add-end-2 c =
    omega (arith, inside (length c.args.fitting.words.now) c.args.fitting.size (length c.args.field.now) c.args.fitting.le_size.1 c.requires.size_in_bounds)

pub overflow_sub-behind : goal.overflow_sub-behind
unfolding end
overflow_sub-behind c =
    inside (length c.args.fitting.words.now) c.args.fitting.size (length c.args.field.now) c.args.fitting.le_size.1 c.requires.size_in_bounds

-- the front of the field when it is cleared
module _ (at : ℕ) (field cleared : List ℕ) (fits : at ≤ length field)
    (says : cleared ≡ take at field ++ replicate (length field - at) 0) where
  front : length (take at cleared) ≡ at
  front =
      ap (λ (l : List ℕ). length (take at l)) says ∙ ap length (take_at (take at field) _ at (length-take-le at field fits))
      ∙ length-take-le at field fits

  behind : drop at cleared ≡ replicate (length field - at) 0
  behind = ap (drop at) says ∙ drop_at (take at field) _ at (length-take-le at field fits)

  both : (size : ℕ) (ws bytes : List ℕ) → length ws * size ≤ at * 8 → bytes ≡ field_of size (length (take at cleared)) ws
      → bytes ++ drop at cleared ≡ field_of size (length field) ws
  both size ws bytes h e =
      let all : at + (length field - at) ≡ length field = omega arith in
      ap₂ (λ (x y : List ℕ). x ++ y) (e ∙ ap (λ (m : ℕ). field_of size m ws) front) behind
      ∙ sym (field_of_longer size at (length field - at) ws h) ∙ ap (λ (m : ℕ). field_of size m ws) all

pub slice_bounds-put_each-end-2 : goal.slice_bounds-put_each-end-2
unfolding end from
slice_bounds-put_each-end-2 c =
    let n = length c.args.fitting.words.now in
    let size = c.args.fitting.size in
    let field = c.args.field.now in
    let fits = at_most n size (length field) c.args.fitting.le_size.1 c.requires.size_in_bounds c.if-behind-eq0.false in
    sym (front (from n size (length field)) field _ fits c.clear.ensures)

pub put_each-requires-2 : goal.put_each-requires-2
unfolding end from
put_each-requires-2 c =
    let n = length c.args.fitting.words.now in
    let size = c.args.fitting.size in
    let field = c.args.field.now in
    let fits = at_most n size (length field) c.args.fitting.le_size.1 c.requires.size_in_bounds c.if-behind-eq0.false in
    record {
      size_in_bounds =
          subst (λ (m : ℕ). n * size ≤ m * 8) (sym (front (from n size (length field)) field _ fits c.clear.ensures))
          (enough n size (length field) c.args.fitting.le_size.1 c.requires.size_in_bounds);
    }

pub returns : goal.returns
unfolding end from
returns c =
    let n = length c.args.fitting.words.now in
    let size = c.args.fitting.size in
    let field = c.args.field.now in
    let fits = at_most n size (length field) c.args.fitting.le_size.1 c.requires.size_in_bounds c.if-behind-eq0.false in
    both (from n size (length field)) field _ fits c.clear.ensures size c.args.fitting.words.now _
    (enough n size (length field) c.args.fitting.le_size.1 c.requires.size_in_bounds) c.put_each-2.ensures
