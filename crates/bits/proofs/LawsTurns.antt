-- Bits come into an accumulator at its low end and go out as words at its high end: what a turn that takes words and one that puts bytes
-- have in common.
-- Assumes nothing.
use mathlib.Core.Path.{◌≡◌, sym, ap, ap₂, ◌∙◌, subst}
use mathlib.Core.List.{List, ◌++◌}
use Prim.Native.Nat.{ℕ, suc, ◌+◌, ◌-◌, ◌*◌, ◌/◌, ◌%◌, ◌^◌, ◌≤◌, ◌<◌}
use native.Mathlib.Nat.{one-mul, suc-mul}
use native.Mathlib.Numerals.{add-one}
use native.Mathlib.Omega.{arith}
use lib.ListN.{length, take, set}
use lib.Seq.{take-suc-set, append_snoc}
use lib.Pow.{shr_lt, shl_exact}
use Rattle.bits.specs.Bits.{bits, words}
use Rattle.bits.proofs.LawsWords.{words_top}

-- `1 << h` in a number of w bits
pub one_shl : (w h : ℕ) → h < w → 1 * 2 ^ h % 2 ^ w ≡ 2 ^ h
one_shl w h l = shl_exact 1 h w (omega arith) (omega arith) ∙ one-mul (2 ^ h)

-- the first `size` of `have` bits
pub top_lt : (size have acc : ℕ) → size ≤ have → acc < 2 ^ have → acc / 2 ^ (have - size) < 2 ^ size
top_lt size have acc h l =
    let e : have ≡ size + (have - size) = omega arith in
    shr_lt size (have - size) (subst (λ (m : ℕ). acc < 2 ^ m) e l)

-- a word is stored at i: one word more stands in the room, and one fewer is to come
pub emit : (whole : List ℕ) (size n : ℕ) (room : List ℕ) (i acc have : ℕ) (rest : List ℕ)
    → i < n → i < length room → size ≤ have → acc < 2 ^ have
    → whole ≡ take i room ++ words size (n - i) (bits have acc ++ rest)
    → whole ≡ take (i + 1) (set room i (acc / 2 ^ (have - size))) ++ words size (n - (i + 1)) (bits (have - size) (acc % 2 ^ (have - size)) ++ rest)
emit whole size n room i acc have rest more l h small says =
    let v = acc / 2 ^ (have - size) in
    let rest' = words size (n - (i + 1)) (bits (have - size) (acc % 2 ^ (have - size)) ++ rest) in
    let e : have ≡ size + (have - size) = omega arith in
    let m : n - i ≡ suc (n - (i + 1)) = omega arith in
    says
    ∙ ap₂ (λ (x y : ℕ). take i room ++ words size x (bits y acc ++ rest)) m e
    ∙ ap (λ (x : List ℕ). take i room ++ x) (words_top size (have - size) (n - (i + 1)) acc rest (subst (λ (m : ℕ). acc < 2 ^ m) e small))
    ∙ sym (append_snoc (take i room) v rest')
    ∙ ap (λ (x : List ℕ). x ++ rest') (sym (take-suc-set room i v l) ∙ ap (λ (x : ℕ). take x (set room i v)) (sym (add-one i)))

-- one word fewer is left
pub left : (n i size : ℕ) → i < n → (n - i) * size ≡ (n - (i + 1)) * size + size
left n i size h =
    let e : n - i ≡ suc (n - (i + 1)) = omega arith in
    ap (λ (x : ℕ). x * size) e ∙ suc-mul (n - (i + 1)) size
