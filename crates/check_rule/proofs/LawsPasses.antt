-- The test `passes` says exactly whether a string of bytes is a message followed by its check word.
-- Assumes nothing.
use mathlib.Core.Path.{◌≡◌, refl, sym, ap, ap₂, ◌∙◌, subst}
use mathlib.Core.Bool.{Bool, true, false, ◌&&◌}
use mathlib.Core.List.{List, [], ◌∷◌, ◌++◌}
use Prim.Native.Nat.{ℕ, suc, ◌+◌, ◌-◌, ◌*◌, ◌/◌, ◌%◌, ◌<◌, ◌≤◌}
use native.Mathlib.Nat.{div-add-mod'}
use native.Mathlib.Omega.{arith}
use borrow.Author.Tests.{le-leb, leb-true, eq-eqb, eqb-true}
use lib.Dec.{eqb, leb}
use lib.Arith.{digits_div, digits_mod}
use lib.ListN.{length, take, drop, get_or, length-append, take-append-drop, drop_of_length-le}
use lib.Seq.{take_at, drop-cons, get_or-append-add}
use Rattle.bits.specs.Bits.{Below}
use Rattle.bits.proofs.LawsBelow.{below_at}
use Rattle.check_rule.specs.Check.{check_word, generator, bytes_of, passes}
use Rattle.check_rule.specs.Finds.{Passes}

and_both : (a b : Bool) → a && b ≡ true → (a ≡ true) × (b ≡ true)
and_both true b h = (refl, h)
and_both false b h = (h, let z : false ≡ true = h in cc)

-- the last two of a list
last_two : (s : List ℕ) → 2 ≤ length s → drop (length s - 2) s ≡ get_or s (length s - 2) 0 ∷ get_or s (length s - 1) 0 ∷ []
last_two s h =
    let k = length s - 2 in
    let e : suc k ≡ length s - 1 = omega arith in
    let f : suc (length s - 1) ≡ length s = omega arith in
    drop-cons s k 0 (omega arith)
    ∙ ap (λ (n : ℕ). get_or s k 0 ∷ drop n s) e
    ∙ ap (λ (l : List ℕ). get_or s k 0 ∷ l) (drop-cons s (length s - 1) 0 (omega arith) ∙ ap (λ (n : ℕ). get_or s (length s - 1) 0 ∷ drop n s) f)
    ∙ ap (λ (l : List ℕ). get_or s k 0 ∷ get_or s (length s - 1) 0 ∷ l) (drop_of_length-le s {i = length s} (omega arith))

pub passes_true : (s : List ℕ) → Below 256 s → passes s ≡ true → Passes generator s
unfolding passes
passes_true s h p =
    let m = take (length s - 2) s in
    let hi = get_or s (length s - 2) 0 in
    let lo = get_or s (length s - 1) 0 in
    let tests = and_both (leb 2 (length s)) (eqb (check_word m) (hi * 256 + lo)) p in
    let small : lo < 256 = below_at 256 s (omega arith) h (length s - 1) in
    let check : check_word m ≡ hi * 256 + lo = eqb-true _ _ tests.1 in
    let bytes : bytes_of (check_word m) ≡ hi ∷ lo ∷ [] =
    ap bytes_of check ∙ ap₂ (λ (a b : ℕ). a ∷ b ∷ []) (digits_div hi small) (digits_mod hi small) in
    record {
      message = m;
      followed =
          sym (take-append-drop (length s - 2) s)
          ∙ ap (λ (l : List ℕ). m ++ l) (last_two s (leb-true 2 (length s) tests.0) ∙ sym bytes);
    }

own : (m : List ℕ) → passes (m ++ bytes_of (check_word m)) ≡ true
unfolding passes
own m =
    let w = check_word m in
    let s = m ++ bytes_of w in
    let long : length s ≡ length m + 2 = length-append m (bytes_of w) in
    let at : length s - 2 ≡ length m + 0 = omega arith in
    let next : length s - 1 ≡ length m + 1 = omega arith in
    let front : take (length s - 2) s ≡ m = take_at m (bytes_of w) (length s - 2) (omega arith) in
    let hi : get_or s (length s - 2) 0 ≡ w / 256 = ap (λ (n : ℕ). get_or s n 0) at ∙ get_or-append-add m (bytes_of w) 0 0 in
    let lo : get_or s (length s - 1) 0 ≡ w % 256 = ap (λ (n : ℕ). get_or s n 0) next ∙ get_or-append-add m (bytes_of w) 1 0 in
    ap₂ (λ (a b : Bool). a && b) (le-leb 2 (length s) (omega arith))
    (eq-eqb (check_word (take (length s - 2) s)) (get_or s (length s - 2) 0 * 256 + get_or s (length s - 1) 0)
    (ap check_word front ∙ sym (div-add-mod' w 256) ∙ ap₂ (λ (a b : ℕ). a * 256 + b) (sym hi) (sym lo)))

pub true_passes : (s : List ℕ) → Passes generator s → passes s ≡ true
true_passes s p = subst (λ (l : List ℕ). passes l ≡ true) (sym p.followed) (own p.message)
