-- `check_word::passes` meets its contract: the last two bytes, high byte first, against the check word of the others.
-- Assumes nothing.
use mathlib.Core.Path.{◌≡◌, sym, ap, ap₂, ◌∙◌}
use mathlib.Core.Bool.{Bool, ◌&&◌}
use mathlib.Core.List.{List}
use Prim.Native.Nat.{ℕ, ◌+◌, ◌-◌, ◌*◌, ◌≤◌}
use native.Mathlib.Nat.{add-zero}
use native.Mathlib.Omega.{arith}
use borrow.Author.Tests.{le-leb, lt-leb}
use lib.Dec.{eqb}
use lib.ListN.{length, take, get_or}
use Rattle.std.proofs.lemmas.List.{get_or-drop}
use Rattle.check_rule.specs.Check.{check_word, passes}
use Rattle.check_word.proofs.passes.Goals as goal

-- the test behind that of the length
abbrev agrees : List ℕ → Bool
agrees s = eqb (check_word (take (length s - 2) s)) (get_or s (length s - 2) 0 * 256 + get_or s (length s - 1) 0)

pub returns-in_default : goal.returns-in_default
unfolding passes
returns-in_default c = let s = c.args.s.now in sym (ap (λ (t : Bool). t && agrees s) (lt-leb 2 (length s) c.in_default.ensures.cases))

pub returns : goal.returns
unfolding passes
returns c =
    let s = c.args.s.now in
    let check = c.in-Some.check.now in
    let n = length s - 2 in
    let parts = c.in-Some.ensures.cases in
    let long : 2 ≤ length s = omega (arith, parts.2) in
    let e : n + 1 ≡ length s - 1 = omega arith in
    let high : get_or check 0 0 ≡ get_or s n 0 =
    ap (λ (l : List ℕ). get_or l 0 0) parts.1 ∙ get_or-drop n s 0 0 ∙ ap (λ (k : ℕ). get_or s k 0) (add-zero n) in
    let low : get_or check 1 0 ≡ get_or s (length s - 1) 0 =
    ap (λ (l : List ℕ). get_or l 1 0) parts.1 ∙ get_or-drop n s 1 0 ∙ ap (λ (k : ℕ). get_or s k 0) e in
    ap₂ eqb (c.check_word.ensures ∙ ap check_word parts.0) (c.from_be_bytes.ensures ∙ (λ i. high i * 256 + low i))
    ∙ sym (ap (λ (t : Bool). t && agrees s) (le-leb 2 (length s) long))
