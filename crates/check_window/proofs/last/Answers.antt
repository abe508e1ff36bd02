-- `check_window::last` meets its contract: the words so far as one.
-- Assumes nothing.
use Rattle.std.proofs.Common.{rules}
use native.Mathlib.Omega.{arith}
use lib.ListN.{length}
use mathlib.Core.Path.{◌≡◌, refl, sym, ap, ap₂, ◌∙◌}
use mathlib.Core.List.{List}
use Prim.Native.Nat.{ℕ}
use native.Mathlib.Numerals.{add-one}
use lib.Seq.{take_all}
use Rattle.check_eight.specs.Eight.{joined}
use Rattle.check_window.specs.Turn.{mirrors, horner}
use Rattle.check_window.proofs.LawsTurn.{swapped, word_more}
use Rattle.check_window.proofs.last.Goals as goal

pub loop-word-init : goal.loop-word-init
loop-word-init c = refl

pub loop-word-preserved : goal.loop-word-preserved
loop-word-preserved c =
    let l = c.loop-word in
    let long : length c.args.w ≡ 16 = search rules in
    rw add-one
    (c.word_behind-t.ensures ∙ ap₂ joined l.invariant (c.swap_bytes.ensures ∙ swapped _) ∙ sym (word_more c.args.w l.word-index 0 (omega (arith, long, c.loop-word-test.true))))

pub returns : goal.returns
returns c =
    let l = c.loop-word in
    let long : length c.args.w ≡ 16 = search rules in
    l.invariant ∙ ap (λ (ws : List ℕ). horner 0 (mirrors ws)) (take_all l.word-index c.args.w (omega (arith, long, c.loop-word-test.false)))
