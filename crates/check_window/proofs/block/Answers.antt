-- `check_window::block` meets its contract: the words so far, eight bytes apart.
-- Assumes nothing.
use Rattle.std.proofs.Common.{rules}
use mathlib.Core.Path.{◌≡◌, ◌∙◌}
use native.Mathlib.Omega.{arith}
use lib.ListN.{length}
use Rattle.check_window.proofs.LawsTurn.{word_at, words_read}
use Rattle.check_window.proofs.block.Goals as goal

pub returns : goal.returns
returns c =
    let p = c.args.bytes.now in
    let l = c.loop-i in
    let long : length p ≡ 128 = search rules in
    words_read 16 p l.w l.invariant.0
    (λ j lt.
    l.invariant.1 j (omega (arith, lt, c.loop-i-test.false)) ∙ word_at p c.as_chunks.result.0.now j c.as_chunks.ensures.front (omega (arith, long, lt)))
