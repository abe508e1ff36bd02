-- `sounder::words::lowered` meets its contract: each word is a byte.
-- Assumes nothing.
use mathlib.Core.Path.{sym, ◌∙◌}
use Prim.Native.Nat.{◌%◌}
use native.Mathlib.Nat.{mod-eq_of_lt}
use native.Mathlib.Omega.{arith}
use lib.ListN.{get_or}
use Rattle.std.proofs.Common.{rules}
use Rattle.std.proofs.lemmas.Grind.{same_number_lists}
use Rattle.sounder.proofs.LawsMade.{made_at}
use Rattle.sounder.proofs.words.lowered.Goals as goal

pub returns : goal.returns
returns g c =
    let words = c.args.words.now in
    let made = c.from_fn.ensures.items in
    same_number_lists c.from_fn.result words (made.long ∙ sym c.requires.0)
    (λ k h. made_at _ (λ n. n) (λ i. get_or words i 0 % 256) _ g.row.N (λ i y q b called. search rules) c.from_fn.result 0 made k (omega (arith, h, made.long)) ∙ mod-eq_of_lt (c.requires.1 k))
