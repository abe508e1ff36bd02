-- `sounder::frame::frame_of` meets its contract: each field is its range's.
-- Assumes nothing.
use native.Mathlib.Omega.{arith}
use lib.ListN.{get_or}
use Rattle.std.proofs.Common.{rules}
use Rattle.std.proofs.lemmas.Grind.{same_number_lists}
use Rattle.sounder.specs.Frame.{frame_of}
use Rattle.sounder.proofs.LawsMade.{made_at}
use Rattle.sounder.proofs.frame.frame_of.Goals as goal

pub returns : goal.returns
returns c =
    let frame = frame_of c.args.block.words.now in
    let made = c.from_fn.ensures.items in
    same_number_lists c.from_fn.result frame made.long
    (λ k h. made_at _ (λ n. n) (λ i. get_or frame i 0) _ 7 (λ i y q b called. search rules) c.from_fn.result 0 made k (omega (arith, h, made.long)))
