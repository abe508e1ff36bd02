-- `sounder::words::Block::number_at` meets its contract: both words are there, and are bytes.
-- Assumes nothing.
use mathlib.Core.Path.{◌≡◌, ap, ap₂, ◌∙◌}
use Prim.Native.Nat.{ℕ, ◌+◌, ◌-◌, ◌*◌}
use native.Mathlib.Nat.{mod-eq_of_lt}
use native.Mathlib.Omega.{arith}
use lib.ListN.{get_or}
use Rattle.parity.proofs.LawsWords.{right_length, small_words}
use Rattle.sounder.proofs.words.Block.number_at.Goals as goal

pub bounds-self-k : goal.bounds-self-k
bounds-self-k c = omega (arith, right_length c.args.self.words.now c.args.self.plain)

pub bounds-self-k-2 : goal.bounds-self-k-2
bounds-self-k-2 c = omega (arith, right_length c.args.self.words.now c.args.self.plain)

pub returns : goal.returns
returns c =
    let a = c.args in
    let small = small_words a.self.words.now c.args.self.plain in
    let behind : a.k ≡ a.k + 1 - 1 = omega arith in
    ap₂ (λ (x y : ℕ). x * 256 + y) (mod-eq_of_lt (small (a.k - 1))) (mod-eq_of_lt (small a.k) ∙ ap (λ (n : ℕ). get_or a.self.words.now n 0) behind)
