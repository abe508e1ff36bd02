-- `spacelook::pair_at` meets its contract: both words are there, and are bytes.
-- Assumes nothing.
use mathlib.Core.Path.{◌≡◌, ap}
use Prim.Native.Nat.{ℕ, ◌+◌, ◌-◌, ◌*◌}
use native.Mathlib.Omega.{arith}
use lib.ListN.{get_or}
use Rattle.parity.proofs.LawsWords.{right_length, small_words}
use Rattle.spacelook.proofs.pair_at.Goals as goal

pub bounds-words-k : goal.bounds-words-k
bounds-words-k c = omega (arith, right_length c.args.words.now c.requires.0)

pub overflow_cast-result : goal.overflow_cast-result
overflow_cast-result c = omega (arith, small_words c.args.words.now c.requires.0 (c.args.k - 1))

pub overflow_mul-result : goal.overflow_mul-result
overflow_mul-result c = omega (arith, small_words c.args.words.now c.requires.0 (c.args.k - 1))

pub bounds-words-k-2 : goal.bounds-words-k-2
bounds-words-k-2 c = omega (arith, right_length c.args.words.now c.requires.0)

pub overflow_cast-result-2 : goal.overflow_cast-result-2
overflow_cast-result-2 c = omega (arith, small_words c.args.words.now c.requires.0 c.args.k)

pub overflow_add-result : goal.overflow_add-result
overflow_add-result c =
    let small = small_words c.args.words.now c.requires.0 in
    omega (arith, small (c.args.k - 1), small c.args.k)

pub returns : goal.returns
returns c =
    let a = c.args in
    let small = small_words a.words.now c.requires.0 in
    let behind : a.k ≡ a.k + 1 - 1 = omega arith in (
      ap (λ (n : ℕ). get_or a.words.now (a.k - 1) 0 * 256 + get_or a.words.now n 0) behind,
      omega (arith, small (a.k - 1), small a.k),
    )
