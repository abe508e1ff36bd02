-- `putting::fitting::all_fit` meets its contract: the bits of the words joined have the size where each word has.
-- Assumes nothing.
use mathlib.Core.Bool.{Bool, ◌&&◌}
use mathlib.Core.Path.{◌∙◌, ap}
use Prim.Native.Nat.{ℕ, ◌^◌}
use native.Mathlib.Omega.{arith}
use borrow.Author.Tests.{lt-ltb}
use lib.Dec.{ltb}
use lib.Pow.{pow_pos}
use Rattle.bits.specs.Fields.{all_fit}
use Rattle.bits.proofs.LawsFill.{fit_joined}
use Rattle.bits.proofs.LawsTurns.{one_shl}
use Rattle.putting.proofs.fitting.all_fit.Goals as goal

pub returns : goal.returns
returns c =
    let a = c.args in
    rw (one_shl 32 a.size (omega arith))
    (ap (λ (n : ℕ). ltb n (2 ^ a.size)) (c.from.ensures ∙ c.joined.ensures) ∙ fit_joined a.size 0 a.words.now
    ∙ ap (λ (t : Bool). t && all_fit a.size a.words.now) (lt-ltb 0 (2 ^ a.size) (pow_pos a.size)))
