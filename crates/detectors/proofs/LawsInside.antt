-- A channel and a detector that there are: what the test of them says.
-- Assumes nothing.
use mathlib.Core.Path.{◌≡◌}
use mathlib.Core.Bool.{true}
use Prim.Native.Nat.{ℕ, ◌≤◌}
use lib.Dec.{leb}
use borrow.Author.Tests.{leb-true}
use Rattle.ground.proofs.LawsTests.{split}
use Rattle.detectors.specs.Status.{inside}

pub within : (channel detector : ℕ) → inside channel detector ≡ true → (1 ≤ channel) × (channel ≤ 19) × (1 ≤ detector) × (detector ≤ 4)
within channel detector h =
    let p = split (leb 1 channel) _ h in
    let q = split (leb channel 19) _ p.1 in
    let r = split (leb 1 detector) (leb detector 4) q.1 in
    (leb-true 1 channel p.0, leb-true channel 19 q.0, leb-true 1 detector r.0, leb-true detector 4 r.1)
