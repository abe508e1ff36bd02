-- `recording::next_field` meets its contract: its tests are those of `found_at`, with differences where a sum could overflow.
-- Assumes nothing.
use mathlib.Core.Path.{refl, ap}
use Prim.Native.Nat.{◌+◌}
use native.Mathlib.Omega.{arith}
use borrow.Author.Tests.{le-leb, lt-leb, lt-ltb, le-ltb}
use lib.ListN.{length, get_or}
use Rattle.ground.proofs.LawsChoice.{yes, no}
use Rattle.recording.specs.Found.{front_length, length_at, found_at}
use Rattle.recording.specs.declared.Found.TheVariants.{Whole}
use Rattle.recording.proofs.next_field.Goals as goal

pub returns-then-bytes-at : goal.returns-then-bytes-at
unfolding found_at
returns-then-bytes-at c = yes _ refl (le-leb _ _ c.if-bytes-at.true) refl

pub returns-then-left-lt-FRONT : goal.returns-then-left-lt-FRONT
unfolding found_at
returns-then-left-lt-FRONT c =
    let a = c.args in
    no _ refl (lt-leb _ _ c.if-bytes-at.false) (yes _ refl (lt-ltb (length a.bytes.now) (a.at + front_length) (omega arith)) refl)

pub returns-then-left-length : goal.returns-then-left-length
unfolding found_at
returns-then-left-length c =
    let a = c.args in
    let s = a.bytes.now in
    no _ refl (lt-leb _ _ c.if-bytes-at.false)
    (no _ refl (le-ltb (length s) (a.at + front_length) (omega arith))
    (yes _ refl (lt-ltb (length s) (a.at + front_length + length_at s a.at) (omega (arith, c.body_length-length.ensures))) refl))

pub returns : goal.returns
unfolding found_at
returns c =
    let a = c.args in
    let s = a.bytes.now in
    no _ refl (lt-leb _ _ c.if-bytes-at.false)
    (no _ refl (le-ltb (length s) (a.at + front_length) (omega arith))
    (no _ refl (le-ltb (length s) (a.at + front_length + length_at s a.at) (omega (arith, c.body_length-length.ensures))) (ap (Whole (get_or s a.at 0) (a.at + front_length)) c.body_length-length.ensures)))
