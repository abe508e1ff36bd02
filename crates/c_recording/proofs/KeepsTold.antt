-- What C is told, case by case: what is found, a number above 255, a text that fits.
-- Assumes nothing.
use Prim.Native.Nat.{ℕ, ◌+◌, min}
use native.Mathlib.Nat.{zero-add}
use native.Mathlib.Omega.{arith}
use mathlib.Core.Path.{◌≡◌, refl, sym, ap}
use mathlib.Core.Bool.{Bool, true, false}
use mathlib.Core.List.{List, ◌++◌}
use lib.Dec.{ltb}
use lib.ListN.{length, drop}
use borrow.Author.Tests.{ltb-true, ltb-false, le-leb, lt-leb}
use Rattle.ground.specs.Choice.{pick}
use Rattle.ground.proofs.LawsChoice.{yes}
use Rattle.recording.specs.Fields.{Field, joined}
use Rattle.recording.specs.Found.{found_at}
use Rattle.recording.proofs.KeepsPromises.{whole, cut}
use Rattle.c_numbers.specs.Numbers.{up_to}
use Rattle.c_recording.specs.Told.{code_of}
use Rattle.c_recording.specs.Promises.{TellsFound, KeepsNumbers, PutsText}

pub tells_found : (before : List Field) → TellsFound before
unfolding found_at
tells_found before = record {
  end = ap code_of (sym (yes _ refl (le-leb (length (joined before)) (length (joined before)) (omega arith)) refl));
  whole = λ f rest. ap code_of (whole (joined before) f rest);
  cut = λ f k some short. ap code_of (cut (joined before) f k some short);
}

in_byte : (n : ℕ) → up_to 255 n ≡ min n 255
unfolding up_to
in_byte n = go (ltb 255 n) refl
  where
    go : (t : Bool) → ltb 255 n ≡ t → pick t 255 n ≡ min n 255
    go true e = omega (arith, ltb-true 255 n e)
    go false e = omega (arith, ltb-false 255 n e)

pub keeps_numbers : KeepsNumbers
keeps_numbers seq block version words answer = λ i. record { seq = seq; answer = in_byte answer i; block = in_byte block i; version = in_byte version i; words = words }

pub puts_text : (room text : List ℕ) → PutsText room text
puts_text room text = record {
  fits = λ h. rw (le-leb (0 + length text) (length room) (omega arith)) (refl, refl, ap (λ (n : ℕ). text ++ drop n room) (zero-add (length text)));
  small = λ h. rw (lt-leb (0 + length text) (length room) (omega arith)) (refl, refl, refl);
}
