-- The rooms of the program suffice for every input that it takes, and what is salvaged lies in them.
-- Assumes nothing.
use mathlib.Core.Path.{◌≡◌, refl, sym, ap, subst}
use mathlib.Core.Bool.{Bool, true, false, ◌||◌}
use mathlib.Core.List.{List}
use Rattle.std.specs.Prelude.{Result, Ok, Err, IfOk}
use mathlib.Core.Logic.{◌⊎◌, inl, inr}
use Prim.Native.Nat.{ℕ, ◌*◌, ◌≤◌}
use native.Mathlib.Omega.{arith}
use borrow.Author.Tests.{le-ltb}
use lib.Dec.{eqb}
use lib.ListN.{length, drop, length-append}
use Rattle.ground.specs.Choice.{pick}
use Rattle.ground.specs.declared.Refusal.{Refusal}
use Rattle.ground.specs.Refusals.{number_in}
use Rattle.ground.proofs.LawsTests.{never}
use Rattle.row.specs.Promises.{most_words}
use Rattle.salvaging.specs.declared.Salvaged.{Salvaged}
use Rattle.salvaging.specs.Pieces.{pieces_of, recording_of, report_of}
use Rattle.salvaging.specs.Answers.{SalvageAnswer, told, bytes_for, numbers_for, small_rooms, no_block, refusal_of, refused_salvaged, done_salvaged, salvaged_of, ahead, recording_after, report_after}
use Rattle.salvaging.proofs.KeepsSearch.{room_suffices}

rooms : (n m r w : ℕ) → n ≤ 65000 → bytes_for 65000 ≤ m → numbers_for 65000 ≤ r → most_words ≤ w → small_rooms n m r w ≡ false
rooms n m r w short bytes numbers words =
    let a = le-ltb m (bytes_for n) (omega arith) in
    let b = le-ltb r (numbers_for n) (omega arith) in
    let d = le-ltb w most_words words in
    λ i. (a i || b i) || d i

-- there is a block, or there is none
one_of_two : (input : List ℕ) (m r w : ℕ) → length input ≤ 65000 → bytes_for 65000 ≤ m → numbers_for 65000 ≤ r → most_words ≤ w
    → ((salvaged_of input m r w).number ≡ 0) ⊎ ((salvaged_of input m r w).number ≡ 18)
unfolding salvaged_of refusal_of
one_of_two input m r w short bytes numbers words =
    by (small_rooms (length input) m r w) (no_block input) (rooms (length input) m r w short bytes numbers words)
  where
    by : (s t : Bool) → s ≡ false
        → ((pick (eqb (pick s 9 (pick t 18 0)) 0) (done_salvaged input) (refused_salvaged (pick s 9 (pick t 18 0)))).number ≡ 0)
        ⊎ ((pick (eqb (pick s 9 (pick t 18 0)) 0) (done_salvaged input) (refused_salvaged (pick s 9 (pick t 18 0)))).number ≡ 18)
    by true t e = never (sym e)
    by false true e = inr refl
    by false false e = inl refl

-- the bytes of the recording lie in its room
bytes_in : (input recording : List ℕ) (r w : ℕ) → (salvaged_of input (length recording) r w).bytes ≤ length (recording_after input recording r w)
unfolding salvaged_of recording_after
bytes_in input recording r w = by (eqb (refusal_of input (length recording) r w) 0)
  where
    by : (t : Bool) → (pick t (done_salvaged input) (refused_salvaged (refusal_of input (length recording) r w))).bytes
        ≤ length (pick t (ahead (recording_of input (pieces_of input)) recording) recording)
    by true = omega (arith, length-append (recording_of input (pieces_of input)) (drop (length (recording_of input (pieces_of input))) recording))
    by false = omega arith

-- and those of the entries in theirs
entries_in : (input : List ℕ) (m : ℕ) (report : List ℕ) (w : ℕ) → (salvaged_of input m (length report) w).entries * 3 ≤ length (report_after input m report w)
unfolding salvaged_of report_after
entries_in input m report w = by (eqb (refusal_of input m (length report) w) 0)
  where
    by : (t : Bool) → (pick t (done_salvaged input) (refused_salvaged (refusal_of input m (length report) w))).entries * 3
        ≤ length (pick t (ahead (report_of input (pieces_of input)) report) report)
    by true = omega (arith, room_suffices.numbers input, length-append (report_of input (pieces_of input)) (drop (length (report_of input (pieces_of input))) report))
    by false = omega arith

-- what the program asks of a salvage
pub in_rooms : (input recording report : List ℕ) (w : ℕ) (made : Result Salvaged Refusal) {recording' report' : List ℕ}
    → length input ≤ 65000 → bytes_for 65000 ≤ length recording → numbers_for 65000 ≤ length report → most_words ≤ w
    → told made ≡ salvaged_of input (length recording) (length report) w
    → recording' ≡ recording_after input recording (length report) w
    → report' ≡ report_after input (length recording) report w
    → ((number_in made ≡ 0) ⊎ (number_in made ≡ 18)) × (IfOk made (λ s. s.bytes ≤ length recording') × IfOk made (λ s. s.entries * 3 ≤ length report'))
in_rooms input recording report w made {recording'} {report'} short bytes numbers words e f g = by made e
  where
    by : (made : Result Salvaged Refusal) → told made ≡ salvaged_of input (length recording) (length report) w
        → ((number_in made ≡ 0) ⊎ (number_in made ≡ 18)) × (IfOk made (λ s. s.bytes ≤ length recording') × IfOk made (λ s. s.entries * 3 ≤ length report'))
    by (Ok s) e = (
      inl refl,
      (
        omega (arith, ap (λ (a : SalvageAnswer). a.bytes) e, ap length f, bytes_in input recording (length report) w),
        omega (arith, ap (λ (a : SalvageAnswer). a.entries) e, ap length g, entries_in input (length recording) report w),
      ),
    )
    by (Err r) e = (subst (λ (a : SalvageAnswer). (a.number ≡ 0) ⊎ (a.number ≡ 18)) (sym e) (one_of_two input (length recording) (length report) w short bytes numbers words), (tt, tt))
