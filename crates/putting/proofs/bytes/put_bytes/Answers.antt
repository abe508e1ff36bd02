-- `putting::bytes::put_bytes` meets its contract: the words stand in front, as the state of GroupTurns says it, and `put_plain` ends it.
-- Assumes nothing.
use mathlib.Core.Path.{◌≡◌, refl, sym, ap, ◌∙◌}
use mathlib.Core.List.{List, ◌++◌, append-nil}
use Prim.Native.Nat.{ℕ, ◌+◌, ◌-◌, ◌≤◌}
use native.Mathlib.Omega.{arith}
use lib.ListN.{length, take, replicate, length-drop}
use lib.Seq.{take-length}
use Rattle.room.specs.Laid.{laid}
use Rattle.room.proofs.LawsLaid.{length_laid, take_laid}
use Rattle.bits.specs.Bits.{Below}
use Rattle.bits.specs.Fields.{field_of}
use Rattle.bits.proofs.LawsBelow.{below_drop}
use Rattle.bits.proofs.LawsElements.{to_end}
use Rattle.bits.proofs.LawsFields.{bytes_put}
use Rattle.bits.proofs.LawsFill.{fit_below, below_fit}
use Rattle.putting.proofs.GroupTurns.{State, ends}
use Rattle.putting.proofs.bytes.put_bytes.Goals as goal

pub invariant_of-left : goal.invariant_of-left
invariant_of-left c =
    let words = c.args.words.now in
    record {
      le_size = (omega arith, omega arith);
      fits = simp to_end (below_fit 8 _ (below_drop 256 (length words) words (fit_below 8 words c.requires.fits)));
    }

pub put_plain-requires : goal.put_plain-requires
put_plain-requires c = record { size_in_bounds = simp (to_end, length-drop) (omega arith) }

-- all words are in front
passed : (words field room : List ℕ) → Below 256 words → length words ≤ length field → room ≡ laid field 0 words
    → State words 8 field room (length words) (length words)
passed words field room h fits e =
    let n = length words in
    let z : n ≡ 0 + n = omega arith in
    let none : n - n ≡ 0 = omega arith in
    let own : field_of 8 n words ≡ words =
    bytes_put n words h (omega arith) ∙ ap (λ (m : ℕ). words ++ replicate m 0) none ∙ append-nil words in record {
      done = omega arith;
      even = refl;
      says =
          ap (take n) e ∙ ap (λ (m : ℕ). take m (laid field 0 words)) z ∙ take_laid field 0 words (omega arith)
          ∙ sym (ap (field_of 8 n) (take-length words) ∙ own);
      long = ap length e ∙ length_laid field 0 words (omega arith);
    }

pub returns : goal.returns
returns c =
    ends
    (passed c.args.words.now c.args.field.now _ (fit_below 8 _ c.requires.fits) c.requires.words_in_bounds c.put_front.ensures)
    (omega (arith, c.requires.words_in_bounds)) _ c.put_plain.ensures
