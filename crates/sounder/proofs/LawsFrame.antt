-- The search of the table for the first field that is out of its range: what is left of the table decides.
-- Assumes nothing.
use mathlib.Core.Path.{◌≡◌, refl, sym, ap, ◌∙◌, subst}
use mathlib.Core.Bool.{Bool, true, false}
use mathlib.Core.List.{List}
use Prim.Native.Nat.{ℕ, zero, suc, ◌+◌, ◌≤◌, ◌<◌}
use native.Mathlib.Numerals.{add-one}
use native.Mathlib.Omega.{arith}
use lib.Dec.{lit<}
use lib.ListN.{get_or, drop, drop_of_length-le}
use lib.Seq.{drop-cons}
use Rattle.std.proofs.lemmas.List.{get_or-map}
use Rattle.ground.specs.Choice.{pick}
use Rattle.sounder.specs.Words.{number_at}
use Rattle.sounder.specs.Frame.{first_word, frame_fields, frame_of, is_out, first_from, first_out}
use Rattle.sounder.specs.declared.frame.Range.{Range}

abbrev pub range_at : ℕ → Range
range_at i = get_or frame_fields i (0, 0, 0)

-- each begins within a block, and its number is the frame's there
pub begins : (k : ℕ) → k < 7 → (1 ≤ first_word (range_at k)) × (first_word (range_at k) < 8040)
begins zero h = (omega arith, omega arith)
begins (suc zero) h = (omega arith, omega arith)
begins (suc (suc zero)) h = (omega arith, omega arith)
begins (suc (suc (suc zero))) h = (omega arith, omega arith)
begins (suc (suc (suc (suc zero)))) h = (omega arith, omega arith)
begins (suc (suc (suc (suc (suc zero))))) h = (omega arith, omega arith)
begins (suc (suc (suc (suc (suc (suc zero)))))) h = (omega arith, omega arith)
begins (suc (suc (suc (suc (suc (suc (suc k))))))) h = absurd (omega arith)

pub field_is : (words : List ℕ) (k : ℕ) → k < 7 → number_at (first_word (range_at k)) words ≡ get_or (frame_of words) k 0
field_is words k h = sym (get_or-map (λ (r : Range). number_at (first_word r) words) frame_fields k (0, 0, 0) 0 h)

pub record Looking (frame : List ℕ) (i : ℕ) : Type 0 where
  pub within : i ≤ 7
  pub left : first_from (drop i frame_fields) i frame ≡ first_out frame

pub start : (frame : List ℕ) → Looking frame 0
unfolding first_out
start frame = record { within = omega arith; left = refl }

module _ {frame : List ℕ} {i : ℕ} (l : Looking frame i) where
  -- the next field, and those behind it
  here : i < 7 → pick (is_out (range_at i) frame i) (first_word (range_at i)) (first_from (drop (suc i) frame_fields) (suc i) frame) ≡ first_out frame
  unfolding first_from
  here h = ap (λ (rs : List Range). first_from rs i frame) (sym (drop-cons frame_fields i (0, 0, 0) h)) ∙ l.left

  pub found : i < 7 → is_out (range_at i) frame i ≡ true → first_word (range_at i) ≡ first_out frame
  found h e = ap (λ (t : Bool). pick t (first_word (range_at i)) (first_from (drop (suc i) frame_fields) (suc i) frame)) (sym e) ∙ here h

  pub next : i < 7 → is_out (range_at i) frame i ≡ false → Looking frame (i + 1)
  next h e =
      record {
        within = omega arith;
        left =
            ap (λ (n : ℕ). first_from (drop n frame_fields) n frame) (add-one i)
            ∙ ap (λ (t : Bool). pick t (first_word (range_at i)) (first_from (drop (suc i) frame_fields) (suc i) frame)) (sym e) ∙ here h;
      }

  -- no field begins at 0
  pub named : {w : ℕ} → i < 7 → w ≡ first_word (range_at i) → 0 < w
  named {w} h e = subst (λ (n : ℕ). 0 < n) (sym e) (each i h)
    where
      each : (k : ℕ) → k < 7 → 0 < first_word (range_at k)
      each zero h = lit< tt
      each (suc zero) h = lit< tt
      each (suc (suc zero)) h = lit< tt
      each (suc (suc (suc zero))) h = lit< tt
      each (suc (suc (suc (suc zero)))) h = lit< tt
      each (suc (suc (suc (suc (suc zero))))) h = lit< tt
      each (suc (suc (suc (suc (suc (suc zero)))))) h = lit< tt
      each (suc (suc (suc (suc (suc (suc (suc k))))))) h = absurd (omega arith)

  pub finish : 7 ≤ i → 0 ≡ first_out frame
  unfolding first_from
  finish h = ap (λ (rs : List Range). first_from rs i frame) (sym (drop_of_length-le frame_fields h)) ∙ l.left
