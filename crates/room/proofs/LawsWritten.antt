-- Writing a list into lent room from its front on, part by part: what is still to be written, and that behind what is written the room is as
-- it was.
-- Assumes nothing.
use Prim.Native.Nat.{ℕ, ◌+◌, ◌≤◌}
use mathlib.Core.Path.{◌≡◌, refl, sym, ap, ap₂, ◌∙◌, subst}
use mathlib.Core.List.{List, [], ◌++◌, append-nil, append_assoc}
use native.Mathlib.Omega.{arith}
use lib.ListN.{length, take, drop, take-append-drop}
use lib.Seq.{length-take-le, drop-drop}
use Rattle.room.specs.Laid.{laid}
use Rattle.room.proofs.LawsLaid.{take_laid, drop_laid, length_laid}

-- all is what stands before w, and the rest
pub record Written (all room₀ room : List ℕ) (w : ℕ) (rest : List ℕ) : Type 0 where
  pub says : all ≡ take w room ++ rest
  pub keeps : drop w room ≡ drop w room₀
  pub long : length room ≡ length room₀
  pub within : w ≤ length room

pub nothing_yet : (all room : List ℕ) → Written all room room 0 all
nothing_yet all room = record { says = refl; keeps = refl; long = refl; within = omega arith }

-- the next part is laid where the last one ended
pub write_on : {all room₀ room : List ℕ} {w : ℕ} {rest : List ℕ} (xs : List ℕ) → Written all room₀ room w (xs ++ rest) → w + length xs ≤ length room
    → {room' : List ℕ} {w' : ℕ} → room' ≡ laid room w xs → w' ≡ w + length xs → Written all room₀ room' w' rest
write_on {all} {room₀} {room} {w} {rest} xs s h {room'} {w'} e f =
    subst (λ (k : ℕ). Written all room₀ room' k rest) (sym f)
    (subst (λ (r : List ℕ). Written all room₀ r (w + length xs) rest) (sym e)
    (record {
      says = s.says ∙ sym (append_assoc (take w room) xs rest) ∙ ap (λ (l : List ℕ). l ++ rest) (sym (take_laid room w xs s.within));
      keeps = drop_laid room w xs s.within ∙ sym (drop-drop (length xs) w room) ∙ ap (drop (length xs)) s.keeps ∙ drop-drop (length xs) w room₀;
      long = length_laid room w xs h ∙ s.long;
      within = omega (arith, length_laid room w xs h);
    }))

-- what is still to be written, said otherwise
pub written_as : {all room₀ room : List ℕ} {w : ℕ} {rest : List ℕ} (rest' : List ℕ) → rest ≡ rest' → Written all room₀ room w rest → Written all room₀ room w rest'
written_as {all} {room₀} {room} {w} rest' e s = subst (Written all room₀ room w) e s

-- at the end it stands at the front of the room
pub all_written : {all room₀ room : List ℕ} {w : ℕ} → Written all room₀ room w [] → (w ≡ length all) × (room ≡ all ++ drop (length all) room₀)
all_written {all} {room₀} {room} {w} s =
    let e : all ≡ take w room = s.says ∙ append-nil (take w room) in
    let l : w ≡ length all = sym (ap length e ∙ length-take-le w room s.within) in
    (l, sym (take-append-drop w room) ∙ ap₂ (λ (p q : List ℕ). p ++ q) (sym e) s.keeps ∙ ap (λ (k : ℕ). all ++ drop k room₀) l)
