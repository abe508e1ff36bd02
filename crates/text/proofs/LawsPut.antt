-- A text is put part by part: each is laid behind those before it.
-- Assumes nothing.
use mathlib.Core.Path.{◌≡◌, refl, sym, ap, ◌∙◌}
use mathlib.Core.List.{List, [], ◌∷◌, ◌++◌}
use Prim.Native.Nat.{ℕ, ◌+◌, ◌-◌, ◌≤◌, ◌<◌}
use native.Mathlib.Omega.{arith}
use borrow.Author.Tests.{le-leb}
use lib.ListN.{length, take, drop, length-append, length-drop}
use lib.Seq.{take_all, take_at}
use Rattle.ground.proofs.LawsChoice.{yes}
use Rattle.room.specs.Laid.{laid, laid_inside}
use Rattle.room.proofs.LawsLaid.{laid_nil, length_laid, lay_then}
use Rattle.text.specs.Texts.{decimal, ended, ends_at, put_length}
use Rattle.text.proofs.LawsDecimal.{decimal_fits}

-- a column of a number of 64 bits
pub column_fits : (n end : ℕ) → n < 18446744073709551616 → length (ended (decimal n) end) ≤ 21
column_fits n end h = omega (arith, decimal_fits n h, length-append (decimal n) (end ∷ []))

-- a number's digits and the byte that ends its column, where they stand at the end of 21 bytes
pub column_part : (column : List ℕ) (n end start : ℕ) → length column ≡ 21 → drop start column ≡ ended (decimal n) end
    → take (21 - start) (drop start column) ≡ ended (decimal n) end
column_part column n end start long same = take_all (21 - start) (drop start column) (omega (arith, length-drop start column)) ∙ same

-- what was put as a part, which is of no more bytes than so many
pub put_as : (room : List ℕ) (at most : ℕ) {part xs : List ℕ} {r : ℕ} {after : List ℕ} → (r ≡ ends_at room at part) × ((after ≡ laid_inside room at part) × (r ≤ at + length part))
    → part ≡ xs → length part ≤ most → (r ≡ ends_at room at xs) × ((after ≡ laid_inside room at xs) × (r ≤ at + most))
put_as room at most put e h = (put.0 ∙ ap (ends_at room at) e, (put.1.0 ∙ ap (laid_inside room at) e, omega (arith, put.1.1)))

-- xs stands at the front of a text, and ends at `at`
pub record Put (text₀ xs text : List ℕ) (at : ℕ) : Type 0 where
  pub says : text ≡ laid text₀ 0 xs
  pub ends : at ≡ length xs

pub nothing : (text : List ℕ) → Put text [] text 0
nothing text = record { says = sym (laid_nil text 0); ends = refl }

module _ {text₀ xs text : List ℕ} {at : ℕ} (p : Put text₀ xs text at) where
  -- a part behind it, where there is room
  pub more : (ys : List ℕ) {text' : List ℕ} {at' : ℕ} → at' ≡ ends_at text at ys → text' ≡ laid_inside text at ys → at + length ys ≤ length text₀ → Put text₀ (xs ++ ys) text' at'
  more ys e l h =
      let long : length text ≡ length text₀ = ap length p.says ∙ length_laid text₀ 0 xs (omega (arith, p.ends)) in
      let ends : ends_at text at ys ≡ at + length ys = sym (yes _ refl (le-leb (at + length ys) (length text) (omega arith)) refl) in
      record {
        says = lay_then text₀ 0 xs ys at p.says l (omega (arith, p.ends)) h;
        ends = e ∙ ends ∙ omega (arith, p.ends, length-append xs ys);
      }

  -- so too where the part is said otherwise
  pub more_as : {part ys : List ℕ} {text' : List ℕ} {at' : ℕ} → part ≡ ys → at' ≡ ends_at text at part → text' ≡ laid_inside text at part
      → at + length ys ≤ length text₀ → Put text₀ (xs ++ ys) text' at'
  more_as {ys = ys} same e l h = more ys (e ∙ ap (ends_at text at) same) (l ∙ ap (laid_inside text at) same) h

  pub more_column : (n end : ℕ) {text' : List ℕ} {at' : ℕ} → n < 18446744073709551616 → at' ≡ ends_at text at (ended (decimal n) end)
      → text' ≡ laid_inside text at (ended (decimal n) end) → at + 21 ≤ length text₀ → Put text₀ (xs ++ ended (decimal n) end) text' at'
  more_column n end b e l h = more (ended (decimal n) end) e l (omega (arith, column_fits n end b))

  pub front : take at text ≡ xs
  front = ap (take at) p.says ∙ take_at xs (drop (0 + length xs) text₀) at (sym p.ends)

  pub as_text : {ys : List ℕ} → xs ≡ ys → Put text₀ ys text at
  as_text e = record { says = p.says ∙ ap (laid text₀ 0) e; ends = p.ends ∙ ap length e }

  -- what is put into room of such a front is put of the text
  pub into : (room : List ℕ) {n : ℕ} {after : List ℕ} → n ≡ put_length room (take at text) → after ≡ laid_inside room 0 (take at text)
      → (n ≡ put_length room xs) × (after ≡ laid_inside room 0 xs)
  into room e f = (e ∙ ap (put_length room) front, f ∙ ap (laid_inside room 0) front)
