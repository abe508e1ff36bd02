-- Bytes laid one after the other are laid joined; one element stored is one element laid.
-- Assumes nothing.
use mathlib.Core.Path.{◌≡◌, refl, sym, ap, ap₂, ◌∙◌, subst}
use mathlib.Core.List.{List, [], ◌∷◌, ◌++◌, append-nil, append_assoc}
use Prim.Native.Nat.{ℕ, suc, ◌+◌, ◌-◌, ◌≤◌, ◌<◌}
use native.Mathlib.Nat.{add-zero}
use native.Mathlib.Omega.{arith}
use lib.ListN.{length, get_or, take, drop, set, length-append, length-drop, take-append-drop, drop_of_length-le}
use lib.Seq.{take-suc, drop-cons, set_at, take_at, drop_at, length-take-le, drop-drop}
use borrow.Author.Tests.{le-leb}
use borrow.Rule.Slice.PartMut.{put_mid}
use Rattle.ground.proofs.LawsChoice.{yes}
use Rattle.room.specs.Laid.{laid, laid_inside}

pub laid_nil : (r : List ℕ) (w : ℕ) → laid r w [] ≡ r
laid_nil r w = ap (λ (k : ℕ). take w r ++ drop k r) (add-zero w) ∙ take-append-drop w r

head_len : (r : List ℕ) (w : ℕ) (xs : List ℕ) → w ≤ length r → length (take w r ++ xs) ≡ w + length xs
head_len r w xs h = length-append (take w r) xs ∙ ap (λ (k : ℕ). k + length xs) (length-take-le w r h)

pub length_laid : (r : List ℕ) (w : ℕ) (xs : List ℕ) → w + length xs ≤ length r → length (laid r w xs) ≡ length r
length_laid r w xs h =
    omega (arith, length-append (take w r) (xs ++ drop (w + length xs) r), length-append xs (drop (w + length xs) r), length-drop (w + length xs) r, length-take-le w r (omega arith))

pub take_laid : (r : List ℕ) (w : ℕ) (xs : List ℕ) → w ≤ length r → take (w + length xs) (laid r w xs) ≡ take w r ++ xs
take_laid r w xs h = ap (take (w + length xs)) (sym (append_assoc (take w r) xs (drop (w + length xs) r))) ∙ take_at (take w r ++ xs) _ _ (head_len r w xs h)

pub take_front : (r : List ℕ) (w : ℕ) (p q : List ℕ) → w ≤ length r → take (w + length p) (laid r w (p ++ q)) ≡ take w r ++ p
take_front r w p q h =
    let rest = drop (w + length (p ++ q)) r in
    ap (take (w + length p)) (ap (λ (l : List ℕ). take w r ++ l) (append_assoc p q rest) ∙ sym (append_assoc (take w r) p (q ++ rest)))
    ∙ take_at (take w r ++ p) _ _ (head_len r w p h)

pub drop_laid : (r : List ℕ) (w : ℕ) (xs : List ℕ) → w ≤ length r → drop (w + length xs) (laid r w xs) ≡ drop (w + length xs) r
drop_laid r w xs h = ap (drop (w + length xs)) (sym (append_assoc (take w r) xs (drop (w + length xs) r))) ∙ drop_at (take w r ++ xs) _ _ (head_len r w xs h)

pub laid_more : (r : List ℕ) (w : ℕ) (xs ys : List ℕ) → w ≤ length r → laid (laid r w xs) (w + length xs) ys ≡ laid r w (xs ++ ys)
laid_more r w xs ys h =
    let e : w + length xs + length ys ≡ w + length (xs ++ ys) = omega (arith, length-append xs ys) in
    ap₂ (λ (p q : List ℕ). p ++ (ys ++ q)) (take_laid r w xs h)
    (sym (drop-drop (length ys) (w + length xs) (laid r w xs)) ∙ ap (drop (length ys)) (drop_laid r w xs h) ∙ drop-drop (length ys) (w + length xs) r)
    ∙ append_assoc (take w r) xs (ys ++ drop (w + length xs + length ys) r)
    ∙ ap (λ (l : List ℕ). take w r ++ l) (sym (append_assoc xs ys (drop (w + length xs + length ys) r)))
    ∙ ap (λ (k : ℕ). take w r ++ ((xs ++ ys) ++ drop k r)) e

-- a part stored over is laid
pub part_laid : (r : List ℕ) (w end : ℕ) (xs : List ℕ) {ys : List ℕ} → ys ≡ xs → end ≡ w + length xs → put_mid w (end - w) r ys ≡ laid r w xs
part_laid r w end xs {ys} e l =
    let k : end - w ≡ length xs = omega arith in
    ap₂ (λ (p : List ℕ) (n : ℕ). take w r ++ (p ++ drop n (drop w r))) e k ∙ ap (λ (q : List ℕ). take w r ++ (xs ++ q)) (drop-drop (length xs) w r)

-- one element stored is one element laid
pub laid_set : (r : List ℕ) (w a : ℕ) → w < length r → set r w a ≡ laid r w (a ∷ [])
laid_set r w a h =
    let e : suc w ≡ w + 1 = omega arith in
    ap (λ (l : List ℕ). set l w a) (sym (take-append-drop w r) ∙ ap (λ (l : List ℕ). take w r ++ l) (drop-cons r w 0 h))
    ∙ set_at (take w r) _ _ a w (length-take-le w r (omega arith))
    ∙ ap (λ (k : ℕ). take w r ++ (a ∷ drop k r)) e

pub laid_snoc : (r : List ℕ) (w : ℕ) (xs : List ℕ) (a : ℕ) → w + length xs < length r → set (laid r w xs) (w + length xs) a ≡ laid r w (xs ++ (a ∷ []))
laid_snoc r w xs a h = laid_set (laid r w xs) (w + length xs) a (omega (arith, length_laid r w xs (omega arith))) ∙ laid_more r w xs (a ∷ []) (omega arith)

-- a turn of the loop that lays
pub lay_turn : (src r : List ℕ) (at i : ℕ) → i < length src → at + i < length r
    → set (laid r at (take i src)) (at + i) (get_or src i 0) ≡ laid r at (take (i + 1) src)
lay_turn src r at i h k =
    let l : length (take i src) ≡ i = length-take-le i src (omega arith) in
    let e : at + i ≡ at + length (take i src) = omega arith in
    let f : suc i ≡ i + 1 = omega arith in
    ap (λ (m : ℕ). set (laid r at (take i src)) m (get_or src i 0)) e
    ∙ laid_snoc r at (take i src) (get_or src i 0) (omega arith)
    ∙ ap (laid r at) (sym (take-suc src i 0 h) ∙ ap (λ (m : ℕ). take m src) f)

-- a turn of a loop that lays to the front
pub front_turn : (src r : List ℕ) (i : ℕ) → i < length src → i < length r
    → set (laid r 0 (take i src)) i (get_or src i 0) ≡ laid r 0 (take (i + 1) src)
front_turn src r i h k =
    let e : i ≡ 0 + i = omega arith in
    ap (λ (m : ℕ). set (laid r 0 (take i src)) m (get_or src i 0)) e ∙ lay_turn src r 0 i h (omega arith)

pub laid_front : (r xs : List ℕ) (n : ℕ) → length xs ≡ n → laid r 0 xs ≡ xs ++ drop n r
laid_front r xs n h =
    let e : 0 + length xs ≡ n = omega arith in
    ap (λ (m : ℕ). xs ++ drop m r) e

-- bytes laid behind bytes laid
pub laid_then : (r : List ℕ) (w : ℕ) (xs ys : List ℕ) (k : ℕ) {r' r'' : List ℕ} → r' ≡ laid r w xs → r'' ≡ laid r' k ys → k ≡ w + length xs → w ≤ length r → r'' ≡ laid r w (xs ++ ys)
laid_then r w xs ys k {r'} {r''} e₁ e₂ e h = e₂ ∙ ap₂ (λ (q : List ℕ) (m : ℕ). laid q m ys) e₁ e ∙ laid_more r w xs ys h

-- what is laid over is gone
pub laid_again : (r : List ℕ) (w : ℕ) (q s : List ℕ) → w ≤ length r → length q ≤ length s → laid (laid r w q) w s ≡ laid r w s
laid_again r w q s h l =
    let more = length s - length q in
    let e : w + length s ≡ w + length q + more = omega arith in
    ap₂ (λ (x y : List ℕ). x ++ (s ++ y))
    (take_at (take w r) _ w (length-take-le w r h))
    (ap (λ (k : ℕ). drop k (laid r w q)) e ∙ sym (drop-drop more (w + length q) (laid r w q)) ∙ ap (drop more) (drop_laid r w q h)
    ∙ drop-drop more (w + length q) r ∙ ap (λ (k : ℕ). drop k r) (sym e))

pub laid_over : (r : List ℕ) (w : ℕ) (p q s : List ℕ) → w + length p ≤ length r → length q ≤ length s
    → laid (laid r w (p ++ q)) (w + length p) s ≡ laid r w (p ++ s)
laid_over r w p q s h l =
    let inside : w ≤ length r = omega arith in
    ap (λ (t : List ℕ). laid t (w + length p) s) (sym (laid_more r w p q inside))
    ∙ laid_again (laid r w p) (w + length p) q s (omega (arith, length_laid r w p h)) l
    ∙ laid_more r w p s inside

-- ---- what `lay` leaves, where the bytes end inside the room

pub laid_inside_is : (r : List ℕ) (w : ℕ) (xs : List ℕ) → w + length xs ≤ length r → laid_inside r w xs ≡ laid r w xs
laid_inside_is r w xs h = sym (yes _ refl (le-leb (w + length xs) (length r) h) refl)

-- bytes laid behind bytes laid, by `lay`
pub lay_then : (r : List ℕ) (w : ℕ) (xs ys : List ℕ) (k : ℕ) {r' r'' : List ℕ} → r' ≡ laid r w xs → r'' ≡ laid_inside r' k ys
    → k ≡ w + length xs → k + length ys ≤ length r → r'' ≡ laid r w (xs ++ ys)
lay_then r w xs ys k {r'} {r''} e₁ e₂ e h =
    laid_then r w xs ys k e₁ (e₂ ∙ laid_inside_is r' k ys (subst (λ (n : ℕ). k + length ys ≤ n) (sym (ap length e₁ ∙ length_laid r w xs (omega arith))) h)) e (omega arith)

-- bytes that fill the room are all of it
pub laid_all : (r xs : List ℕ) → length r ≤ length xs → laid r 0 xs ≡ xs
laid_all r xs h =
    let l : length r ≤ 0 + length xs = omega arith in
    ap (λ (t : List ℕ). xs ++ t) (drop_of_length-le r l) ∙ append-nil xs
