-- Bytes are the fields that they give: what is found first, written again, is what stands there, and so on with the rest.
-- Assumes nothing.
use mathlib.Core.Path.{◌≡◌, refl, sym, ap, ap₂, ◌∙◌}
use mathlib.Core.List.{List, ◌∷◌, ◌++◌, append_assoc}
use Prim.Native.Nat.{ℕ, zero, suc, ◌+◌, ◌*◌, ◌/◌, ◌%◌, ◌≤◌, ◌<◌}
use native.Mathlib.Omega.{arith}
use lib.ListN.{length, get_or, take, drop, length-drop, take-append-drop}
use lib.Seq.{drop-cons, drop-drop, length-take-le}
use Rattle.bits.specs.Bits.{Below}
use Rattle.bits.proofs.LawsBelow.{below_drop, below_at}
use Rattle.recording.specs.Found.{front_length, length_at, found_at, Answered, answered, the_last, end_of}
use Rattle.recording.specs.Fields.{Field, Recording, front_of, written, joined, started_by, read_up_to}
use Rattle.recording.specs.Promises.{MadeOfFields}
use Rattle.recording.specs.declared.Found.{Found}
use Rattle.recording.specs.declared.Found.TheVariants.{Whole, Cut, End}
use Rattle.recording.proofs.LawsFound.{whole_inside, whole_says, none_found}

-- three bytes are a front
front_there : (bytes : List ℕ) → Below 256 bytes → front_length ≤ length bytes → bytes ≡ front_of (get_or bytes 0 0) (length_at bytes 0) ++ drop front_length bytes
front_there bytes below long =
    let h = get_or bytes 1 0 in
    let l = get_or bytes 2 0 in
    let low : l < 256 = below_at 256 bytes (omega arith) below 2 in
    let e : h ≡ (h * 256 + l) / 256 = omega arith in
    let d : l ≡ (h * 256 + l) % 256 = omega arith in
    drop-cons bytes 0 0 (omega arith)
    ∙ ap (λ (r : List ℕ). get_or bytes 0 0 ∷ r) (drop-cons bytes 1 0 (omega arith) ∙ ap (λ (r : List ℕ). h ∷ r) (drop-cons bytes 2 0 (omega arith)))
    ∙ ap₂ (λ (x y : ℕ). get_or bytes 0 0 ∷ x ∷ y ∷ drop front_length bytes) e d

-- a field that is found, written again, stands there
field_there : (bytes : List ℕ) {tag start n : ℕ} → Below 256 bytes → found_at bytes 0 ≡ Whole tag start n
    → bytes ≡ written (record { tag = tag; body = take n (drop start bytes) }) ++ drop (start + n) bytes
field_there bytes {tag} {start} {n} below e =
    let inside = whole_inside bytes 0 e in
    let says = whole_says bytes 0 e in
    let t : tag ≡ get_or bytes 0 0 = ap (λ (a : Answered). a.tag) says in
    let s : start ≡ 0 + front_length = ap (λ (a : Answered). a.start) says in
    let m : n ≡ length_at bytes 0 = ap (λ (a : Answered). a.length) says in
    let l : length (take n (drop start bytes)) ≡ n = length-take-le n (drop start bytes) (omega (arith, length-drop start bytes)) in
    front_there bytes below (omega arith)
    ∙ ap₂ (λ (x : ℕ) (y : ℕ). front_of x y ++ drop front_length bytes) (sym t) (sym (l ∙ m))
    ∙ ap (λ (k : ℕ). front_of tag (length (take n (drop start bytes))) ++ drop k bytes) (sym s)
    ∙ ap (λ (r : List ℕ). front_of tag (length (take n (drop start bytes))) ++ r)
    (sym (take-append-drop n (drop start bytes)) ∙ ap (λ (r : List ℕ). take n (drop start bytes) ++ r) (drop-drop n start bytes))
    ∙ sym (append_assoc (front_of tag (length (take n (drop start bytes)))) (take n (drop start bytes)) (drop (start + n) bytes))

-- what reading gives, and what it leaves
abbrev Made : List ℕ → Recording → Type 0
Made bytes r = (rest : List ℕ) × ((bytes ≡ joined r.fields ++ rest) × (answered (found_at rest 0) ≡ the_last r.cut))

made_first : (most : ℕ) (bytes : List ℕ) → Below 256 bytes → length bytes ≤ suc most → (x : Found) → found_at bytes 0 ≡ x
    → ((k : ℕ) → length (drop k bytes) ≤ most → Below 256 (drop k bytes) → Made (drop k bytes) (read_up_to most (drop k bytes)))
    → Made bytes (started_by bytes x (read_up_to most (drop (end_of x) bytes)))
unfolding joined
made_first most bytes below l Cut e f = (bytes, (refl, ap answered e))
made_first most bytes below l End e f = (bytes, (refl, ap answered e))
made_first most bytes below l (Whole tag start n) e f =
    let inside = whole_inside bytes 0 e in
    let s = ap (λ (a : Answered). a.start) (whole_says bytes 0 e) in
    let field : Field = record { tag = tag; body = take n (drop start bytes) } in
    let g = f (start + n) (omega (arith, length-drop (start + n) bytes)) (below_drop 256 (start + n) bytes below) in
    let fs = (read_up_to most (drop (start + n) bytes)).fields in
    (g.0, (field_there bytes below e ∙ ap (λ (r : List ℕ). written field ++ r) g.1.0 ∙ sym (append_assoc (written field) (joined fs) g.0), g.1.1))

made : (most : ℕ) (bytes : List ℕ) → length bytes ≤ most → Below 256 bytes → Made bytes (read_up_to most bytes)
unfolding read_up_to joined
made zero bytes l below = (bytes, (refl, ap answered (none_found bytes l)))
made (suc most) bytes l below = made_first most bytes below l (found_at bytes 0) refl (λ k. made most (drop k bytes))

pub made_of_fields : MadeOfFields
made_of_fields bytes below = made (length bytes) bytes (omega arith) below
