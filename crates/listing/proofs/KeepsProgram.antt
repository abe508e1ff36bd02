-- A program that asks for one field after the other prints the listing: what it finds first is the first field of what is left.
-- Assumes nothing.
use mathlib.Core.Path.{◌≡◌, sym, ap, ◌∙◌}
use mathlib.Core.Bool.{Bool, true, false}
use mathlib.Core.List.{List, [], ◌∷◌, ◌++◌, append_assoc}
use Prim.Native.Nat.{ℕ, zero, suc, ◌+◌, ◌≤◌}
use native.Mathlib.Nat.{add-zero}
use native.Mathlib.Omega.{arith}
use lib.ListN.{length, take, drop, length-drop}
use Rattle.ground.proofs.LawsTests.{never}
use Rattle.recording.specs.Found.{found_at, answered, end_of}
use Rattle.recording.specs.Fields.{Field, Recording, started_by, read_up_to, recording_of}
use Rattle.recording.specs.Lines.{most_fields, line_of}
use Rattle.listing.specs.Texts.{first_text, line_text, last_text, lines_text}
use Rattle.listing.specs.Promises.{Prints, line, cut, end, PrintsListing}
use Rattle.recording.specs.declared.Found.{Found}
use Rattle.recording.proofs.LawsFound.{whole_inside, whole_start, none_found}
use Rattle.recording.proofs.LawsLines.{line_seq, seq_next}

-- the lines of what is read behind so many fields, and the last one
abbrev rest : (room seen : ℕ) → Recording → List ℕ
rest room seen r = lines_text seen r.fields room ++ last_text r.cut (seen + length r.fields)

-- what is read where so much is found first
found_first : (most : ℕ) (bytes : List ℕ) {found : Found} → found_at bytes 0 ≡ found → read_up_to (suc most) bytes ≡ started_by bytes found (read_up_to most (drop (end_of found) bytes))
unfolding read_up_to
found_first most bytes e = ap (λ (x : Found). started_by bytes x (read_up_to most (drop (end_of x) bytes))) e

last_only : (room seen : ℕ) (c : Bool) → last_text c seen ≡ rest room seen (record { fields = []; cut = c })
unfolding lines_text
last_only room seen c = ap (last_text c) (sym (add-zero seen))

line_first : (room seen : ℕ) (f : Field) (r : Recording)
    → line_text (line_of seen f.tag f.body room) ++ rest room (seen + 1) r ≡ rest room seen (record { fields = f ∷ r.fields; cut = r.cut })
unfolding lines_text
line_first room seen f r =
    let x = line_text (line_of seen f.tag f.body room) in
    let e : seen + 1 + length r.fields ≡ seen + suc (length r.fields) = omega arith in
    sym (append_assoc x (lines_text (seen + 1) r.fields room) (last_text r.cut (seen + 1 + length r.fields)))
    ∙ ap (λ (k : ℕ). (x ++ lines_text (seen + 1) r.fields room) ++ last_text r.cut k) e

goes : (room : ℕ) {seen : ℕ} {bytes text : List ℕ} → Prints room seen bytes text → (most : ℕ) → length bytes ≤ most → seen + length bytes ≤ most_fields
    → text ≡ rest room seen (read_up_to most bytes)
unfolding read_up_to
goes room {seen} {bytes} (line tag start n e p) zero l h = absurd (omega (arith, whole_inside bytes 0 e, whole_start bytes 0 e))
goes room {seen} {bytes} (line tag start n e p) (suc most) l h =
    let f : Field = record { tag = tag; body = take n (drop start bytes) } in
    let w = whole_inside bytes 0 e in
    let b = whole_start bytes 0 e in
    let d = length-drop (start + n) bytes in
    let next : (line_of seen tag f.body room).seq ≡ seen + 1 = line_seq seen tag f.body room ∙ seq_next seen (omega arith) in
    let left = read_up_to most (drop (start + n) bytes) in
    ap (λ (t : List ℕ). line_text (line_of seen tag f.body room) ++ t) (goes room p most (omega arith) (omega arith) ∙ ap (λ (k : ℕ). rest room k left) next)
    ∙ line_first room seen f left ∙ sym (ap (rest room seen) (found_first most bytes e))
goes room {seen} {bytes} (cut e) zero l h = never (sym (ap (λ (x : Found). (answered x).is_cut) (none_found bytes l)) ∙ ap (λ (x : Found). (answered x).is_cut) e)
goes room {seen} {bytes} (cut e) (suc most) l h = last_only room seen true ∙ sym (ap (rest room seen) (found_first most bytes e))
goes room {seen} {bytes} (end e) zero l h = last_only room seen false
goes room {seen} {bytes} (end e) (suc most) l h = last_only room seen false ∙ sym (ap (rest room seen) (found_first most bytes e))

pub prints_listing : PrintsListing
prints_listing bytes text room h p =
    let r = recording_of bytes in
    let z : 0 + length r.fields ≡ length r.fields = omega arith in
    ap (λ (t : List ℕ). first_text ++ t) (goes room p (length bytes) (omega arith) (omega arith) ∙ ap (λ (k : ℕ). lines_text 0 r.fields room ++ last_text r.cut k) z)
