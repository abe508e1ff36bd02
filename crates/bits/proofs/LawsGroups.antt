-- Words in groups: the first few words and those behind them, and where they lie in the bits.
-- Assumes nothing.
use mathlib.Core.Path.{◌≡◌, refl, sym, ap, ap₂, ◌∙◌}
use mathlib.Core.List.{List, ◌∷◌, ◌++◌}
use Prim.Native.Nat.{ℕ, zero, suc, ◌+◌, ◌*◌, ◌≤◌}
use native.Mathlib.Nat.{zero-add, suc-add, zero-mul, suc-mul, add_comm}
use native.Mathlib.Omega.{arith}
use lib.ListN.{length, take, drop, length-drop, take-append-drop}
use lib.Seq.{take-append-le, drop-append-le, drop_at, drop-drop, length-take-le}
use Rattle.bits.specs.Bits.{value, words, sent}
use Rattle.bits.proofs.LawsWords.{length_spell, spell_append, drop_spell}

words_add : (size j k : ℕ) (bs : List ℕ) → words size (j + k) bs ≡ words size j bs ++ words size k (drop (j * size) bs)
unfolding words
words_add size zero k bs =
    ap (λ (n : ℕ). words size n bs) (zero-add k) ∙ ap (λ (n : ℕ). words size k (drop n bs)) (sym (zero-mul size))
words_add size (suc j) k bs =
    ap (λ (n : ℕ). words size n bs) (suc-add j k)
    ∙ ap (λ (l : List ℕ). value (take size bs) ∷ l)
    (words_add size j k (drop size bs)
    ∙ ap (λ (l : List ℕ). words size j (drop size bs) ++ words size k l)
    (drop-drop (j * size) size bs ∙ ap (λ (n : ℕ). drop n bs) (add_comm size (j * size) ∙ sym (suc-mul j size))))

-- words that end with a byte, and the words behind that byte
pub words_bytes : (size j bytes k : ℕ) (field : List ℕ) → j * size ≡ bytes * 8
    → words size (j + k) (sent field) ≡ words size j (sent field) ++ words size k (sent (drop bytes field))
words_bytes size j bytes k field e =
    words_add size j k (sent field)
    ∙ ap (λ (l : List ℕ). words size j (sent field) ++ words size k l) (ap (λ (n : ℕ). drop n (sent field)) e ∙ drop_spell 8 bytes field)

words_front : (size count : ℕ) (bs rest : List ℕ) → count * size ≤ length bs → words size count (bs ++ rest) ≡ words size count bs
unfolding words
words_front size zero bs rest h = refl
words_front size (suc count) bs rest h =
    let e : suc count * size ≡ count * size + size = suc-mul count size in
    ap₂ (λ (x y : List ℕ). value x ∷ words size count y)
    (take-append-le size bs rest (omega (arith, e))) (drop-append-le size bs rest (omega (arith, e)))
    ∙ ap (λ (l : List ℕ). value (take size bs) ∷ l)
    (words_front size count (drop size bs) rest (omega (arith, e, length-drop size bs)))

-- the words of bits that end with a word, and those of the bits behind
pub words_join : (size j k : ℕ) (x y : List ℕ) → length x ≡ j * size → words size (j + k) (x ++ y) ≡ words size j x ++ words size k y
words_join size j k x y e =
    words_add size j k (x ++ y)
    ∙ ap₂ (λ (u v : List ℕ). u ++ words size k v) (words_front size j x y (omega (arith, e))) (drop_at x y (j * size) e)

-- words lie in the bytes that they need
pub words_within : (size count bytes : ℕ) (field : List ℕ) → count * size ≤ bytes * 8 → bytes ≤ length field
    → words size count (sent (take bytes field)) ≡ words size count (sent field)
words_within size count bytes field h long =
    let front = take bytes field in
    sym
    (ap (words size count) (ap sent (sym (take-append-drop bytes field)) ∙ spell_append 8 front (drop bytes field))
    ∙ words_front size count (sent front) (sent (drop bytes field)) (omega (arith, length_spell 8 front, length-take-le bytes field long)))
