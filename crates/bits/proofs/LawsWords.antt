-- Words cut from bits, and bits spelled by words: each gives the other back. One law serves bytes and words of every size.
-- Assumes nothing.
use mathlib.Core.Path.{◌≡◌, refl, sym, ap, ap₂, ◌∙◌}
use mathlib.Core.List.{List, [], ◌∷◌, ◌++◌, append_assoc}
use Prim.Native.Nat.{ℕ, zero, suc, ◌+◌, ◌*◌, ◌/◌, ◌%◌, ◌^◌, ◌≤◌, ◌<◌}
use native.Mathlib.Nat.{mod-eq_of_lt, add_comm, zero-mul, suc-mul, lt_of_lt_of_le}
use native.Mathlib.Numerals.{add-one}
use native.Mathlib.Omega.{arith}
use lib.ListN.{length, get_or, take, drop, replicate, length-append, length-drop, length-take, replicate-append-replicate}
use lib.Seq.{take_at, drop_at, take-add, drop-nil, drop-drop, drop-cons, length-take-le}
use lib.Pow.{shr_lt, pow_mono}
use Rattle.bits.specs.Bits.{bits, value, spell, words, Below}
use Rattle.bits.proofs.LawsBelow.{below_append, below_take, below_drop}
use Rattle.bits.proofs.LawsBits.{length_bits, bits_below, bits_mod, bits_split, bits_zero, value_bits, value_lt, bits_value}

pub length_words : (size count : ℕ) (bs : List ℕ) → length (words size count bs) ≡ count
unfolding words
length_words size zero bs = refl
length_words size (suc count) bs = ap suc (length_words size count (drop size bs))

pub length_spell : (size : ℕ) (ws : List ℕ) → length (spell size ws) ≡ length ws * size
unfolding spell
length_spell size [] = sym (zero-mul size)
length_spell size (w ∷ ws) =
    length-append (bits size w) (spell size ws) ∙ ap₂ (λ (x y : ℕ). x + y) (length_bits size w) (length_spell size ws)
    ∙ add_comm size (length ws * size) ∙ sym (suc-mul (length ws) size)

pub spell_below : (size : ℕ) (ws : List ℕ) → Below 2 (spell size ws)
unfolding spell
spell_below size [] = tt
spell_below size (w ∷ ws) = below_append 2 (bits size w) (spell size ws) (bits_below size w) (spell_below size ws)

pub spell_nil : (size : ℕ) → spell size [] ≡ []
unfolding spell
spell_nil size = refl

pub spell_cons : (size w : ℕ) (ws : List ℕ) → spell size (w ∷ ws) ≡ bits size w ++ spell size ws
unfolding spell
spell_cons size w ws = refl

pub spell_append : (size : ℕ) (vs ws : List ℕ) → spell size (vs ++ ws) ≡ spell size vs ++ spell size ws
unfolding spell
spell_append size [] ws = refl
spell_append size (v ∷ vs) ws =
    ap (λ (l : List ℕ). bits size v ++ l) (spell_append size vs ws) ∙ sym (append_assoc (bits size v) (spell size vs) (spell size ws))

pub spell_zeros : (size n : ℕ) → spell size (replicate n 0) ≡ replicate (n * size) 0
unfolding spell
spell_zeros size zero = ap (λ (m : ℕ). replicate m 0) (sym (zero-mul size))
spell_zeros size (suc n) =
    ap₂ (λ (x y : List ℕ). x ++ y) (bits_zero size) (spell_zeros size n) ∙ replicate-append-replicate size (n * size) 0
    ∙ ap (λ (m : ℕ). replicate m 0) (add_comm size (n * size) ∙ sym (suc-mul n size))

-- the words from i on are the word at i and those from i + 1 on
pub spell_next : (size : ℕ) (ws : List ℕ) (i : ℕ) → i < length ws → spell size (drop i ws) ≡ bits size (get_or ws i 0) ++ spell size (drop (i + 1) ws)
spell_next size ws i h =
    ap (spell size) (drop-cons ws i 0 h) ∙ spell_cons size (get_or ws i 0) (drop (suc i) ws)
    ∙ ap (λ (m : ℕ). bits size (get_or ws i 0) ++ spell size (drop m ws)) (sym (add-one i))

-- whole words are dropped
pub drop_spell : (size k : ℕ) (ws : List ℕ) → drop (k * size) (spell size ws) ≡ spell size (drop k ws)
unfolding spell
drop_spell size zero ws = ap (λ (m : ℕ). drop m (spell size ws)) (zero-mul size)
drop_spell size (suc k) [] = drop-nil (suc k * size)
drop_spell size (suc k) (w ∷ ws) =
    ap (λ (m : ℕ). drop m (bits size w ++ spell size ws)) (suc-mul k size ∙ add_comm (k * size) size)
    ∙ sym (drop-drop (k * size) size (bits size w ++ spell size ws))
    ∙ ap (drop (k * size)) (drop_at (bits size w) (spell size ws) size (length_bits size w))
    ∙ drop_spell size k ws

-- a word that is spelled in front is the first
pub words_cons : (size count w : ℕ) (rest : List ℕ) → w < 2 ^ size → words size (suc count) (bits size w ++ rest) ≡ w ∷ words size count rest
unfolding words
words_cons size count w rest h =
    ap₂ (λ (x y : List ℕ). value x ∷ words size count y)
    (take_at (bits size w) rest size (length_bits size w)) (drop_at (bits size w) rest size (length_bits size w))
    ∙ ap (λ (x : ℕ). x ∷ words size count rest) (value_bits size w ∙ mod-eq_of_lt h)

-- of a number of size + h bits the first word is its top, and the h low bits stay
pub words_top : (size h count acc : ℕ) (rest : List ℕ) → acc < 2 ^ (size + h)
    → words size (suc count) (bits (size + h) acc ++ rest) ≡ acc / 2 ^ h ∷ words size count (bits h (acc % 2 ^ h) ++ rest)
words_top size h count acc rest l =
    ap (λ (x : List ℕ). words size (suc count) (x ++ rest)) (bits_split size h acc)
    ∙ ap (words size (suc count)) (append_assoc (bits size (acc / 2 ^ h)) (bits h (acc % 2 ^ h)) rest)
    ∙ words_cons size count (acc / 2 ^ h) (bits h (acc % 2 ^ h) ++ rest) (shr_lt size h l)

-- of the bits of any number the first word is its top
pub words_next : (size h count n : ℕ) → words size (suc count) (bits (size + h) n) ≡ n / 2 ^ h % 2 ^ size ∷ words size count (bits h n)
unfolding words
words_next size h count n =
    ap (words size (suc count)) (bits_split size h n)
    ∙ ap₂ (λ (x y : List ℕ). value x ∷ words size count y)
    (take_at (bits size (n / 2 ^ h)) (bits h (n % 2 ^ h)) size (length_bits size (n / 2 ^ h)))
    (drop_at (bits size (n / 2 ^ h)) (bits h (n % 2 ^ h)) size (length_bits size (n / 2 ^ h)) ∙ bits_mod h n)
    ∙ ap (λ (w : ℕ). w ∷ words size count (bits h n)) (value_bits size (n / 2 ^ h))

-- words that are spelled are read again
pub words_spell : (size : ℕ) (ws rest : List ℕ) → Below (2 ^ size) ws → words size (length ws) (spell size ws ++ rest) ≡ ws
unfolding spell words
words_spell size [] rest h = refl
words_spell size (w ∷ ws) rest h =
    ap (words size (suc (length ws))) (append_assoc (bits size w) (spell size ws) rest)
    ∙ words_cons size (length ws) w (spell size ws ++ rest) h.0
    ∙ ap (λ (l : List ℕ). w ∷ l) (words_spell size ws rest h.1)

-- bits that are cut are spelled again
pub spell_words : (size count : ℕ) (bs : List ℕ) → Below 2 bs → count * size ≤ length bs → spell size (words size count bs) ≡ take (count * size) bs
unfolding spell words
spell_words size zero bs b h = ap (λ (m : ℕ). take m bs) (sym (zero-mul size))
spell_words size (suc count) bs b h =
    let e : suc count * size ≡ size + count * size = suc-mul count size ∙ add_comm (count * size) size in
    let long : length (take size bs) ≡ size = length-take-le size bs (omega (arith, e)) in
    ap₂ (λ (x y : List ℕ). x ++ y)
    (ap (λ (m : ℕ). bits m (value (take size bs))) (sym long) ∙ bits_value (take size bs) (below_take 2 size bs b))
    (spell_words size count (drop size bs) (below_drop 2 size bs b) (omega (arith, e, length-drop size bs)))
    ∙ sym (take-add size (count * size) bs) ∙ ap (λ (m : ℕ). take m bs) (sym e)

value_short : (size : ℕ) (bs : List ℕ) → Below 2 bs → value (take size bs) < 2 ^ size
value_short size bs b =
    lt_of_lt_of_le (value_lt (take size bs) (below_take 2 size bs b)) (pow_mono {j = size} (omega (arith, length-take size bs)))

-- every word that is cut has its size
pub words_below : (size count : ℕ) (bs : List ℕ) → Below 2 bs → Below (2 ^ size) (words size count bs)
unfolding words
words_below size zero bs b = tt
words_below size (suc count) bs b =
    (value_short size bs b, words_below size count (drop size bs) (below_drop 2 size bs b))
