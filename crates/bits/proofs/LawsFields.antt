-- The two round trips: words put into a field come out again, and the words of a field whose fill is zero, put in again, give its bytes.
-- Assumes nothing.
use mathlib.Core.Path.{◌≡◌, sym, ap, ap₂, ◌∙◌}
use mathlib.Core.Bool.{true}
use mathlib.Core.List.{List, [], ◌++◌, append_assoc, append-nil}
use Prim.Native.Nat.{ℕ, ◌+◌, ◌-◌, ◌*◌, ◌^◌, ◌≤◌}
use native.Mathlib.Nat.{add-mul}
use native.Mathlib.Omega.{arith}
use lib.ListN.{length, take, drop, replicate, length-append, length-drop, length-replicate, replicate-append-replicate, take-append-drop}
use lib.Seq.{take_all, length-take-le}
use Rattle.bits.specs.Bits.{spell, words, sent, Below}
use Rattle.bits.specs.Fields.{words_of, fill_of, field_of, all_zero}
use Rattle.bits.proofs.LawsBelow.{below_append, below_replicate}
use Rattle.bits.proofs.LawsWords.{length_words, length_spell, spell_append, spell_zeros, spell_below, words_spell, spell_words, words_below}
use Rattle.bits.proofs.LawsFill.{zero_all}
use Rattle.bits.proofs.LawsGroups.{words_join}

pub length_words_of : (size count : ℕ) (field : List ℕ) → length (words_of size count field) ≡ count
unfolding words_of
length_words_of size count field = length_words size count (sent field)

pub length_field_of : (size len : ℕ) (ws : List ℕ) → length (field_of size len ws) ≡ len
unfolding field_of
length_field_of size len ws = length_words 8 len _

pub words_of_below : (size count : ℕ) (field : List ℕ) → Below (2 ^ size) (words_of size count field)
unfolding words_of
words_of_below size count field = words_below size count (sent field) (spell_below 8 field)

module _ (size len : ℕ) (ws : List ℕ) where
  -- the bits that the field holds: the words', and zeros
  zeros : List ℕ
  zeros = replicate (len * 8 - length ws * size) 0

  whole_below : Below 2 (spell size ws ++ zeros)
  unfolding zeros
  whole_below = below_append 2 (spell size ws) _ (spell_below size ws) (below_replicate 2 (len * 8 - length ws * size) 0 (omega arith))

  pub field_of_below : Below 256 (field_of size len ws)
  unfolding field_of zeros
  field_of_below = words_below 8 len (spell size ws ++ zeros) whole_below

  module _ (fits : length ws * size ≤ len * 8) where
    whole_long : length (spell size ws ++ zeros) ≡ len * 8
    unfolding zeros
    whole_long = length-append (spell size ws) _ ∙ omega (arith, length_spell size ws, length-replicate {A = ℕ} (len * 8 - length ws * size) 0)

    pub sent_field_of : sent (field_of size len ws) ≡ spell size ws ++ replicate (len * 8 - length ws * size) 0
    unfolding field_of zeros
    sent_field_of =
        spell_words 8 len (spell size ws ++ zeros) whole_below (omega (arith, whole_long))
        ∙ take_all (len * 8) (spell size ws ++ zeros) (omega (arith, whole_long))

    -- words put in come out
    pub taken_put : Below (2 ^ size) ws → words_of size (length ws) (field_of size len ws) ≡ ws
    unfolding words_of
    taken_put h = ap (words size (length ws)) sent_field_of ∙ words_spell size ws _ h

-- the words of a field whose fill is zero, put in again, give its bytes
pub put_taken : (size count : ℕ) (field : List ℕ) → Below 256 field → count * size ≤ length field * 8 → all_zero (fill_of size count field) ≡ true
    → field_of size (length field) (words_of size count field) ≡ field
unfolding words_of field_of fill_of
put_taken size count field h fits zero_fill =
    let b = sent field in
    let zeros : drop (count * size) b ≡ replicate (length field * 8 - count * size) 0 =
    zero_all (drop (count * size) b) zero_fill
    ∙ ap (λ (m : ℕ). replicate m 0) (length-drop (count * size) b ∙ ap (λ (m : ℕ). m - count * size) (length_spell 8 field)) in
    ap (λ (m : ℕ). words 8 (length field) (spell size (words size count b) ++ replicate (length field * 8 - m * size) 0)) (length_words size count b)
    ∙ ap₂ (λ (x y : List ℕ). words 8 (length field) (x ++ y)) (spell_words size count b (spell_below 8 field) (omega (arith, length_spell 8 field))) (sym zeros)
    ∙ ap (words 8 (length field)) (take-append-drop (count * size) b ∙ sym (append-nil b))
    ∙ words_spell 8 field [] h

-- words of eight bits are the bytes
pub bytes_taken : (count : ℕ) (field : List ℕ) → Below 256 (take count field) → count ≤ length field → words_of 8 count field ≡ take count field
unfolding words_of
bytes_taken count field h fits =
    let front = take count field in
    ap₂ (words 8) (sym (length-take-le count field fits)) (ap sent (sym (take-append-drop count field)) ∙ spell_append 8 front (drop count field))
    ∙ words_spell 8 front (sent (drop count field)) h

-- ---- fields behind fields

-- what is behind the bytes that the words need is zero
pub field_of_longer : (size b n : ℕ) (ws : List ℕ) → length ws * size ≤ b * 8 → field_of size (b + n) ws ≡ field_of size b ws ++ replicate n 0
unfolding field_of
field_of_longer size b n ws h =
    let own = b * 8 - length ws * size in
    let e : (b + n) * 8 - length ws * size ≡ own + n * 8 = omega (arith, h) in
    let long : length (spell size ws ++ replicate own 0) ≡ b * 8 =
    length-append (spell size ws) _ ∙ omega (arith, h, length_spell size ws, length-replicate {A = ℕ} own 0) in
    let below : Below 256 (replicate n 0) = below_replicate 256 n 0 (omega arith) in
    ap (λ (l : List ℕ). words 8 (b + n) (spell size ws ++ l)) (ap (λ (m : ℕ). replicate m 0) e ∙ sym (replicate-append-replicate own (n * 8) 0))
    ∙ ap (words 8 (b + n)) (sym (append_assoc (spell size ws) (replicate own 0) (replicate (n * 8) 0)))
    ∙ words_join 8 b n (spell size ws ++ replicate own 0) (replicate (n * 8) 0) long
    ∙ ap (λ (l : List ℕ). words 8 b (spell size ws ++ replicate own 0) ++ l)
    (ap₂ (words 8) (sym (length-replicate n 0)) (sym (append-nil _ ∙ spell_zeros 8 n)) ∙ words_spell 8 (replicate n 0) [] below)

-- words that end with a byte, and the words behind that byte
pub field_of_append : (size b n : ℕ) (xs ys : List ℕ) → length xs * size ≡ b * 8 → length ys * size ≤ n * 8
    → field_of size (b + n) (xs ++ ys) ≡ field_of size b xs ++ field_of size n ys
unfolding field_of
field_of_append size b n xs ys e h =
    let zeros : List ℕ = replicate (n * 8 - length ys * size) 0 in
    let count : length (xs ++ ys) * size ≡ length xs * size + length ys * size =
    ap (λ (m : ℕ). m * size) (length-append xs ys) ∙ add-mul (length xs) (length ys) size in
    let tail : (b + n) * 8 - length (xs ++ ys) * size ≡ n * 8 - length ys * size = omega (arith, e, count) in
    let none : b * 8 - length xs * size ≡ 0 = omega (arith, e) in
    ap₂ (λ (l : List ℕ) (m : ℕ). words 8 (b + n) (l ++ replicate m 0)) (spell_append size xs ys) tail
    ∙ ap (words 8 (b + n)) (append_assoc (spell size xs) (spell size ys) zeros)
    ∙ words_join 8 b n (spell size xs) (spell size ys ++ zeros) (length_spell size xs ∙ e)
    ∙ ap (λ (l : List ℕ). words 8 b l ++ words 8 n (spell size ys ++ zeros)) (sym (append-nil (spell size xs)) ∙ ap (λ (m : ℕ). spell size xs ++ replicate m 0) (sym none))

-- bytes, and zeros behind them
pub bytes_put : (len : ℕ) (ws : List ℕ) → Below 256 ws → length ws ≤ len → field_of 8 len ws ≡ ws ++ replicate (len - length ws) 0
unfolding field_of
bytes_put len ws h fits =
    let e : length ws + (len - length ws) ≡ len = omega arith in
    sym (ap (λ (m : ℕ). field_of 8 m ws) e)
    ∙ field_of_longer 8 (length ws) (len - length ws) ws (omega arith)
    ∙ ap (λ (l : List ℕ). l ++ replicate (len - length ws) 0) (words_spell 8 ws _ h)
