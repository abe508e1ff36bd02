-- The laws of `all_zero` and `all_fit`, and where the fill begins: within a byte, or at its first bit.
-- Assumes nothing.
use mathlib.Core.Path.{◌≡◌, refl, sym, ap, ap₂, ◌∙◌}
use mathlib.Core.Bool.{Bool, true, false, ◌&&◌}
use mathlib.Core.List.{List, [], ◌∷◌, ◌++◌, append_assoc}
use Prim.Native.Nat.{ℕ, zero, suc, ◌+◌, ◌-◌, ◌*◌, ◌/◌, ◌%◌, ◌^◌, ◌≤◌, ◌<◌}
use native.Mathlib.Nat.{mod-lt, mod-eq_of_lt}
use native.Mathlib.Omega.{arith}
use borrow.Author.Tests.{eq-eqb, ne_eqb, eqb-true, lt-ltb, ltb-true}
use lib.Dec.{eqb, ltb}
use lib.ListN.{length, get_or, drop, replicate, drop_of_length-le}
use lib.Seq.{drop_at, drop-drop}
use lib.Bits.{bit_or, or_lt, or_add_and, and_le_l, and_le_r}
use lib.Pow.{pow_pos}
use Rattle.std.specs.List.{fold}
use Rattle.ground.proofs.LawsTests.{both, first, second, and_true, and_assoc}
use Rattle.bits.specs.Bits.{bits, value, sent, Below}
use Rattle.bits.specs.Fields.{fill_of, all_zero, all_fit}
use Rattle.bits.proofs.LawsBits.{length_bits, bits_split, bits_zero, value_bits}
use Rattle.bits.proofs.LawsWords.{length_spell, spell_next, spell_nil, spell_cons, drop_spell}

pub zero_all : (bs : List ℕ) → all_zero bs ≡ true → bs ≡ replicate (length bs) 0
unfolding all_zero
zero_all [] h = refl
zero_all (b ∷ bs) h =
    ap₂ (λ (x : ℕ) (l : List ℕ). x ∷ l) (eqb-true b 0 (first (eqb b 0) (all_zero bs) h)) (zero_all bs (second (eqb b 0) (all_zero bs) h))

pub all_zero_is : (k : ℕ) → all_zero (replicate k 0) ≡ true
unfolding all_zero
all_zero_is zero = refl
all_zero_is (suc k) = all_zero_is k

zero_append : (xs ys : List ℕ) → all_zero (xs ++ ys) ≡ all_zero xs && all_zero ys
unfolding all_zero
zero_append [] ys = refl
zero_append (x ∷ xs) ys = ap (λ (t : Bool). eqb x 0 && t) (zero_append xs ys) ∙ sym (and_assoc (eqb x 0) (all_zero xs) (all_zero ys))

-- two tests that hold together are one
pub same_tests : (t u : Bool) → (t ≡ true → u ≡ true) → (u ≡ true → t ≡ true) → t ≡ u
same_tests true u f g = sym (f refl)
same_tests false true f g = g refl
same_tests false false f g = refl

-- a test that a number passes where a larger one does, and bits joined where both numbers do: of two numbers at once, by their bits joined
module _
    (one : ℕ → Bool)
    (smaller : (m n : ℕ) → m ≤ n → one n ≡ true → one m ≡ true)
    (joined : (a b : ℕ) → one a ≡ true → one b ≡ true → one (bit_or a b) ≡ true) where
  or_test : (a b : ℕ) → one (bit_or a b) ≡ one a && one b
  or_test a b =
      let la : a ≤ bit_or a b = omega (arith, or_add_and a b, and_le_r a b) in
      let lb : b ≤ bit_or a b = omega (arith, or_add_and a b, and_le_l a b) in
      same_tests (one (bit_or a b)) (one a && one b)
      (λ e. both (smaller a (bit_or a b) la e) (smaller b (bit_or a b) lb e))
      (λ e. joined a b (first (one a) (one b) e) (second (one a) (one b) e))

or_zero : (a b : ℕ) → eqb (bit_or a b) 0 ≡ eqb a 0 && eqb b 0
or_zero =
    or_test (λ n. eqb n 0)
    (λ m n h e. eq-eqb m 0 (omega (arith, eqb-true n 0 e)))
    (λ a b ea eb. eq-eqb (bit_or a b) 0 (omega (arith, or_add_and a b, eqb-true a 0 ea, eqb-true b 0 eb)))

or_fits : (size a b : ℕ) → ltb (bit_or a b) (2 ^ size) ≡ ltb a (2 ^ size) && ltb b (2 ^ size)
or_fits size =
    or_test (λ n. ltb n (2 ^ size))
    (λ m n h e. lt-ltb m (2 ^ size) (omega (arith, ltb-true n (2 ^ size) e)))
    (λ a b ea eb. lt-ltb (bit_or a b) (2 ^ size) (or_lt size a b (ltb-true a (2 ^ size) ea) (ltb-true b (2 ^ size) eb)))

-- a word is zero exactly where none of its bits is set
pub zero_bits : (k n : ℕ) → n < 2 ^ k → all_zero (bits k n) ≡ eqb n 0
zero_bits k n h = same_tests (all_zero (bits k n)) (eqb n 0) only none
  where
    none : eqb n 0 ≡ true → all_zero (bits k n) ≡ true
    none e = ap (λ (m : ℕ). all_zero (bits k m)) (eqb-true n 0 e) ∙ ap all_zero (bits_zero k) ∙ all_zero_is k

    only : all_zero (bits k n) ≡ true → eqb n 0 ≡ true
    only e =
        eq-eqb n 0
        (sym (mod-eq_of_lt h) ∙ sym (value_bits k n)
        ∙ ap value (zero_all (bits k n) e ∙ ap (λ (m : ℕ). replicate m 0) (length_bits k n) ∙ sym (bits_zero k))
        ∙ value_bits k 0 ∙ mod-eq_of_lt (pow_pos k))

-- where the words end inside the byte at k, the fill is that byte's low bits and then all bytes behind it
pub fill_inside : (field : List ℕ) (k inside : ℕ) → k < length field → inside ≤ 8
    → drop (k * 8 + inside) (sent field) ≡ bits (8 - inside) (get_or field k 0 % 2 ^ (8 - inside)) ++ sent (drop (k + 1) field)
fill_inside field k inside h l =
    let b = get_or field k 0 in
    let rest = sent (drop (k + 1) field) in
    let e : 8 ≡ inside + (8 - inside) = omega arith in
    sym (drop-drop inside (k * 8) (sent field))
    ∙ ap (drop inside) (drop_spell 8 k field ∙ spell_next 8 field k h)
    ∙ ap (λ (m : ℕ). drop inside (bits m b ++ rest)) e
    ∙ ap (λ (x : List ℕ). drop inside (x ++ rest)) (bits_split inside (8 - inside) b)
    ∙ ap (drop inside) (append_assoc (bits inside (b / 2 ^ (8 - inside))) (bits (8 - inside) (b % 2 ^ (8 - inside))) rest)
    ∙ drop_at (bits inside (b / 2 ^ (8 - inside))) _ inside (length_bits inside (b / 2 ^ (8 - inside)))

-- the fill begins at a byte's first bit
pub fill_at : (size count k : ℕ) (field : List ℕ) → count * size ≡ k * 8 → fill_of size count field ≡ sent (drop k field)
unfolding fill_of
fill_at size count k field e = ap (λ (m : ℕ). drop m (sent field)) e ∙ drop_spell 8 k field

-- the fill begins inside a byte: it is zero where that byte's low bits are, and the bytes behind it
module _ (size count k inside : ℕ) (field : List ℕ) (e : count * size ≡ k * 8 + inside) (l : k < length field) (h : inside ≤ 8) where
  low : ℕ
  low = get_or field k 0 % 2 ^ (8 - inside)

  fill_splits : all_zero (fill_of size count field) ≡ eqb low 0 && all_zero (sent (drop (k + 1) field))
  unfolding fill_of low
  fill_splits =
      ap all_zero (ap (λ (m : ℕ). drop m (sent field)) e ∙ fill_inside field k inside l h)
      ∙ zero_append (bits (8 - inside) low) _
      ∙ ap (λ (t : Bool). t && all_zero (sent (drop (k + 1) field))) (zero_bits (8 - inside) low (mod-lt (get_or field k 0) (pow_pos (8 - inside))))

  pub fill_stops : (get_or field k 0 % 2 ^ (8 - inside) ≡ 0 → ⊥) → all_zero (fill_of size count field) ≡ false
  unfolding low
  fill_stops ne = fill_splits ∙ ap (λ (t : Bool). t && all_zero (sent (drop (k + 1) field))) (ne_eqb low 0 ne)

  pub fill_goes_on : get_or field k 0 % 2 ^ (8 - inside) ≡ 0 → all_zero (fill_of size count field) ≡ all_zero (sent (drop (k + 1) field))
  unfolding low
  fill_goes_on z = fill_splits ∙ ap (λ (t : Bool). t && all_zero (sent (drop (k + 1) field))) (eq-eqb low 0 z)

-- words that take up the whole field leave no fill
pub fill_none : (size count : ℕ) (field : List ℕ) → length field * 8 ≤ count * size → all_zero (fill_of size count field) ≡ true
unfolding fill_of all_zero
fill_none size count field h = let l : length (sent field) ≤ count * size = omega (arith, length_spell 8 field) in ap all_zero (drop_of_length-le (sent field) l)

-- ---- a test of every byte, or of every word, by the bits of all of them joined

pub zero_joined : (any : ℕ) (bytes : List ℕ) → Below 256 bytes → eqb (fold bit_or any bytes) 0 ≡ eqb any 0 && all_zero (sent bytes)
unfolding all_zero
zero_joined any [] h = and_true (eqb any 0) ∙ ap (λ (t : Bool). eqb any 0 && t) (sym (ap all_zero (spell_nil 8)))
zero_joined any (b ∷ bytes) h =
    let rest = all_zero (sent bytes) in
    zero_joined (bit_or any b) bytes h.1
    ∙ ap (λ (t : Bool). t && rest) (or_zero any b)
    ∙ and_assoc (eqb any 0) (eqb b 0) rest
    ∙ ap (λ (t : Bool). eqb any 0 && t)
    (sym (ap all_zero (spell_cons 8 b bytes) ∙ zero_append (bits 8 b) (sent bytes) ∙ ap (λ (t : Bool). t && rest) (zero_bits 8 b h.0)))

pub fit_joined : (size any : ℕ) (ws : List ℕ) → ltb (fold bit_or any ws) (2 ^ size) ≡ ltb any (2 ^ size) && all_fit size ws
unfolding all_fit
fit_joined size any [] = and_true (ltb any (2 ^ size))
fit_joined size any (w ∷ ws) =
    fit_joined size (bit_or any w) ws
    ∙ ap (λ (t : Bool). t && all_fit size ws) (or_fits size any w)
    ∙ and_assoc (ltb any (2 ^ size)) (ltb w (2 ^ size)) (all_fit size ws)

-- every word has its size exactly where all of them are below the power
pub fit_below : (size : ℕ) (ws : List ℕ) → all_fit size ws ≡ true → Below (2 ^ size) ws
unfolding all_fit
fit_below size [] h = tt
fit_below size (w ∷ ws) h =
    (ltb-true w (2 ^ size) (first (ltb w (2 ^ size)) (all_fit size ws) h), fit_below size ws (second (ltb w (2 ^ size)) (all_fit size ws) h))

pub below_fit : (size : ℕ) (ws : List ℕ) → Below (2 ^ size) ws → all_fit size ws ≡ true
unfolding all_fit
below_fit size [] h = refl
below_fit size (w ∷ ws) h = ap₂ (λ (a b : Bool). a && b) (lt-ltb w (2 ^ size) h.0) (below_fit size ws h.1)
