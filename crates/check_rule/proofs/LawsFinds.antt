-- A check whose generator has the term 1 finds every alteration inside a run of 16 bits. A step can be undone where the bit is known, so
-- equal registers were equal before equal bits; and 16 bits or fewer, from one register, lead to different registers where they differ.
-- Assumes nothing.
use mathlib.Core.Path.{◌≡◌, refl, sym, ap, ap₂, ◌∙◌, subst}
use mathlib.Core.Logic.{inl, inr, ⊎_elim}
use mathlib.Core.List.{List, [], ◌∷◌, ◌++◌, append-nil}
use Prim.Native.Nat.{ℕ, ◌+◌, ◌-◌, ◌*◌, ◌/◌, ◌%◌, ◌^◌, ◌<◌, ◌≤◌, min}
use native.Mathlib.Nat.{div-add-mod', mul_assoc, mul-mod_left, div-one, add_comm, mod-lt}
use native.Mathlib.Omega.{arith}
use lib.Dec.{lit<}
use lib.ListN.{length, take, drop, get_or, length-take, length-drop, take-append-drop, get_or-eq_default}
use lib.Seq.{ext_get_or, get_or-take, get_or-drop, drop-drop}
use lib.Pow.{pow_pos, pow-add, shl_lt, shl-shr, shr_lt}
use lib.Bits.{bit_xor, xor_mod, xor_comm, xor_self, xor_zero_r, xor_lt}
use Rattle.bits.specs.Bits.{bits, value, spell, sent, words, Below}
use Rattle.bits.specs.Runs.{InRun}
use Rattle.bits.proofs.LawsBelow.{below_take, below_drop}
use Rattle.bits.proofs.LawsBits.{bits_below, bits_join, value_lt, bits_value}
use Rattle.bits.proofs.LawsWords.{length_spell, spell_below, spell_append, spell_cons, spell_nil, words_spell}
use Rattle.check_rule.specs.Check.{fed, feed, check_by, generator, bytes_of}
use Rattle.check_rule.specs.Finds.{Passes, FindsRuns, FindsSixteen}
use Rattle.check_rule.proofs.LawsXor.{bit, xor_cancel}
use Rattle.check_rule.proofs.LawsFeed.{top_lt, fed_lt, feed_lt, shift_out, feed_from, feed_append}

cancel_right : (a : ℕ) {b c : ℕ} → bit_xor b a ≡ bit_xor c a → b ≡ c
cancel_right a {b} {c} e = xor_cancel a (xor_comm a b ∙ e ∙ xor_comm c a)

-- the low 15 bits move up
double_mod : (r : ℕ) → r * 2 % 65536 ≡ r % 32768 * 2
double_mod r = omega arith

-- bytes are known by their bits
sent_inj : (x y : List ℕ) → Below 256 x → Below 256 y → length x ≡ length y → sent x ≡ sent y → x ≡ y
sent_inj x y hx hy l e = sym (back x hx) ∙ ap₂ (words 8) l e ∙ back y hy
  where
    back : (x : List ℕ) → Below 256 x → words 8 (length x) (sent x) ≡ x
    back x h = ap (words 8 (length x)) (sym (append-nil (sent x))) ∙ words_spell 8 x [] h

module _ (g : ℕ) (hg : g < 65536) where
  -- n bits into the empty register are n zeros into a register that begins with them
  feed_zeros : (n m : ℕ) → n + m ≡ 16 → (k : ℕ) → k < 2 ^ n → feed g 0 (bits n k) ≡ feed g (k * 2 ^ m) (bits n 0)
  feed_zeros n m e k hk =
      let a = k * 2 ^ m in
      let ha : a < 65536 = subst (λ (x : ℕ). a < 2 ^ x) e (shl_lt n m hk) in
      let gone : a * 2 ^ n % 65536 ≡ 0 =
      ap (λ (x : ℕ). x % 65536) (mul_assoc k (2 ^ m) (2 ^ n) ∙ ap (λ (x : ℕ). k * x) (sym (pow-add 2 m n) ∙ ap (λ (x : ℕ). 2 ^ x) (add_comm m n ∙ e)))
      ∙ mul-mod_left k 65536 in
      sym
      (sym (ap₂ (λ (x y : ℕ). feed g x (bits n y)) (xor_zero_r a) (ap (λ (x : ℕ). bit_xor x k) (shl-shr k m) ∙ xor_self k))
      ∙ shift_out g hg n m e a 0 k ha (lit< tt)
      ∙ ap (λ (x : ℕ). bit_xor x (feed g 0 (bits n k))) gone)

  module _ (odd : g % 2 ≡ 1) where
    -- the bit that comes in at the bottom
    fed_low : (r b : ℕ) → r < 65536 → b < 2 → fed g r b % 2 ≡ bit_xor (r / 32768) b
    unfolding fed
    fed_low r b hr hb =
        xor_mod (r * 2 % 65536) (bit_xor (r / 32768) b * g) 1
        ∙ ap (λ (x : ℕ). bit_xor x (bit_xor (r / 32768) b * g % 2)) (even r)
        ∙ bit (λ x. x * g % 2 ≡ x) (omega arith) (omega arith) (bit_xor (r / 32768) b) (xor_lt 1 (r / 32768) b (top_lt hr) hb)
      where
        even : (r : ℕ) → r * 2 % 65536 % 2 ≡ 0
        even r = omega arith

    fed_inj : (r q b : ℕ) → r < 65536 → q < 65536 → b < 2 → fed g r b ≡ fed g q b → r ≡ q
    unfolding fed
    fed_inj r q b hr hq hb e =
        let t : bit_xor (r / 32768) b ≡ bit_xor (q / 32768) b = sym (fed_low r b hr hb) ∙ ap (λ (x : ℕ). x % 2) e ∙ fed_low q b hq hb in
        let hi : r / 32768 ≡ q / 32768 = cancel_right b t in
        let lo : r * 2 % 65536 ≡ q * 2 % 65536 = cancel_right (bit_xor (q / 32768) b * g) (ap (λ (x : ℕ). bit_xor (r * 2 % 65536) (x * g)) (sym t) ∙ e) in
        omega (arith, double_mod r, double_mod q)

    feed_inj : (r q : ℕ) (bs : List ℕ) → r < 65536 → q < 65536 → Below 2 bs → feed g r bs ≡ feed g q bs → r ≡ q
    unfolding feed
    feed_inj r q [] hr hq h e = e
    feed_inj r q (b ∷ bs) hr hq h e =
        fed_inj r q b hr hq h.0 (feed_inj (fed g r b) (fed g q b) bs (fed_lt g r b hg hr h.0) (fed_lt g q b hg hq h.0) h.1 e)

    -- a window of at most 16 bits
    window : (n m : ℕ) → n + m ≡ 16 → (r v w : ℕ) → r < 65536 → v < 2 ^ n → w < 2 ^ n → feed g r (bits n v) ≡ feed g r (bits n w) → v ≡ w
    window n m e r v w hr hv hw p =
        let top : r / 2 ^ m < 2 ^ n = shr_lt n m (subst (λ (x : ℕ). r < 2 ^ x) (sym e) hr) in
        let hj : bit_xor (r / 2 ^ m) v < 2 ^ n = xor_lt n (r / 2 ^ m) v top hv in
        let hk : bit_xor (r / 2 ^ m) w < 2 ^ n = xor_lt n (r / 2 ^ m) w top hw in
        let q : feed g 0 (bits n (bit_xor (r / 2 ^ m) v)) ≡ feed g 0 (bits n (bit_xor (r / 2 ^ m) w)) =
        xor_cancel (r * 2 ^ n % 65536) (sym (feed_from g hg n m e r v hr) ∙ p ∙ feed_from g hg n m e r w hr) in
        let s : bit_xor (r / 2 ^ m) v * 2 ^ m ≡ bit_xor (r / 2 ^ m) w * 2 ^ m =
        feed_inj _ _ (bits n 0) (subst (λ (x : ℕ). bit_xor (r / 2 ^ m) v * 2 ^ m < 2 ^ x) e (shl_lt n m hj)) (subst (λ (x : ℕ). bit_xor (r / 2 ^ m) w * 2 ^ m < 2 ^ x) e (shl_lt n m hk))
        (bits_below n 0) (sym (feed_zeros n m e _ hj) ∙ q ∙ feed_zeros n m e _ hk) in
        xor_cancel (r / 2 ^ m) (sym (shl-shr _ m) ∙ ap (λ (x : ℕ). x / 2 ^ m) s ∙ shl-shr _ m)

    window_list : (r : ℕ) (u v : List ℕ) → r < 65536 → Below 2 u → Below 2 v → length u ≡ length v → length u ≤ 16 → feed g r u ≡ feed g r v → u ≡ v
    window_list r u v hr hu hv e l p =
        let fit : value v < 2 ^ length u = subst (λ (n : ℕ). value v < 2 ^ n) (sym e) (value_lt v hv) in
        let back : bits (length u) (value v) ≡ v = ap (λ (n : ℕ). bits n (value v)) e ∙ bits_value v hv in
        let full : length u + (16 - length u) ≡ 16 = omega arith in
        sym (bits_value u hu)
        ∙ ap (bits (length u)) (window (length u) (16 - length u) full r (value u) (value v) hr (value_lt u hu) fit (ap (feed g r) (bits_value u hu) ∙ p ∙ ap (feed g r) (sym back)))
        ∙ back

    -- equal registers at the end, from one register, after bits that differ in a run of 16 at most: they do not differ
    run_bits : (r : ℕ) (u v : List ℕ) → r < 65536 → Below 2 u → Below 2 v → length u ≡ length v → InRun 16 u v → feed g r u ≡ feed g r v → u ≡ v
    run_bits r u v hr hu hv e b p =
        let k = b.0 in
        let before : take k u ≡ take k v =
        ext_get_or 0 (take k u) (take k v) (simp length-take (ap (λ (n : ℕ). min k n) e))
        (λ i l. let h : i < k = omega (arith, length-take k u) in get_or-take k u i 0 h ∙ b.1 i (inl h) ∙ sym (get_or-take k v i 0 h)) in
        let after : drop 16 (drop k u) ≡ drop 16 (drop k v) =
        drop-drop 16 k u
        ∙ ext_get_or 0 (drop (k + 16) u) (drop (k + 16) v) (simp length-drop (ap (λ (n : ℕ). n - (k + 16)) e))
        (λ i l. get_or-drop (k + 16) u i 0 ∙ b.1 (k + 16 + i) (inr (omega arith)) ∙ sym (get_or-drop (k + 16) v i 0))
        ∙ sym (drop-drop 16 k v) in
        let q = feed g r (take k u) in
        let hq : q < 65536 = feed_lt g hg r (take k u) hr (below_take 2 k u hu) in
        let du : Below 2 (drop k u) = below_drop 2 k u hu in
        let dv : Below 2 (drop k v) = below_drop 2 k v hv in
        let wu : Below 2 (take 16 (drop k u)) = below_take 2 16 (drop k u) du in
        let wv : Below 2 (take 16 (drop k v)) = below_take 2 16 (drop k v) dv in
        let through : feed g (feed g q (take 16 (drop k u))) (drop 16 (drop k u)) ≡ feed g (feed g q (take 16 (drop k v))) (drop 16 (drop k u)) =
        sym (parts r u k) ∙ p ∙ parts r v k
        ∙ ap₂ (λ (a c : List ℕ). feed g (feed g (feed g r a) (take 16 (drop k v))) c) (sym before) (sym after) in
        let inside : take 16 (drop k u) ≡ take 16 (drop k v) =
        window_list q (take 16 (drop k u)) (take 16 (drop k v)) hq wu wv
        (simp (length-take, length-drop) (ap (λ (n : ℕ). min 16 (n - k)) e))
        (omega (arith, length-take 16 (drop k u)))
        (feed_inj _ _ (drop 16 (drop k u)) (feed_lt g hg q (take 16 (drop k u)) hq wu) (feed_lt g hg q (take 16 (drop k v)) hq wv) (below_drop 2 16 (drop k u) du) through) in
        sym (cut u k) ∙ ap₂ (λ (a c : List ℕ). a ++ c) before (ap₂ (λ (a c : List ℕ). a ++ c) inside after) ∙ cut v k
      where
        cut : (l : List ℕ) (k : ℕ) → take k l ++ (take 16 (drop k l) ++ drop 16 (drop k l)) ≡ l
        cut l k = ap (λ (a : List ℕ). take k l ++ a) (take-append-drop 16 (drop k l)) ∙ take-append-drop k l

        parts : (r : ℕ) (l : List ℕ) (k : ℕ) → feed g r l ≡ feed g (feed g (feed g r (take k l)) (take 16 (drop k l))) (drop 16 (drop k l))
        parts r l k =
            ap (feed g r) (sym (cut l k)) ∙ feed_append g r (take k l) (take 16 (drop k l) ++ drop 16 (drop k l))
            ∙ feed_append g (feed g r (take k l)) (take 16 (drop k l)) (drop 16 (drop k l))

  -- a word that is the register plus k, fed to that register, leaves what k leaves in the empty one
  word : (n : ℕ) → n + 0 ≡ 16 → (r k : ℕ) → r < 65536 → feed g r (bits n (bit_xor r k)) ≡ feed g 0 (bits n k)
  word n e r k hr =
      let e' : n ≡ 16 = omega arith in
      sym (ap₂ (λ (x y : ℕ). feed g x (bits n (bit_xor y k))) (xor_zero_r r) (div-one r))
      ∙ shift_out g hg n 0 e r 0 k hr (lit< tt)
      ∙ ap (λ (x : ℕ). bit_xor x (feed g 0 (bits n k))) (ap (λ (x : ℕ). r * 2 ^ x % 65536) e' ∙ mul-mod_left r 65536)

  -- where a string passes, the register ends at one value, whatever the message
  pub passes_ends : (s : List ℕ) → Passes g s → feed g 0xFFFF (sent s) ≡ feed g 0 (bits 16 0xFFFF)
  unfolding check_by
  passes_ends s p =
      let m = p.message in
      let w = check_by g m in
      let r = feed g 0xFFFF (sent m) in
      let hr : r < 65536 = feed_lt g hg 0xFFFF (sent m) (lit< tt) (spell_below 8 m) in
      ap (λ (l : List ℕ). feed g 0xFFFF (sent l)) p.followed
      ∙ ap (feed g 0xFFFF) (spell_append 8 m (bytes_of w))
      ∙ feed_append g 0xFFFF (sent m) (sent (bytes_of w))
      ∙ ap (feed g r) (sent_word w)
      ∙ word 16 refl r 0xFFFF hr
    where
      -- the two bytes of a word as sent are its bits
      sent_word : (w : ℕ) → sent (bytes_of w) ≡ bits 16 w
      sent_word w =
          spell_cons 8 (w / 256) (w % 256 ∷ [])
          ∙ ap (λ (l : List ℕ). bits 8 (w / 256) ++ l) (spell_cons 8 (w % 256) [] ∙ ap (λ (l : List ℕ). bits 8 (w % 256) ++ l) (spell_nil 8) ∙ append-nil (bits 8 (w % 256)))
          ∙ sym (bits_join 8 8 (w / 256) (w % 256) (mod-lt w (pow_pos 8))) ∙ ap (bits 16) (div-add-mod' w 256)

-- ---- what is promised

pub finds_runs : FindsSixteen
finds_runs g hg odd x y hx h ne px py =
    let same : length x ≡ length y = sym h.long in
    let long : length (sent x) ≡ length (sent y) = length_spell 8 x ∙ ap (λ (n : ℕ). n * 8) same ∙ sym (length_spell 8 y) in
    ne (sent_inj x y hx h.bytes same
    (run_bits g hg odd 0xFFFF (sent x) (sent y) (lit< tt) (spell_below 8 x) (spell_below 8 y) long h.run
    (passes_ends g hg x px ∙ sym (passes_ends g hg y py))))

pub our_check_finds_runs : FindsRuns generator 16
our_check_finds_runs = finds_runs generator (lit< tt) refl

-- every message passes with its check word behind it
pub sealed : (g : ℕ) (m : List ℕ) → Passes g (m ++ bytes_of (check_by g m))
sealed g m = record { message = m; followed = refl }

-- 16 is the most: the generator itself is 17 bits long, and added to a string that passes it leaves one that passes
pub seventeen_are_too_many : FindsRuns generator 17 → ⊥
unfolding bits spell fed feed check_by
seventeen_are_too_many finds =
    let x : List ℕ = 0 ∷ 30 ∷ 15 ∷ [] in
    let y : List ℕ = 1 ∷ 14 ∷ 46 ∷ [] in
    let run : InRun 17 (sent x) (sent y) =
    (7, λ i o. ⊎_elim (λ h. sym (get_or-take 7 (sent x) i 0 h) ∙ get_or-take 7 (sent y) i 0 h) (λ h. get_or-eq_default (sent x) 0 h ∙ sym (get_or-eq_default (sent y) 0 h)) o) in
    finds x y (lit< tt, (lit< tt, (lit< tt, tt))) (record { bytes = (lit< tt, (lit< tt, (lit< tt, tt))); long = refl; run = run })
    (λ e. let h : ◌≡◌ {A = ℕ} 0 1 = ap (λ (l : List ℕ). get_or l 0 0) e in omega arith)
    (record { message = 0 ∷ []; followed = refl }) (record { message = 1 ∷ []; followed = refl })
