-- The promises of specs/Promises.antt are kept: sections that agree word by word are the same list, and the four sections of the
-- Imager layout end before word 7903, with no parity word among 7903 to 7905.
-- Assumes nothing.
use Prim.Native.Nat.{ℕ, ◌+◌, ◌-◌, ◌≤◌, ◌<◌, min}
use mathlib.Core.Path.{◌≡◌, refl, ap, ap₂, ◌∙◌, sym}
use mathlib.Core.List.{List, [], ◌∷◌}
use mathlib.Core.Logic.{◌⊎◌, inl, inr}
use native.Mathlib.Omega.{arith}
use lib.Dec.{eqb, lit<, lit≤}
use lib.ListN.{length, get_or, drop, length-take, length-drop}
use lib.Seq.{ext_get_or, get_or-take, get_or-drop}
use Rattle.ground.specs.Choice.{pick}
use Rattle.parity.specs.declared.Section.{Section}
use Rattle.parity.specs.Sections.{xor_of, ◌to◌kept_in◌, first_word, last_word, parity_word, word, words_from, holds_in, judged_as, refused_by, sections_of}
use Rattle.parity.specs.Promises.{Row13, ReadsItsOwn, SameOutside, SparesUnread}

pub row_13 : Row13
unfolding xor_of
row_13 = refl

-- the i-th word of a section is a word of the block
ith_word : (first last : ℕ) (words : List ℕ) (i : ℕ) → 1 ≤ first → i < last + 1 - first
    → get_or (words_from first last words) i 0 ≡ word words (first + i)
ith_word first last words i lo h =
    let at : first - 1 + i ≡ first + i - 1 = omega arith in
    get_or-take (last + 1 - first) (drop (first - 1) words) i 0 h ∙ get_or-drop (first - 1) words i 0 ∙ ap (λ (k : ℕ). get_or words k 0) at

same_words : (first last : ℕ) (u v : List ℕ) → 1 ≤ first → length u ≡ length v
    → ((k : ℕ) → first ≤ k → k ≤ last → word u k ≡ word v k) → words_from first last u ≡ words_from first last v
same_words first last u v lo e h =
    ext_get_or 0 (words_from first last u) (words_from first last v)
    (simp (length-take, length-drop) (ap (λ (n : ℕ). min (last + 1 - first) (n - (first - 1))) e))
    (λ i l.
    let in-section : i < last + 1 - first = omega (arith, length-take (last + 1 - first) (drop (first - 1) u)) in
    ith_word first last u i lo in-section ∙ h (first + i) (omega arith) (omega arith) ∙ sym (ith_word first last v i lo in-section))

pub reads_its_own : ReadsItsOwn
unfolding holds_in
reads_its_own s u v lo e h p = ap₂ (λ (l : List ℕ) (w : ℕ). eqb (xor_of l) w) (same_words (first_word s) (last_word s) u v lo e h) p

-- a section that ends before a, with its parity word before a or after b
untouched : (a b : ℕ) (u v : List ℕ) → SameOutside a b u v
    → (s : Section) → 1 ≤ first_word s → last_word s < a → (parity_word s < a) ⊎ (b < parity_word s) → holds_in s u ≡ holds_in s v
untouched a b u v same s lo hi p = reads_its_own s u v lo same.0 (λ k l m. same.1 k (inl (omega arith))) (same.1 (parity_word s) p)

pub spares_unread : SparesUnread
unfolding sections_of
spares_unread u v same e =
    let kept : (s : Section) → 1 ≤ first_word s → last_word s < 7903 → (parity_word s < 7903) ⊎ (7905 < parity_word s) → holds_in s u ≡ holds_in s v =
    untouched 7903 7905 u v same in
    let first = kept (1 to 221 kept_in 222) (lit≤ tt) (lit< tt) (inl (lit< tt)) in
    let second = kept (223 to 701 kept_in 702) (lit≤ tt) (lit< tt) (inl (lit< tt)) in
    let third = kept (703 to 1181 kept_in 1182) (lit≤ tt) (lit< tt) (inl (lit< tt)) in
    let fourth = kept (1183 to 7902 kept_in 7906) (lit≤ tt) (lit< tt) (inr (lit< tt)) in
    λ i. pick (eqb (e i) 0)
    (judged_as 4 (first i ∷ second i ∷ third i ∷ fourth i ∷ []))
    (refused_by (e i))
