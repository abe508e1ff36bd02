-- What the parity sections promise beside their verdicts. The proofs are in proofs/KeepsParity.antt and proofs/KeepsSections.antt.
-- Assumes nothing.
use Rattle.std.specs.Prelude.{ℕ, ◌+◌, ◌-◌, ◌≤◌, ◌<◌, Bool, true, false, ◌&&◌, ◌≡◌, List, [], ◌∷◌, ◌⊎◌, ◌↔◌, eqb, leb, length, get_or, take, drop}
use Rattle.ground.specs.Choice.{pick}
use Rattle.parity.specs.declared.Layout.{Layout}
use Rattle.parity.specs.declared.Layout.TheVariants.{ImagerSpacelook, SounderSpacelook}
use Rattle.parity.specs.declared.Section.{Section}
use Rattle.parity.specs.Sections.{xor_of, first_word, last_word, parity_word, word, sections_in, holds_in, sections_of}
use Rattle.parity.specs.Words.{ground_of}

-- Row 13 of the table: 01, 02, 03 joined by exclusive or is 00.
abbrev pub Row13 : Type 0
Row13 = xor_of (1 ∷ 2 ∷ 3 ∷ []) ≡ 0

-- A verdict is a matter of the section's words and its parity word alone.
abbrev pub ReadsItsOwn : Type 0
ReadsItsOwn =
    (s : Section) (u v : List ℕ) → 1 ≤ first_word s → length u ≡ length v
    → ((k : ℕ) → first_word s ≤ k → k ≤ last_word s → word u k ≡ word v k)
    → word u (parity_word s) ≡ word v (parity_word s)
    → holds_in s u ≡ holds_in s v

-- blocks of one length that agree in every word before a and after b
abbrev pub SameOutside : ℕ → ℕ → List ℕ → List ℕ → Type 0
SameOutside a b u v = (length u ≡ length v) × ((k : ℕ) → (k < a) ⊎ (b < k) → word u k ≡ word v k)

-- The fourth Imager section stops before words 7903 to 7905: if what stands there makes or mends no refusal, the answer is the same.
abbrev pub SparesUnread : Type 0
SparesUnread =
    (u v : List ℕ) → SameOutside 7903 7905 u v → ground_of u ≡ ground_of v
    → sections_of ImagerSpacelook u ≡ sections_of ImagerSpacelook v

-- How many of the sections have word k, as one of their words or as their parity word.
unfoldable pub times_in : List Section → ℕ → ℕ
times_in [] k = 0
times_in (s ∷ ss) k = pick (leb (first_word s) k && leb k (last_word s)) 1 0 + pick (eqb k (parity_word s)) 1 0 + times_in ss k

-- Every word of the Imager's block from 1 to 7906 is in one section or is the parity word of one, and no other is either, but 7903 to 7905 are
-- in none; every word of the Sounder's from 1 to 2927, with none left out.
pub record Covered : Type 0 where
  pub imager : (k : ℕ) → 1 ≤ k → k ≤ 7902 → times_in (sections_in ImagerSpacelook) k ≡ 1
  pub spares : (k : ℕ) → 7903 ≤ k → k ≤ 7905 → times_in (sections_in ImagerSpacelook) k ≡ 0
  pub imager_end : times_in (sections_in ImagerSpacelook) 7906 ≡ 1
  pub imager_behind : (k : ℕ) → 7907 ≤ k → times_in (sections_in ImagerSpacelook) k ≡ 0
  pub sounder : (k : ℕ) → 1 ≤ k → k ≤ 2927 → times_in (sections_in SounderSpacelook) k ≡ 1
  pub sounder_behind : (k : ℕ) → 2928 ≤ k → times_in (sections_in SounderSpacelook) k ≡ 0

-- A verdict is true exactly where the XOR of words a to b, counted from 1, is word p.
abbrev pub TrueWhere : Bool → ℕ → ℕ → ℕ → List ℕ → Type 0
TrueWhere verdict a b p words = (verdict ≡ true) ↔ (xor_of (take (b + 1 - a) (drop (a - 1) words)) ≡ get_or words (p - 1) 0)

abbrev pub verdict : Layout → List ℕ → ℕ → Bool
verdict layout words i = get_or (sections_of layout words).holds i false

-- The verdicts on an accepted block, section by section; the Sounder's layout has two.
pub record Judged : Type 0 where
  pub imager : (words : List ℕ) → ground_of words ≡ 0
      → TrueWhere (verdict ImagerSpacelook words 0) 1 221 222 words
      × TrueWhere (verdict ImagerSpacelook words 1) 223 701 702 words
      × TrueWhere (verdict ImagerSpacelook words 2) 703 1181 1182 words
      × TrueWhere (verdict ImagerSpacelook words 3) 1183 7902 7906 words
  pub sounder : (words : List ℕ) → ground_of words ≡ 0
      → TrueWhere (verdict SounderSpacelook words 0) 1 221 222 words
      × TrueWhere (verdict SounderSpacelook words 1) 223 2926 2927 words
      × (verdict SounderSpacelook words 2 ≡ false)
      × (verdict SounderSpacelook words 3 ≡ false)
