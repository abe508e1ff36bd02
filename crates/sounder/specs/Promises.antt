-- What is promised of a Sounder documentation block, with any list of leap days: each place, bound and number printed as Table 3-10 and the scope
-- have them. The proofs are in proofs/KeepsFrame.antt and proofs/KeepsSounder.antt.
-- Assumes nothing.
use Rattle.std.specs.Prelude.{ℕ, ◌+◌, ◌-◌, ◌*◌, ◌≤◌, ◌<◌, ◌≡◌, ◌⊎◌, ◌↔◌, true, false, List, [], ◌∷◌, length, get_or, take, drop, replicate, None}
use Rattle.bits.specs.Bits.{sent}
use Rattle.calendar.specs.Promises.{IsList}
use Rattle.tag.specs.Tags.{TagRead, read_tag, zero_tag}
use Rattle.detectors.specs.Status.{suspects_of}
use Rattle.detectors.specs.Promises.{Inside}
use Rattle.sounder.specs.Frame.{frame_of, first_out}
use Rattle.sounder.specs.Judging.{StatusAnswer, status_of, asked_of}

-- the number of words k and k + 1, which count from 1, the high one first; and the ten words of the status
abbrev pub two : ℕ → List ℕ → ℕ
two k words = get_or words (k - 1) 0 * 256 + get_or words k 0

abbrev pub status : List ℕ → List ℕ
status words = take 10 (drop 32 words)

-- ---- the frame fields

abbrev pub OutOf : ℕ → ℕ → ℕ → Type 0
OutOf least most n = (n < least) ⊎ (most < n)

-- The field with this first word is out of its range. A west above its east counts as the eastern field out of range.
pub data Out (words : List ℕ) : ℕ → Type 0 where
  RSSCT : OutOf 1 396 (two 181 words) → Out words 181
  ASSCT : OutOf 1 396 (two 183 words) → Out words 183
  SNSLN : OutOf 1 1579 (two 185 words) → Out words 185
  SWFPX : OutOf 1 1754 (two 187 words) → Out words 187
  SEFPX : OutOf 5 1758 (two 189 words) → Out words 189
  crossed : two 189 words < two 187 words → Out words 189
  SNFLN : OutOf 1 1579 (two 191 words) → Out words 191
  SSFLN : OutOf 4 1582 (two 193 words) → Out words 193

abbrev pub NoneOut : List ℕ → Type 0
NoneOut words = (k : ℕ) → Out words k → ⊥

-- of several the lowest
pub record Lowest (words : List ℕ) (k : ℕ) : Type 0 where
  pub out : Out words k
  pub none_lower : (j : ℕ) → j < k → Out words j → ⊥

pub record Framing : Type 0 where
  pub lowest : (words : List ℕ) (k : ℕ) → (Lowest words k) ↔ ((first_out (frame_of words) ≡ k) × (k ≡ 0 → ⊥))
  pub none : (words : List ℕ) → NoneOut words ↔ (first_out (frame_of words) ≡ 0)
  -- west equal to east is good, and one above it names the east
  pub equal : first_out (12 ∷ 100 ∷ 397 ∷ 600 ∷ 600 ∷ 349 ∷ 600 ∷ []) ≡ 0
  pub above : first_out (12 ∷ 100 ∷ 397 ∷ 601 ∷ 600 ∷ 349 ∷ 600 ∷ []) ≡ 189

-- ---- the numbers of refusal

-- 8,040 words, none above 255
pub record Plain (words : List ℕ) : Type 0 where
  pub long : length words ≡ 8040
  pub small : (i : ℕ) → get_or words i 0 ≤ 255

-- the last four of the 80 bits of words 33 to 42, in the order sent
abbrev pub SpareZero : List ℕ → Type 0
SpareZero words = (i : ℕ) → 76 ≤ i → i < 80 → get_or (sent (status words)) i 0 ≡ 0

-- 8, 14, 21, 22 with the word of the lowest field, 19; the word is 0 with every other number.
pub record Numbers (leaps words : List ℕ) (number word : ℕ) : Type 0 where
  pub wrong_length : (length words ≡ 8040 → ⊥) → (number ≡ 8) × (word ≡ 0)
  pub large_word : length words ≡ 8040 → (i : ℕ) → 255 < get_or words i 0 → (number ≡ 14) × (word ≡ 0)
  pub spare_bit : Plain words → (SpareZero words → ⊥) → (number ≡ 21) × (word ≡ 0)
  pub out_of_range : Plain words → SpareZero words → (k : ℕ) → Lowest words k → (number ≡ 22) × (word ≡ k)
  pub bad_list : Plain words → SpareZero words → NoneOut words → (IsList leaps → ⊥) → (number ≡ 19) × (word ≡ 0)
  pub accepted : Plain words → SpareZero words → NoneOut words → IsList leaps → (number ≡ 0) × (word ≡ 0)

-- ---- what is given

-- the reader's own verdict on eight words as bytes, from this one on
abbrev pub read_at : List ℕ → List ℕ → ℕ → TagRead
read_at leaps words k = read_tag leaps (take 8 (drop (k - 1) words))

-- What a block says that is not refused.
pub record Says (leaps words : List ℕ) (s : StatusAnswer) : Type 0 where
  pub suspects : s.suspects ≡ (suspects_of (status words)).count
  pub first : s.first ≡ (suspects_of (status words)).first
  pub raw : s.raw ≡ two 43 words
  pub blocks : s.blocks ≡ two 45 words
  pub frame : s.frame ≡ two 181 words ∷ two 183 words ∷ two 185 words ∷ two 187 words ∷ two 189 words ∷ two 191 words ∷ two 193 words ∷ []
  pub tags : s.tags
      ≡ read_at leaps words 59 ∷ read_at leaps words 67 ∷ read_at leaps words 75 ∷ read_at leaps words 83 ∷ read_at leaps words 91 ∷ read_at leaps words 99 ∷ read_at leaps words 107 ∷ read_at leaps words 115 ∷ read_at leaps words 123 ∷ read_at leaps words 131 ∷ read_at leaps words 139 ∷ read_at leaps words 147 ∷ read_at leaps words 155
      ∷ read_at leaps words 163 ∷ read_at leaps words 171 ∷ []

pub record Judging : Type 0 where
  pub number : (leaps words : List ℕ) → Numbers leaps words (status_of leaps words).number (status_of leaps words).word
  pub word : (leaps words : List ℕ) → (status_of leaps words).number ≡ 22 → Lowest words (status_of leaps words).word
  pub no_word : (leaps words : List ℕ) → ((status_of leaps words).number ≡ 22 → ⊥) → (status_of leaps words).word ≡ 0
  pub says : (leaps words : List ℕ) → (status_of leaps words).number ≡ 0 → Says leaps words (status_of leaps words)
  pub refused : (leaps words : List ℕ) → ((status_of leaps words).number ≡ 0 → ⊥)
      → status_of leaps words
      ≡ record {
        number = (status_of leaps words).number;
        word = (status_of leaps words).word;
        suspects = 0;
        first = None;
        raw = 0;
        blocks = 0;
        frame = replicate 7 0;
        tags = replicate 15 (record { number = 0; tag = zero_tag });
      }

-- One detector that is asked for: the block's own refusals first, then 13; else whether bit i of its status is 1, where i + 5 is 4 x c + d.
pub record Asking : Type 0 where
  pub refused : (leaps words : List ℕ) (c d : ℕ) → ((status_of leaps words).number ≡ 0 → ⊥)
      → asked_of leaps words c d ≡ record { number = (status_of leaps words).number; word = (status_of leaps words).word; suspect = false }
  pub outside : (leaps words : List ℕ) (c d : ℕ) → (status_of leaps words).number ≡ 0 → (Inside c d → ⊥)
      → asked_of leaps words c d ≡ record { number = 13; word = 0; suspect = false }
  pub taken : (leaps words : List ℕ) (c d : ℕ) → (status_of leaps words).number ≡ 0 → Inside c d
      → ((asked_of leaps words c d).number ≡ 0) × ((asked_of leaps words c d).word ≡ 0)
  pub suspect : (leaps words : List ℕ) (c d i : ℕ) → (status_of leaps words).number ≡ 0 → Inside c d → i + 5 ≡ c * 4 + d
      → ((asked_of leaps words c d).suspect ≡ true) ↔ (get_or (sent (status words)) i 0 ≡ 1)
