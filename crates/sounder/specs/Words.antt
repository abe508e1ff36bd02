-- What stands where in a Sounder documentation block (504-02 Table 3-10). Words count from 1, and each is a byte.
-- Assumes nothing.
use Rattle.std.specs.Prelude.{ℕ, ◌+◌, ◌*◌, ◌<◌, List, [], ◌∷◌, map, get_or}
use Rattle.parity.specs.Sections.{word, words_from}
use Rattle.tag.specs.Tags.{TagRead, read_by}

-- every word is below 256
abbrev pub Small : List ℕ → Type 0
Small words = (i : ℕ) → get_or words i 0 < 256

-- a number of two words, the high one first
abbrev pub number_at : ℕ → List ℕ → ℕ
number_at k words = word words k * 256 + word words (k + 1)

-- SDSTA, the status of the detectors
abbrev pub status_in : List ℕ → List ℕ
status_in words = words_from 33 42 words

-- fifteen tags of eight words, from word 59 on, counted from 0
abbrev pub tag_words : ℕ → List ℕ → List ℕ
tag_words k words = words_from (59 + 8 * k) (66 + 8 * k) words

-- Each has its own verdict, that of reading its eight words as bytes by a list.
abbrev pub tags_of : List ℕ → List ℕ → List TagRead
tags_of leaps words =
    map (λ k. read_by leaps (tag_words k words)) (0 ∷ 1 ∷ 2 ∷ 3 ∷ 4 ∷ 5 ∷ 6 ∷ 7 ∷ 8 ∷ 9 ∷ 10 ∷ 11 ∷ 12 ∷ 13 ∷ 14 ∷ [])
