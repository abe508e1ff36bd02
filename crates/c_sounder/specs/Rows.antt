-- The Sounder's status as C is given it: thirteen numbers in a row, and a row of eight for each tag.
-- Assumes nothing.
use Rattle.std.specs.Prelude.{ℕ, List, [], ◌∷◌, map, get_or}
use Rattle.tag.specs.Tags.{TagRead}
use Rattle.detectors.specs.Status.{channel_of, detector_of}
use Rattle.sounder.specs.Judging.{StatusAnswer}
use Rattle.c_tags.specs.Times as Times

-- the seven frame fields, at their places
abbrev pub fields_in : List ℕ → List ℕ
fields_in frame = map (λ i. get_or frame i 0) (0 ∷ 1 ∷ 2 ∷ 3 ∷ 4 ∷ 5 ∷ 6 ∷ [])

-- The word that 22 names, how many are suspect, channel and detector of the first, both counts, and the frame fields.
abbrev pub numbers_of : StatusAnswer → List ℕ
numbers_of s = s.word ∷ s.suspects ∷ channel_of s.first ∷ detector_of s.first ∷ s.raw ∷ s.blocks ∷ fields_in s.frame

-- A tag's answer, and the numbers of its time.
abbrev pub row_of : TagRead → List ℕ
row_of read = read.number ∷ Times.numbers_of read.tag
