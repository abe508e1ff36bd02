-- An information field of bytes as words of `size` bits: its words, the fill behind the last one, the field that holds given words;
-- what taking words out and putting words in answer, and what they leave in the room lent.
-- Assumes nothing.
use Rattle.std.specs.Prelude.{ℕ, ◌-◌, ◌*◌, ◌^◌, Bool, true, not, ◌&&◌, ◌||◌, List, [], ◌∷◌, ◌++◌, eqb, leb, ltb, length, drop, replicate}
use Rattle.ground.specs.Choice.{pick}
use Rattle.ground.specs.Grounds.{◌when◌, first_of}
use Rattle.bits.specs.Bits.{spell, words, sent}

-- the first `count` words of a field
unfoldable pub words_of : ℕ → ℕ → List ℕ → List ℕ
words_of size count field = words size count (sent field)

-- the bits behind its last word
unfoldable pub fill_of : ℕ → ℕ → List ℕ → List ℕ
fill_of size count field = drop (count * size) (sent field)

-- the field of `len` bytes that holds the words, every bit behind them zero
unfoldable pub field_of : ℕ → ℕ → List ℕ → List ℕ
field_of size len ws = words 8 len (spell size ws ++ replicate (len * 8 - length ws * size) 0)

-- every number of a list is zero
unfoldable pub all_zero : List ℕ → Bool
all_zero [] = true
all_zero (b ∷ bs) = eqb b 0 && all_zero bs

-- every word has at most `size` bits
unfoldable pub all_fit : ℕ → List ℕ → Bool
all_fit size [] = true
all_fit size (w ∷ ws) = ltb w (2 ^ size) && all_fit size ws

-- so many words of `size` bits fit so many bytes
abbrev pub fit : ℕ → ℕ → ℕ → Bool
fit count size len = leb (count * size) (len * 8)

-- a word of a field has from 1 to 16 bits
abbrev pub bad_size : ℕ → Bool
bad_size size = eqb size 0 || ltb 16 size

-- taking `count` words out of a field, into room for so many
abbrev pub take_answer : ℕ → ℕ → List ℕ → ℕ → ℕ
take_answer size count field room =
    first_of
    ((6 when bad_size size)
    ∷ (8 when not (fit count size (length field)))
    ∷ (9 when ltb room count)
    ∷ [])

-- the words stand at the front of the room, and behind them nothing is changed
abbrev pub room_taken : ℕ → ℕ → List ℕ → List ℕ → List ℕ
room_taken size count field room =
    pick (eqb (take_answer size count field (length room)) 0) (words_of size count field ++ drop count room) room

-- putting words into a field
abbrev pub put_answer : ℕ → List ℕ → ℕ → ℕ
put_answer size ws len =
    first_of
    ((6 when bad_size size)
    ∷ (9 when not (fit (length ws) size len))
    ∷ (14 when not (all_fit size ws))
    ∷ [])

-- the words fill all of the field lent, zeros behind them
abbrev pub field_put : ℕ → List ℕ → List ℕ → List ℕ
field_put size ws field = pick (eqb (put_answer size ws (length field)) 0) (field_of size (length field) ws) field
