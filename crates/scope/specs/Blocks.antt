-- What the unit receives, and the header. Assumes nothing.
use Rattle.std.specs.Prelude.{ℕ, ◌+◌, ◌*◌, ◌/◌, ◌%◌, ◌≤◌, ◌≡◌, List, [], ◌∷◌, ◌++◌, length, take, drop, set}
use Rattle.check_rule.specs.Check.{check_word}
use Rattle.row.specs.Suits.{Suits}
use Rattle.header.specs.Says.{time_in}
use Rattle.header.specs.Asks.{IsBlock}
use Rattle.block.specs.Answers.{judged_by, room_by}
use Rattle.block.specs.Promises.{ReadsMarkedAlike}
use Rattle.scope.specs.Notions.{word}
use Rattle.scope.specs.Sizes.{FieldBits}

-- ---- the check
-- The generator is x^16+x^12+x^5+1, the register starts with all ones, the remainder is complemented: the ASCII digits 123456789 have D64E.
abbrev pub Vector : Type 0
Vector = check_word (0x31 ∷ 0x32 ∷ 0x33 ∷ 0x34 ∷ 0x35 ∷ 0x36 ∷ 0x37 ∷ 0x38 ∷ 0x39 ∷ []) ≡ 0xD64E

-- A check agrees: a message is followed by its check word, high byte first.
pub record Agrees (s : List ℕ) : Type 0 where
  pub message : List ℕ
  pub followed : s ≡ message ++ (check_word message / 256 ∷ check_word message % 256 ∷ [])

-- ---- the three copies
-- Three copies of the header, thirty bytes each, with nothing between them: bytes 0-29, 30-59, 60-89.
pub data Copy (block : List ℕ) : List ℕ → Type 0 where
  first : Copy block (take 30 block)
  second : Copy block (take 30 (drop 30 block))
  third : Copy block (take 30 (drop 60 block))

-- A copy passes where its check agrees.
pub record Passing (block c : List ℕ) : Type 0 where
  pub copy : Copy block c
  pub agrees : Agrees c

-- Copies that pass must all be equal, and the header is what they have in common. An answer gives its first 28 bytes.
pub record Header (block h : List ℕ) : Type 0 where
  pub long : 90 ≤ length block
  pub common : List ℕ
  pub passing : Passing block common
  pub only : (c : List ℕ) → Passing block c → c ≡ common
  pub given : h ≡ take 28 common

-- ---- what a header says
-- Word 1: the block id, by the codes that `IsBlock` of the crate `header` prints; 2: the size of the field's words; 3-4: C and two more,
-- high byte first; 8: the version, 0 to 3. C counts the data words of the field, without fill. So many bits is the field long.
pub record Asked (h : List ℕ) : Type 0 where
  pub block : ℕ
  pub version : ℕ
  pub size : ℕ
  pub words : ℕ
  pub bits : ℕ
  pub id : IsBlock (word 1 h) block
  pub sized : word 2 h ≡ size
  pub counted : word 3 h * 256 + word 4 h ≡ words + 2
  pub versioned : word 8 h ≡ version
  pub known : version ≤ 3
  pub suits : Suits block version size words
  pub long : FieldBits block words bits

pub record Unread : Type 0 where
  -- Word 9: data that is marked not valid is read all the same. Set to any mark, it changes neither answer nor room,
  pub answer : (h block : List ℕ) (lent mark : ℕ) → judged_by (set h 8 mark) block lent ≡ judged_by h block lent
  pub left : (h block room : List ℕ) (mark : ℕ) → room_by (set h 8 mark) block room ≡ room_by h block room
  -- and blocks sent alike but for it are read alike.
  pub marked : ReadsMarkedAlike
  -- Words 17-24 are the SPS time.
  pub eight : (h : List ℕ) → length h ≡ 28 → length (time_in h) ≡ 8
  pub time : (h : List ℕ) (k : ℕ) → 1 ≤ k → k ≤ 8 → word k (time_in h) ≡ word (16 + k) h
