-- What the reader promises of blocks, which are bytes.
-- Assumes nothing.
use Rattle.std.specs.Prelude.{ℕ, ◌-◌, ◌^◌, ◌<◌, ◌≤◌, ◌≡◌, ◌↔◌, ◌⊎◌, true, List, ◌∷◌, ◌++◌, length, take, drop, set}
use Rattle.ground.specs.Grounds.{Ground, first_of, NoneHolds}
use Rattle.bits.specs.Bits.{Below, spell, words, sent}
use Rattle.bits.specs.Fields.{fill_of}
use Rattle.bits.specs.Runs.{Altered}
use Rattle.check_rule.specs.Check.{generator}
use Rattle.check_rule.specs.Finds.{Passes}
use Rattle.row.specs.Field.{field_bytes, fill_bits}
use Rattle.row.specs.Promises.{most_words}
use Rattle.copies.specs.Copies.{header_length, copies_length, copy_at, header_in}
use Rattle.copies.specs.Agreed.{ThreeEqual, Agreed, NoneAgreed}
use Rattle.block.specs.Layout.{information_field}
use Rattle.block.specs.Grounds.{grounds_by, grounds_of}
use Rattle.block.specs.Answers.{refused_judged, judged_by, room_by, refused_answer, answer_of, room_after}
use Rattle.block.specs.Meets.{Meets}

abbrev pub Accepted : List ℕ → ℕ → Type 0
Accepted block room = (answer_of block room).number ≡ 0

-- ---- refusals

-- The number given is that of the first ground of the list that holds.
abbrev pub RefusesInOrder : Type 0
RefusesInOrder = (block : List ℕ) (lent : ℕ) → (answer_of block lent).number ≡ first_of (grounds_of block (header_in block) lent)

-- Each refusal is given exactly on its ground: it holds, and none before it in the list does.
abbrev pub RefusesExactly : Type 0
RefusesExactly =
    (block : List ℕ) (lent : ℕ) (before : List Ground) (g : Ground) (after : List Ground) → grounds_of block (header_in block) lent ≡ before ++ (g ∷ after)
    → ((answer_of block lent).number ≡ g.number) ↔ (NoneHolds before × (g.holds ≡ true))

-- Every count, mark and header byte in a refusal is zero, and it leaves every lent word unchanged.
pub record RefusalLeaves : Type 0 where
  pub zeros : (block : List ℕ) (lent : ℕ) → (Accepted block lent → ⊥) → answer_of block lent ≡ refused_answer (answer_of block lent).number
  pub unchanged : (block room : List ℕ) → (Accepted block (length room) → ⊥) → room_after block room ≡ room

-- The reader answers 2 exactly for 90 bytes or more in which none of the three copies passes.
abbrev pub TwoExactly : Type 0
TwoExactly = (block : List ℕ) (lent : ℕ) → Below 256 block → ((answer_of block lent).number ≡ 2) ↔ NoneAgreed block

-- Refusal 17 is given to no block: every field is an even number of bytes.
abbrev pub SeventeenNever : Type 0
SeventeenNever = (block : List ℕ) (lent : ℕ) → (answer_of block lent).number ≡ 17 → ⊥

-- Room for the words of the largest block is room for any: 9 is not given.
abbrev pub NineNever : Type 0
NineNever = (block : List ℕ) (lent : ℕ) → most_words ≤ lent → (answer_of block lent).number ≡ 9 → ⊥

-- The fill that is tested has as many bits as the field has beside its words.
abbrev pub FillMeasured : Type 0
FillMeasured = (number size count : ℕ) (field : List ℕ) → length field ≡ field_bytes number count → length (fill_of size count field) ≡ fill_bits number size count

-- ---- reading by a lent header

-- It refuses in the order of its list, each refusal is given exactly on its ground, and a refusal is its number and zero, and leaves every
-- lent word unchanged.
pub record JudgesInOrder : Type 0 where
  pub first : (h block : List ℕ) (lent : ℕ) → (judged_by h block lent).number ≡ first_of (grounds_by h block lent)
  pub exactly : (h block : List ℕ) (lent : ℕ) (before : List Ground) (g : Ground) (after : List Ground) → grounds_by h block lent ≡ before ++ (g ∷ after)
      → ((judged_by h block lent).number ≡ g.number) ↔ (NoneHolds before × (g.holds ≡ true))
  pub zeros : (h block : List ℕ) (lent : ℕ) → ((judged_by h block lent).number ≡ 0 → ⊥) → judged_by h block lent ≡ refused_judged (judged_by h block lent).number
  pub unchanged : (h block room : List ℕ) → ((judged_by h block (length room)).number ≡ 0 → ⊥) → room_by h block room ≡ room

-- A block whose copies agree on one is read by the first 28 bytes of that one.
pub record ReadsByCommon : Type 0 where
  pub number : (block c : List ℕ) (lent : ℕ) → Below 256 block → Agreed block c → (answer_of block lent).number ≡ (judged_by (take header_length c) block lent).number
  pub count : (block c : List ℕ) (lent : ℕ) → Below 256 block → Agreed block c → (answer_of block lent).words ≡ (judged_by (take header_length c) block lent).words
  pub left : (block c room : List ℕ) → Below 256 block → Agreed block c → room_after block room ≡ room_by (take header_length c) block room

-- ---- demand 2

-- A block that is given room is accepted exactly when it meets the specification; one that meets it and is given less is refusal 9.
pub record AcceptsExactly : Type 0 where
  pub accepts : (block : List ℕ) (lent : ℕ) → Below 256 block → (m : Meets block) → m.words ≤ lent → Accepted block lent
  pub only : (block : List ℕ) (lent : ℕ) → Below 256 block → Accepted block lent → (m : Meets block) × (m.words ≤ lent)
  pub small : (block : List ℕ) (lent : ℕ) → Below 256 block → (m : Meets block) → lent < m.words → (answer_of block lent).number ≡ 9

-- The answer is the common header and the count of words, and which copies passed.
pub record AnswersTruly : Type 0 where
  pub header : (block : List ℕ) (lent : ℕ) → Below 256 block → (m : Meets block) → m.words ≤ lent → (answer_of block lent).header ≡ take header_length m.copy
  pub count : (block : List ℕ) (lent : ℕ) → Below 256 block → (m : Meets block) → m.words ≤ lent → (answer_of block lent).words ≡ m.words
  pub first : (block : List ℕ) (lent : ℕ) → Below 256 block → Accepted block lent → ((answer_of block lent).first ≡ true) ↔ Passes generator (copy_at 0 block)
  pub second : (block : List ℕ) (lent : ℕ) → Below 256 block → Accepted block lent → ((answer_of block lent).second ≡ true) ↔ Passes generator (copy_at 1 block)
  pub third : (block : List ℕ) (lent : ℕ) → Below 256 block → Accepted block lent → ((answer_of block lent).third ≡ true) ↔ Passes generator (copy_at 2 block)

-- The words in the room are those cut from the field's bits, and nothing behind them has changed; where words were sent, they are these.
pub record GivesWords : Type 0 where
  pub cut : (block room : List ℕ) → Below 256 block → (m : Meets block) → m.words ≤ length room
      → room_after block room ≡ words m.size m.words (sent (information_field (field_bytes m.number m.words) block)) ++ drop m.words room
  pub sent_ones : (block room ws fill : List ℕ) → Below 256 block → (m : Meets block) → m.words ≤ length room
      → length ws ≡ m.words → Below (2 ^ m.size) ws → sent (information_field (field_bytes m.number m.words) block) ≡ spell m.size ws ++ fill
      → room_after block room ≡ ws ++ drop m.words room

-- ---- data that is marked not valid is read all the same

-- Word 9 of a header, which says whether data is valid, is not read.
pub record MarkUnread : Type 0 where
  pub answer : (h block : List ℕ) (lent mark : ℕ) → judged_by (set h (9 - 1) mark) block lent ≡ judged_by h block lent
  pub left : (h block room : List ℕ) (mark : ℕ) → room_by (set h (9 - 1) mark) block room ≡ room_by h block room

-- two blocks that are sent alike but for that word: the same copies pass, they agree on headers that differ there, and what lies behind them is equal
pub record MarkedApart (one other : List ℕ) (mark : ℕ) : Type 0 where
  pub copy : List ℕ
  pub copy' : List ℕ
  pub agreed : Agreed one copy
  pub agreed' : Agreed other copy'
  pub header : take header_length copy' ≡ set (take header_length copy) (9 - 1) mark
  pub passing : (k : ℕ) → k < 3 → Passes generator (copy_at k one) ↔ Passes generator (copy_at k other)
  pub behind : drop copies_length other ≡ drop copies_length one

-- the same answer, with that word of its header, if it has one, set; and the same room afterwards
pub record MarkedAlike (one other : List ℕ) (mark : ℕ) (room : List ℕ) : Type 0 where
  pub number : (answer_of other (length room)).number ≡ (answer_of one (length room)).number
  pub count : (answer_of other (length room)).words ≡ (answer_of one (length room)).words
  pub first : (answer_of other (length room)).first ≡ (answer_of one (length room)).first
  pub second : (answer_of other (length room)).second ≡ (answer_of one (length room)).second
  pub third : (answer_of other (length room)).third ≡ (answer_of one (length room)).third
  pub header : Accepted one (length room) → (answer_of other (length room)).header ≡ set (answer_of one (length room)).header (9 - 1) mark
  pub left : room_after other room ≡ room_after one room

-- Blocks that are sent alike but for word 9 are read alike.
abbrev pub ReadsMarkedAlike : Type 0
ReadsMarkedAlike = (one other room : List ℕ) (mark : ℕ) → Below 256 one → Below 256 other → MarkedApart one other mark → MarkedAlike one other mark room

-- ---- demand 3

-- A kind of change, from bytes as sent to bytes as received, that the check finds: of a string that passes it makes no other that passes.
abbrev pub Found : (List ℕ → List ℕ → Type 0) → Type 0
Found Change = (x y : List ℕ) → Below 256 x → Change x y → (x ≡ y → ⊥) → Passes generator x → Passes generator y → ⊥

-- the block one was sent with three copies c; other was received, as long, and at most two of its copies are changed
pub record Received (Change : List ℕ → List ℕ → Type 0) (one other c : List ℕ) : Type 0 where
  pub bytes : Below 256 one
  pub bytes' : Below 256 other
  pub long : length other ≡ length one
  pub equal : ThreeEqual one c
  pub each : (k : ℕ) → k < 3 → (copy_at k other ≡ c) ⊎ Change c (copy_at k other)
  pub place : ℕ
  pub within : place < 3
  pub whole : copy_at place other ≡ c

-- the same number, header and count, and the same room afterwards
pub record Alike (one other room : List ℕ) : Type 0 where
  pub number : (answer_of one (length room)).number ≡ (answer_of other (length room)).number
  pub header : (answer_of one (length room)).header ≡ (answer_of other (length room)).header
  pub count : (answer_of one (length room)).words ≡ (answer_of other (length room)).words
  pub left : room_after one room ≡ room_after other room

-- A block was sent with three equal copies, and is accepted as sent. With at most two copies changed it is accepted with the same header and
-- words. With the field and its check word changed besides, at least one bit, it is refusal 10, and the room is as it was.
pub record Bears (Change : List ℕ → List ℕ → Type 0) : Type 0 where
  pub copies : (one other c room : List ℕ) → Received Change one other c → Accepted one (length room)
      → drop copies_length other ≡ drop copies_length one → Alike other one room
  pub field : (one other c room : List ℕ) → Received Change one other c → Accepted one (length room)
      → Change (drop copies_length one) (drop copies_length other) → (drop copies_length one ≡ drop copies_length other → ⊥)
      → (answer_of other (length room) ≡ refused_answer 10) × (room_after other room ≡ room)

-- So it is for every kind of change that the check finds.
abbrev pub BearsFound : Type 1
BearsFound = (Change : List ℕ → List ℕ → Type 0) → Found Change → Bears Change

-- Such are bits altered inside one run of 16, in the order sent: in each changed copy one run, and one in the field with its check word.
abbrev pub FindsAltered : Type 0
FindsAltered = Bears (Altered 16)
