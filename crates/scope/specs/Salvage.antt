-- Salvage of recordings without boundaries: what a search is, said without loops, and what comes of it. What the report prints is promised by
-- the crate `report` in the scope's own text, and cited. Assumes nothing.
use Rattle.std.specs.Prelude.{ℕ, ◌+◌, ◌-◌, ◌*◌, ◌/◌, ◌%◌, ◌≤◌, ◌<◌, ◌≡◌, ◌⊎◌, ◌↔◌, false, List, [], ◌∷◌, ◌++◌, length, take, drop}
use Rattle.bits.specs.Bits.{Below, words, sent}
use Rattle.bits.specs.Runs.{Altered}
use Rattle.block.specs.Answers.{answer_of, room_after}
use Rattle.recording.specs.Fields.{Field, recording_of}
use Rattle.recording.specs.Lines.{line_of}
use Rattle.salvaging.specs.Answers.{salvaged_of, recording_after, report_after, scratch_after}
use Rattle.report.specs.Promises.{PrintsReport, PrintsKinds, PrintsChanged}
use Rattle.scope.specs.Notions.{Reason, ◌if◌, FirstOf}
use Rattle.scope.specs.Blocks.{Agrees}
use Rattle.scope.specs.Demands.{Accepted, Meets, Equal, Received, Unchanged}

-- ---- a start with a block

-- header copy 1, 2 or 3 behind a start: bytes 0-29, 30-59, 60-89 from there on
abbrev pub copy_from : List ℕ → (s k : ℕ) → List ℕ
copy_from input s k = take 30 (drop (s + 30 * (k - 1)) input)

-- Copy k passes and, put in all three places, makes the bytes from s on begin with an acceptable block: three times that copy, then field and
-- check word as they lie behind the three places. It ends inside the input.
pub record Makes (input : List ℕ) (s k : ℕ) (block : List ℕ) : Type 0 where
  pub least : 1 ≤ k
  pub most : k ≤ 3
  pub passes : Agrees (copy_from input s k)
  pub inside : s + length block ≤ length input
  pub copies : take 90 block ≡ copy_from input s k ++ (copy_from input s k ++ copy_from input s k)
  pub behind : drop 90 block ≡ take (length block - 90) (drop (s + 90) input)
  pub meets : Meets block

-- ---- the search

-- a block with its start, the copy used and its bytes; a span with its start and its length
pub data Found : Type 0 where
  block : (start copy : ℕ) (bytes : List ℕ) → Found
  span : (start length : ℕ) → Found

-- what is skipped from one byte to another is a span where it is not empty
pub data Skips (from to : ℕ) (fs : List Found) : List Found → Type 0 where
  nothing : from ≡ to → Skips from to fs fs
  some : from < to → Skips from to fs (span from (to - from) ∷ fs)

-- From a byte on: the lowest start for which some copy makes a block, tried in the order 1, 2, 3, and on behind the block's end; or, where no
-- start from there on has one, all up to the input's end is skipped.
pub data Search (input : List ℕ) : (from : ℕ) → List Found → Type 0 where
  hit : {from : ℕ} {fs gs : List Found} (s k : ℕ) (b : List ℕ) → from ≤ s
      → ((i j : ℕ) (d : List ℕ) → from ≤ i → i < s → Makes input i j d → ⊥)
      → Makes input s k b → ((j : ℕ) (d : List ℕ) → j < k → Makes input s j d → ⊥)
      → Search input (s + length b) fs → Skips from s (block s k b ∷ fs) gs → Search input from gs
  over : {from : ℕ} {gs : List Found} → ((i j : ℕ) (d : List ℕ) → from ≤ i → Makes input i j d → ⊥) → Skips from (length input) [] gs → Search input from gs

-- ---- what comes of it

-- a recording of the blocks: tag 1, the length in two bytes, high byte first, the block
unfoldable pub recorded : List Found → List ℕ
recorded [] = []
recorded (block s k b ∷ fs) = 1 ∷ length b / 256 ∷ length b % 256 ∷ (b ++ recorded fs)
recorded (span s n ∷ fs) = recorded fs

unfoldable pub blocks_in : List Found → List (List ℕ)
blocks_in [] = []
blocks_in (block s k b ∷ fs) = b ∷ blocks_in fs
blocks_in (span s n ∷ fs) = blocks_in fs

-- The copies whose bytes changed, 1, 2 and 4 for the first, second and third: those that differ from the one used, whether they passed or not.
pub record Changed (input : List ℕ) (s k n : ℕ) : Type 0 where
  pub small : n < 8
  pub first : (n % 2 ≡ 1) ↔ (copy_from input s 1 ≡ copy_from input s k → ⊥)
  pub second : (n / 2 % 2 ≡ 1) ↔ (copy_from input s 2 ≡ copy_from input s k → ⊥)
  pub third : (n / 4 % 2 ≡ 1) ↔ (copy_from input s 3 ≡ copy_from input s k → ⊥)

-- A report, in the order of the input: start, length and the copies changed of a block, start, length and 8 of a span.
pub data Report (input : List ℕ) : List Found → List ℕ → Type 0 where
  end : Report input [] []
  of_block : {fs : List Found} {ns : List ℕ} (s k : ℕ) (b : List ℕ) (n : ℕ) → Changed input s k n → Report input fs ns
      → Report input (block s k b ∷ fs) (s ∷ length b ∷ n ∷ ns)
  of_span : {fs : List Found} {ns : List ℕ} (s n : ℕ) → Report input fs ns → Report input (span s n ∷ fs) (s ∷ n ∷ 8 ∷ ns)

-- the scratch words, as reading one block after the other leaves them
unfoldable pub read_all : List (List ℕ) → List ℕ → List ℕ
read_all [] scratch = scratch
read_all (b ∷ bs) scratch = read_all bs (room_after b scratch)

-- 9, whatever the input holds, for less than L bytes of it can need: L + 3q bytes of recording, 2q + 1 entries of three numbers, 21,008 scratch
-- words, q being L / 2,772 in whole numbers. Then 18, exactly where no start has such a block.
abbrev pub salvage_reasons : List ℕ → (recording report scratch : ℕ) → List Reason
salvage_reasons input m r w =
    9 if ((m < length input + 3 * (length input / 2772)) ⊎ ((r < 3 * (2 * (length input / 2772) + 1)) ⊎ (w < 21008)))
    ∷ 18 if ((s k : ℕ) (b : List ℕ) → Makes input s k b → ⊥)
    ∷ []

-- what a call that is not refused answers and leaves
pub record Gives (input recording report scratch : List ℕ) (fs : List Found) : Type 0 where
  pub answer : salvaged_of input (length recording) (length report) (length scratch)
      ≡ record { number = 0; bytes = length (recorded fs); entries = length fs; blocks = length (blocks_in fs) }
  pub written : recording_after input recording (length report) (length scratch) ≡ recorded fs ++ drop (length (recorded fs)) recording
  pub numbers : List ℕ
  pub reported : Report input fs numbers
  pub noted : report_after input (length recording) report (length scratch) ≡ numbers ++ drop (length numbers) report
  pub words : scratch_after input (length recording) (length report) scratch ≡ read_all (blocks_in fs) scratch

-- ---- the pieces of the input

-- the bytes of the input that blocks and spans lie on, joined in order
unfoldable pub lying_on : List ℕ → List Found → List ℕ
lying_on input [] = []
lying_on input (block s k b ∷ fs) = take (length b) (drop s input) ++ lying_on input fs
lying_on input (span s n ∷ fs) = take n (drop s input) ++ lying_on input fs

unfoldable pub Among : Found → List Found → Type 0
Among f [] = ⊥
Among f (g ∷ gs) = (f ≡ g) ⊎ Among f gs

-- no block at a lower start overlaps what lies from a start on
abbrev pub NoneOver : List Found → ℕ → Type 0
NoneOver fs s = (i k : ℕ) (b : List ℕ) → Among (block i k b) fs → i < s → i + length b ≤ s

-- ---- the blocks written

-- fields with these blocks, tag 1; and the blocks joined without any fronts
unfoldable pub as_fields : List (List ℕ) → List Field
as_fields [] = []
as_fields (b ∷ bs) = record { tag = 1; body = b } ∷ as_fields bs

unfoldable pub back_to_back : List (List ℕ) → List ℕ
back_to_back [] = []
back_to_back (b ∷ bs) = b ++ back_to_back bs

unfoldable pub Each : (List ℕ → Type 0) → List (List ℕ) → Type 0
Each P [] = Unit {0}
Each P (b ∷ bs) = P b × Each P bs

-- Demands 2 and 3 of a block written: it has three equal copies and is accepted, its words are those of its field; altered as demand 3 says it
-- is found; and the listing answers 0 for it.
pub record Stands (b : List ℕ) : Type 0 where
  pub meets : Meets b
  pub equal : Equal b
  pub accepted : (lent : ℕ) → 21008 ≤ lent → Accepted b lent
  pub words : (room : List ℕ) → 21008 ≤ length room
      → room_after b room ≡ words meets.asked.size meets.asked.words (sent (take (meets.asked.bits / 8) (drop 90 b))) ++ drop meets.asked.words room
  pub copies : (other room : List ℕ) → 21008 ≤ length room → Received (Altered 16) b other → drop 90 other ≡ drop 90 b → Unchanged b other room
  pub field : (other room : List ℕ) → 21008 ≤ length room → Received (Altered 16) b other → Altered 16 (drop 90 b) (drop 90 other) → (drop 90 b ≡ drop 90 other → ⊥)
      → (answer_of other (length room)).number ≡ 10
  pub listed : (before : ℕ) → (line_of before 1 b 21008).answer ≡ 0

-- What is true of the finds of a search.
pub record OfFinds (input : List ℕ) (fs : List Found) : Type 0 where
  -- Blocks and spans cover the input once.
  pub covers : lying_on input fs ≡ input
  -- The recording's fields are the blocks so made, in order, and each of them stands.
  pub fields : recording_of (recorded fs) ≡ record { fields = as_fields (blocks_in fs); cut = false }
  pub stand : Each Stands (blocks_in fs)
  -- The room named suffices, so that 9 is never given inside.
  pub room : length (recorded fs) ≤ length input + 3 * (length input / 2772)
  pub entries : length fs ≤ 2 * (length input / 2772) + 1
  -- Salvaging the blocks without their fronts gives the same recording.
  pub twice : (gs : List Found) → Search (back_to_back (blocks_in fs)) 0 gs → recorded gs ≡ recorded fs

pub record Salvage : Type 0 where
  -- Whatever bytes come, there is such a search of them, and only one.
  pub searched : (input : List ℕ) → Below 256 input → (fs : List Found) × Search input 0 fs
  pub once : (input : List ℕ) (fs gs : List Found) → Below 256 input → Search input 0 fs → Search input 0 gs → fs ≡ gs
  -- The number is the first of the two whose reason holds; a refusal gives zeros beside it, and changes nothing that is lent.
  pub number : (input : List ℕ) (m r w : ℕ) → Below 256 input → FirstOf (salvage_reasons input m r w) (salvaged_of input m r w).number
  pub zeros : (input : List ℕ) (m r w : ℕ) → ((salvaged_of input m r w).number ≡ 0 → ⊥)
      → salvaged_of input m r w ≡ record { number = (salvaged_of input m r w).number; bytes = 0; entries = 0; blocks = 0 }
  pub bytes_left : (input room : List ℕ) (r w : ℕ) → ((salvaged_of input (length room) r w).number ≡ 0 → ⊥) → recording_after input room r w ≡ room
  pub numbers_left : (input room : List ℕ) (m w : ℕ) → ((salvaged_of input m (length room) w).number ≡ 0 → ⊥) → report_after input m room w ≡ room
  pub words_left : (input room : List ℕ) (m r : ℕ) → ((salvaged_of input m r (length room)).number ≡ 0 → ⊥) → scratch_after input m r room ≡ room
  -- Else it is what the search gives.
  pub gives : (input recording report scratch : List ℕ) (fs : List Found) → Below 256 input → Search input 0 fs
      → (salvaged_of input (length recording) (length report) (length scratch)).number ≡ 0 → Gives input recording report scratch fs
  pub finds : (input : List ℕ) (fs : List Found) → Below 256 input → Search input 0 fs → OfFinds input fs
  -- Two copies in ruins: an accepted block with three equal copies, at most two of them altered, each inside one run of 16 bits, is salvaged at its place whenever
  -- no lower start's block overlaps it.
  pub restores : (before one other behind : List ℕ) (fs : List Found) → Below 256 (before ++ (other ++ behind)) → Received (Altered 16) one other → Accepted one 21008
      → drop 90 other ≡ drop 90 one → Search (before ++ (other ++ behind)) 0 fs → NoneOver fs (length before) → (k : ℕ) × Among (block (length before) k one) fs
  pub example : PrintsReport
  pub kinds : PrintsKinds
  pub changed : PrintsChanged
