-- The channel and the detector that version, block and record fix, and what is answered when a placement is asked for.
-- Assumes nothing.
use Rattle.std.specs.Prelude.{ℕ, ◌-◌, Bool, ◌||◌, List, [], ◌∷◌, map, eqb, ltb, length, get_or, take, drop, Result, Ok, Err}
use Rattle.ground.specs.Choice.{pick}
use Rattle.ground.specs.Grounds.{◌when◌, first_of}
use Rattle.ground.specs.declared.Refusal.{Refusal}
use Rattle.ground.specs.Refusals.{number_of}
use Rattle.row.specs.Rows.{last_block, last_version}
use Rattle.placement.specs.declared.Held.{Held}
use Rattle.placement.specs.declared.Placed.{Placed}

-- The scope's 4/1, channel 4 and detector 1, is `4 det 1`.
infix 70 ◌det◌
abbrev pub ◌det◌ : ℕ → ℕ → Held
c det d = record { 0 = c; 1 = d }

-- Versions 0 and 1: 4/1, 4/2, 5/1, 5/2 in block 1, and 2/1, 2/2, 3/1 in block 2.
abbrev pub early : ℕ → List Held
early block =
    pick (eqb block 1) (4 det 1 ∷ 4 det 2 ∷ 5 det 1 ∷ 5 det 2 ∷ [])
    (pick (eqb block 2) (2 det 1 ∷ 2 det 2 ∷ 3 det 1 ∷ []) [])

-- Version 2: 2/1, 2/2, 3/1, 3/2 in block 1, and 4/1, 4/2, 6/1 in block 2.
abbrev pub middle : ℕ → List Held
middle block =
    pick (eqb block 1) (2 det 1 ∷ 2 det 2 ∷ 3 det 1 ∷ 3 det 2 ∷ [])
    (pick (eqb block 2) (4 det 1 ∷ 4 det 2 ∷ 6 det 1 ∷ []) [])

-- Version 3: the same in block 1, and 4/1, 4/2, 6/1, 6/2 in block 2.
abbrev pub late : ℕ → List Held
late block =
    pick (eqb block 1) (2 det 1 ∷ 2 det 2 ∷ 3 det 1 ∷ 3 det 2 ∷ [])
    (pick (eqb block 2) (4 det 1 ∷ 4 det 2 ∷ 6 det 1 ∷ 6 det 2 ∷ []) [])

-- So there are three groups of versions: 0 and 1; 2; 3.
unfoldable pub group_of : ℕ → ℕ
group_of version = pick (ltb version 2) 0 (pick (ltb version 3) 1 2)

-- All versions: 1/5, 1/6, 1/7, 1/8, 1/1, 1/2, 1/3, 1/4 in blocks 3 to 10, one a block.
abbrev pub visible_held : List Held
visible_held = map (λ d. 1 det d) (5 ∷ 6 ∷ 7 ∷ 8 ∷ 1 ∷ 2 ∷ 3 ∷ 4 ∷ [])

abbrev pub visible : ℕ → List Held
visible block = take 1 (drop (block - 3) visible_held)

-- What the records of a block hold, in their order; blocks 0 and 11 have none.
unfoldable pub held_in : ℕ → ℕ → List Held
held_in block version =
    pick (ltb block 3) (get_or (early block ∷ middle block ∷ late block ∷ []) (group_of version) []) (visible block)

unfoldable pub records_held : ℕ → ℕ → ℕ
records_held block version = length (held_in block version)

-- A block without records, or a record that it has not. Records count from 1.
abbrev pub no_record : ℕ → ℕ → ℕ → Bool
no_record block version k = eqb k 0 || ltb (records_held block version) k

-- Placement, for a block, a version and a record: 4, 5, 13.
abbrev pub ground_of : ℕ → ℕ → ℕ → ℕ
ground_of block version k =
    first_of ((4 when ltb last_block block) ∷ (5 when ltb last_version version) ∷ (13 when no_record block version k) ∷ [])

-- The answer as numbers: 0, the channel and the detector, or a refusal's number and zeros.
pub record PlacedAnswer : Type 0 where
  pub number : ℕ
  pub channel : ℕ
  pub detector : ℕ

abbrev pub accepted : Held → PlacedAnswer
accepted h = record { number = 0; channel = h.0; detector = h.1 }

-- A refusal returns its number; every other number in it is zero.
abbrev pub refused_by : ℕ → PlacedAnswer
refused_by n = record { number = n; channel = 0; detector = 0 }

unfoldable pub place_of : ℕ → ℕ → ℕ → PlacedAnswer
place_of block version k =
    pick (eqb (ground_of block version k) 0)
    (accepted (get_or (held_in block version) (k - 1) (0 det 0)))
    (refused_by (ground_of block version k))

-- What is told of an answer.
abbrev pub told : Result Placed Refusal → PlacedAnswer
told (Ok p) = record { number = 0; channel = p.channel; detector = p.detector }
told (Err r) = refused_by (number_of r)
