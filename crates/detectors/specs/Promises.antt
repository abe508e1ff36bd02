-- What is promised of the Sounder's detector status, which is ten bytes. It is said from the list of its bits in the order sent, most significant
-- first: bit i + 1 is that of channel c, detector d, where i + 5 is 4 x c + d. The proofs are in proofs/KeepsDetectors.antt.
-- Assumes nothing.
use Rattle.std.specs.Prelude.{ℕ, zero, suc, ◌+◌, ◌*◌, ◌≤◌, ◌<◌, ◌≡◌, ◌⊎◌, ◌↔◌, Bool, true, false, List, [], ◌∷◌, ◌++◌, length, get_or, replicate, Some, None}
use Rattle.ground.specs.Choice.{pick}
use Rattle.bits.specs.Bits.{sent}
use Rattle.detectors.specs.Status.{spare_zero, channel_of, detector_of, suspects_of, asked_of}

-- channels 1 to 19, detectors 1 to 4
pub record Inside (channel detector : ℕ) : Type 0 where
  pub from_channel : 1 ≤ channel
  pub to_channel : channel ≤ 19
  pub from_detector : 1 ≤ detector
  pub to_detector : detector ≤ 4

-- One that is asked for: refusal 13 exactly where there is none such, with false; else whether its bit is 1.
pub record Asking : Type 0 where
  pub outside : (status : List ℕ) (c d : ℕ) → (Inside c d → ⊥) → asked_of status c d ≡ record { number = 13; suspect = false }
  pub taken : (status : List ℕ) (c d : ℕ) → Inside c d → (asked_of status c d).number ≡ 0
  pub suspect : (status : List ℕ) (c d i : ℕ) → Inside c d → i + 5 ≡ c * 4 + d
      → ((asked_of status c d).suspect ≡ true) ↔ (get_or (sent status) i 0 ≡ 1)

abbrev pub is_suspect : List ℕ → ℕ → ℕ → Bool
is_suspect status c d = (asked_of status c d).suspect

-- the sum of so many numbers, from 0 on
unfoldable pub sum_to : ℕ → (ℕ → ℕ) → ℕ
sum_to zero f = 0
sum_to (suc n) f = f 0 + sum_to n (λ i. f (suc i))

-- The count is how many detectors are suspect when asked for one by one.
abbrev pub Counting : Type 0
Counting =
    (status : List ℕ) → length status ≡ 10
    → (suspects_of status).count ≡ sum_to 19 (λ c. sum_to 4 (λ d. pick (is_suspect status (suc c) (suc d)) 1 0))

abbrev pub NoneSuspect : List ℕ → Type 0
NoneSuspect status = (c d : ℕ) → Inside c d → is_suspect status c d ≡ false

-- a suspect detector, with none in the channels before it, nor before it in its own
pub record FirstSuspect (status : List ℕ) (c d : ℕ) : Type 0 where
  pub inside : Inside c d
  pub is_suspect_is : is_suspect status c d ≡ true
  pub none_before : (c' d' : ℕ) → Inside c' d' → (c' < c) ⊎ ((c' ≡ c) × (d' < d)) → is_suspect status c' d' ≡ false

-- There is a first one exactly where one is suspect; then it is that, in numbers its channel and detector, and zeros where there is none.
pub record Finding : Type 0 where
  pub first : (status : List ℕ) → length status ≡ 10
      → let f = (suspects_of status).first in
      (NoneSuspect status × (channel_of f ≡ 0) × (detector_of f ≡ 0)) ⊎ FirstSuspect status (channel_of f) (detector_of f)
  pub nobody : (status : List ℕ) → length status ≡ 10 → ((suspects_of status).first ≡ None) ↔ NoneSuspect status
  pub none_counted : (status : List ℕ) → length status ≡ 10 → ((suspects_of status).first ≡ None) ↔ ((suspects_of status).count ≡ 0)

-- The last four bits, 77 to 80.
abbrev pub Sparing : Type 0
Sparing = (status : List ℕ) → length status ≡ 10 → (spare_zero status ≡ true) ↔ ((i : ℕ) → 76 ≤ i → i < 80 → get_or (sent status) i 0 ≡ 0)

-- 80 hex in the first byte, 10 hex and 08 hex in the last, and zeros elsewhere.
pub record Examples : Type 0 where
  pub first_bit : suspects_of (0x80 ∷ replicate 9 0) ≡ record { count = 1; first = Some (record { channel = 1; number = 1 }) }
  pub last_bit : suspects_of (replicate 9 0 ++ (0x10 ∷ [])) ≡ record { count = 1; first = Some (record { channel = 19; number = 4 }) }
  pub no_bit : suspects_of (replicate 10 0) ≡ record { count = 0; first = None }
  pub spare_bit : spare_zero (replicate 9 0 ++ (0x08 ∷ [])) ≡ false
