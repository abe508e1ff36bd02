-- Sounder status: what is answered of a documentation block, and of one detector that is asked for, with any list of leap days, good or bad.
-- Words count from 1, and bits from 0 in the order sent.
-- Assumes nothing.
use Rattle.std.specs.Prelude.{ℕ, suc, ◌+◌, ◌*◌, ◌≤◌, ◌<◌, ◌≡◌, ◌⊎◌, ◌↔◌, Bool, true, false, List, [], ◌∷◌, ◌++◌, length, get_or, take, drop, None}
use Rattle.ground.specs.Choice.{pick}
use Rattle.detectors.specs.Status.{channel_of, detector_of}
use Rattle.detectors.specs.Promises.{Inside, sum_to, Examples}
use Rattle.sounder.specs.Judging.{status_of, asked_of}
use Rattle.sounder.specs.Promises as Sounder
use Rattle.sounder.specs.Promises.{Out, Lowest, Framing, Says}
use Rattle.scope.specs.Notions.{Reason, ◌if◌, FirstOf, bit}
use Rattle.scope.specs.LeapSeconds.{LeapDays}

-- bit i of words 33 to 42
abbrev pub status_bit : ℕ → List ℕ → ℕ
status_bit i ws = bit i (take 10 (drop 32 ws))

-- 8: not 8,040 words. 14: a word over 255. 21: a bit that is 1 among the last four. 22: a frame field out of its range, a west above its east
-- being the eastern field's; the crate `sounder` prints the ranges, and is cited. 19: no list.
abbrev pub reasons : List ℕ → List ℕ → List Reason
reasons leaps ws =
    8 if (length ws ≡ 8040 → ⊥)
    ∷ 14 if ((i : ℕ) × (255 < get_or ws i 0))
    ∷ 21 if ((i : ℕ) × (76 ≤ i) × (i < 80) × (status_bit i ws ≡ 1))
    ∷ 22 if ((k : ℕ) × Out ws k)
    ∷ 19 if (LeapDays leaps → ⊥)
    ∷ []

-- 13, last: a channel that is not 1 to 19, or a detector that is not 1 to 4.
abbrev pub asked_reasons : List ℕ → List ℕ → ℕ → ℕ → List Reason
asked_reasons leaps ws c d = reasons leaps ws ++ (13 if ((c < 1) ⊎ ((19 < c) ⊎ ((d < 1) ⊎ (4 < d)))) ∷ [])

-- The number, and with 22 the first word of the lowest field that is out of range; zeros beside a refusal.
pub record Refusing : Type 0 where
  pub number : (leaps ws : List ℕ) → FirstOf (reasons leaps ws) (status_of leaps ws).number
  pub word : (leaps ws : List ℕ) → (status_of leaps ws).number ≡ 22 → Lowest ws (status_of leaps ws).word
  pub no_word : (leaps ws : List ℕ) → ((status_of leaps ws).number ≡ 22 → ⊥) → (status_of leaps ws).word ≡ 0
  pub asked_number : (leaps ws : List ℕ) (c d : ℕ) → FirstOf (asked_reasons leaps ws c d) (asked_of leaps ws c d).number
  pub asked_word : (leaps ws : List ℕ) (c d : ℕ) → (asked_of leaps ws c d).word ≡ (status_of leaps ws).word
  pub asked_mark : (leaps ws : List ℕ) (c d : ℕ) → ((asked_of leaps ws c d).number ≡ 0 → ⊥) → (asked_of leaps ws c d).suspect ≡ false

-- Of a block that is accepted, channel c, detector d is suspect where its bit, the one at 4 x c + d - 5, is 1.
module _ (leaps ws : List ℕ) where
  abbrev pub is_suspect : ℕ → ℕ → Bool
  is_suspect c d = (asked_of leaps ws c d).suspect

  abbrev pub NoneSuspect : Type 0
  NoneSuspect = (c d : ℕ) → Inside c d → is_suspect c d ≡ false

  pub record FirstSuspect (c d : ℕ) : Type 0 where
    pub inside : Inside c d
    pub is_suspect_is : is_suspect c d ≡ true
    pub none_before : (c' d' : ℕ) → Inside c' d' → (c' < c) ⊎ ((c' ≡ c) × (d' < d)) → is_suspect c' d' ≡ false

  pub record Suspects : Type 0 where
    pub suspect : (c d i : ℕ) → Inside c d → i + 5 ≡ c * 4 + d → (is_suspect c d ≡ true) ↔ (status_bit i ws ≡ 1)
    -- how many are suspect when asked for one by one
    pub count : (status_of leaps ws).suspects ≡ sum_to 19 (λ c. sum_to 4 (λ d. pick (is_suspect (suc c) (suc d)) 1 0))
    -- the first in numbers, which are zeros where none is
    pub first : let f = (status_of leaps ws).first in (NoneSuspect × (channel_of f ≡ 0) × (detector_of f ≡ 0)) ⊎ FirstSuspect (channel_of f) (detector_of f)
    pub nobody : ((status_of leaps ws).first ≡ None) ↔ NoneSuspect
    pub none_counted : ((status_of leaps ws).first ≡ None) ↔ ((status_of leaps ws).suspects ≡ 0)

pub record Status : Type 0 where
  pub refusing : Refusing
  pub suspects : (leaps ws : List ℕ) → (status_of leaps ws).number ≡ 0 → Suspects leaps ws
  -- counts, frame fields and tags at their printed words, each tag with the reader's own verdict
  pub says : (leaps ws : List ℕ) → (status_of leaps ws).number ≡ 0 → Says leaps ws (status_of leaps ws)
  pub refused : Sounder.Judging
  pub asking : Sounder.Asking
  pub frame : Framing
  -- 80 hex in word 33, 10 hex and 08 hex in word 42
  pub examples : Examples
