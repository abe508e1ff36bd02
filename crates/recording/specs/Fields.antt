-- A recording is one field after another: a byte of tag, two bytes of length, high byte first, and a body of that length. From its bytes:
-- the whole fields in order, and whether it stops inside one behind them.
-- Assumes nothing.
use Rattle.std.specs.Prelude.{ℕ, zero, suc, ◌/◌, ◌%◌, Bool, true, false, List, [], ◌∷◌, ◌++◌, length, take, drop}
use Rattle.recording.specs.Found.{found_at, end_of}
use Rattle.recording.specs.declared.Found.{Found}
use Rattle.recording.specs.declared.Found.TheVariants.{Whole, Cut, End}

pub record Field : Type 0 where
  pub tag : ℕ
  pub body : List ℕ

-- what stands in front of a body of so many bytes
abbrev pub front_of : (tag length : ℕ) → List ℕ
front_of tag n = tag ∷ n / 256 ∷ n % 256 ∷ []

-- a field as it stands in a recording
abbrev pub written : Field → List ℕ
written f = front_of f.tag (length f.body) ++ f.body

-- a recording of whole fields
unfoldable pub joined : List Field → List ℕ
joined [] = []
joined (f ∷ fs) = written f ++ joined fs

pub record Recording : Type 0 where
  pub fields : List Field
  pub cut : Bool

-- with what is found first, and then the rest
abbrev pub started_by : List ℕ → Found → Recording → Recording
started_by bytes (Whole tag start n) rest = record { fields = record { tag = tag; body = take n (drop start bytes) } ∷ rest.fields; cut = rest.cut }
started_by bytes Cut rest = record { fields = []; cut = true }
started_by bytes End rest = record { fields = []; cut = false }

-- at most so many fields
unfoldable pub read_up_to : ℕ → List ℕ → Recording
read_up_to zero bytes = record { fields = []; cut = false }
read_up_to (suc most) bytes = started_by bytes (found_at bytes 0) (read_up_to most (drop (end_of (found_at bytes 0)) bytes))

-- a recording has fewer fields than bytes
abbrev pub recording_of : List ℕ → Recording
recording_of bytes = read_up_to (length bytes) bytes
