-- The table of field sizes as it is printed: which word size and which count suit a block number. In block 2 the version decides: three
-- records up to version 2, four in version 3.
-- Assumes nothing.
use Rattle.std.specs.Prelude.{ℕ, ◌+◌, ◌*◌, ◌≤◌}

-- n is 1 to 5,236
pub record Scan (n : ℕ) : Type 0 where
  pub narrow : 1 ≤ n
  pub wide : n ≤ 5236

pub data Suits : (block version size count : ℕ) → Type 0 where
  zeroth : {v : ℕ} → Suits 0 v 8 8040
  first : {v n : ℕ} → Scan n → Suits 1 v 10 (4 * (16 + n))
  second : {v n : ℕ} → v ≤ 2 → Scan n → Suits 2 v 10 (3 * (16 + n))
  second3 : {n : ℕ} → Scan n → Suits 2 3 10 (4 * (16 + n))
  others : {b v n : ℕ} → 3 ≤ b → b ≤ 10 → Scan n → Suits b v 10 (16 + 4 * n)
  last6 : {v : ℕ} → Suits 11 v 6 10720
  last8 : {v : ℕ} → Suits 11 v 8 8040
  last10 : {v : ℕ} → Suits 11 v 10 6432
