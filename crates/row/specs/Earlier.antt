-- The table of field sizes before version 3, printed for itself: what a later version brings changes none of its rows.
-- Assumes nothing.
use Rattle.std.specs.Prelude.{ℕ, ◌+◌, ◌*◌, ◌≤◌, ◌↔◌}
use Rattle.row.specs.Suits.{Scan, Suits}

pub data Earlier : (block size count : ℕ) → Type 0 where
  zeroth : Earlier 0 8 8040
  first : {n : ℕ} → Scan n → Earlier 1 10 (4 * (16 + n))
  second : {n : ℕ} → Scan n → Earlier 2 10 (3 * (16 + n))
  others : {b n : ℕ} → 3 ≤ b → b ≤ 10 → Scan n → Earlier b 10 (16 + 4 * n)
  last6 : Earlier 11 6 10720
  last8 : Earlier 11 8 8040
  last10 : Earlier 11 10 6432

abbrev pub EarlierRows : Type 0
EarlierRows = (block version size count : ℕ) → version ≤ 2 → Suits block version size count ↔ Earlier block size count
