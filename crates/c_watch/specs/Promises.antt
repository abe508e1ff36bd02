-- What is promised of a watch that C keeps as eleven numbers: they are the watch, so that offer after offer they follow it, and what is
-- promised of any offers holds of them.
-- Assumes nothing.
use Rattle.std.specs.Prelude.{ℕ, ◌≤◌, ◌≡◌, List, [], ◌∷◌}
use Rattle.watch.specs.Offers.{Offer, after}
use Rattle.watch.specs.Rules.{idle, begin_of, step_of}
use Rattle.c_watch.specs.Watches.{watch_in, row_after, row_begun}

-- The row after offers, from the row before them.
unfoldable pub rows_after : List ℕ → List Offer → List ℕ
rows_after row [] = row
rows_after row (o ∷ os) = rows_after (row_after (step_of o.leaps (watch_in row) o.block o.valid o.tag) row) os

-- A row that was begun, and any row whatever, reads after offers as the watch does.
pub record RowFollows : Type 0 where
  pub begun : (limit : ℕ) (row : List ℕ) → limit ≤ 3600000 → watch_in (row_begun (begin_of limit) row) ≡ idle limit
  pub offered : (row : List ℕ) (os : List Offer) → watch_in (rows_after row os) ≡ after (watch_in row) os
