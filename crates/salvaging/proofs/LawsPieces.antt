-- The pieces, a block at a time, and what is made of a span that may be empty.
-- Assumes nothing.
use Prim.Native.Nat.{ℕ, suc, ◌-◌, ◌*◌, ◌≤◌, ◌<◌}
use mathlib.Core.Path.{◌≡◌, refl, ap}
use mathlib.Core.Bool.{Bool, true, false}
use mathlib.Core.List.{List, [], ◌∷◌, ◌++◌}
use native.Mathlib.Omega.{arith}
use lib.Dec.{ltb}
use lib.ListN.{length}
use borrow.Author.Tests.{lt-ltb, le-ltb}
use Rattle.ground.specs.Choice.{pick}
use Rattle.salvaging.specs.Pieces.{start_from, Piece, span, gap, block_at, end_at, pieces_from, fields_of, report_of, span_entry, words_over}

module _ (input : List ℕ) (from to : ℕ) (ps : List Piece) where
  pub fields_gap : fields_of input (gap from to ++ ps) ≡ fields_of input ps
  unfolding gap fields_of
  fields_gap = by (ltb from to)
    where
      by : (t : Bool) → fields_of input (pick t (span from (to - from) ∷ []) [] ++ ps) ≡ fields_of input ps
      by true = refl
      by false = refl

  pub report_gap : report_of input (gap from to ++ ps) ≡ span_entry from to ++ report_of input ps
  unfolding gap span_entry report_of
  report_gap = by (ltb from to)
    where
      by : (t : Bool) → report_of input (pick t (span from (to - from) ∷ []) [] ++ ps) ≡ pick t (from ∷ (to - from) ∷ 8 ∷ []) [] ++ report_of input ps
      by true = refl
      by false = refl

  pub over_gap : (scratch : List ℕ) → words_over input (gap from to ++ ps) scratch ≡ words_over input ps scratch
  unfolding gap words_over
  over_gap scratch = by (ltb from to)
    where
      by : (t : Bool) → words_over input (pick t (span from (to - from) ∷ []) [] ++ ps) scratch ≡ words_over input ps scratch
      by true = refl
      by false = refl

module _ (from to : ℕ) where
  pub gap_short : length (gap from to) ≤ 1
  unfolding gap
  gap_short = by (ltb from to)
    where
      by : (t : Bool) → length (pick t (span from (to - from) ∷ []) []) ≤ 1
      by true = omega arith
      by false = omega arith

  pub entry_long : length (span_entry from to) ≡ length (gap from to) * 3
  unfolding gap span_entry
  entry_long = by (ltb from to)
    where
      by : (t : Bool) → length (pick t (from ∷ (to - from) ∷ 8 ∷ []) []) ≡ length (pick t (span from (to - from) ∷ []) []) * 3
      by true = refl
      by false = refl

module _ (n from : ℕ) (input : List ℕ) where
  abbrev s : ℕ
  s = start_from from input

  pub pieces_hit : s < length input → pieces_from (suc n) from input ≡ gap from s ++ (block_at s input ∷ pieces_from n (end_at s input) input)
  unfolding pieces_from
  pieces_hit h = ap (λ (t : Bool). gap from s ++ pick t (block_at s input ∷ pieces_from n (end_at s input) input) []) (lt-ltb s (length input) h)

  pub pieces_end : length input ≤ s → pieces_from (suc n) from input ≡ gap from s ++ []
  unfolding pieces_from
  pieces_end h = ap (λ (t : Bool). gap from s ++ pick t (block_at s input ∷ pieces_from n (end_at s input) input) []) (le-ltb s (length input) h)
