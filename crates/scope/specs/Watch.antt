-- The scan watch, with no leap days: the list lent is the empty one. Assumes nothing.
use Rattle.std.specs.Prelude.{ℕ, ◌≤◌, ◌<◌, ◌≡◌, ◌⊎◌, true, false, List, [], ◌∷◌, pos, ◌<ℤ◌}
use Rattle.time.specs.Times.{between}
use Rattle.tag.specs.declared.Tag.{Tag}
use Rattle.watch_bounds.specs.Sets.{Has}
use Rattle.watch_bounds.specs.declared.Watch.{Watch}
use Rattle.watch.specs.Verdicts.{number_of, kind_of}
use Rattle.watch.specs.Promises.{Beginning, OneOffer, AnyOffers}
use Rattle.watch.specs.Rules.{step_of}
use Rattle.scope.specs.Notions.{Reason, ◌if◌, FirstOf}
use Rattle.scope.specs.Tags.{Says, Bounds, Bad}

-- A record's set of fill blocks is out of bounds: open, it has the expected block or a later one; idle, it has any at all.
abbrev pub Outside : Watch → Type 0
Outside w = (b : ℕ) × Has w.fill b × (((w.opened ≡ true) × (w.expected ≤ b)) ⊎ (w.opened ≡ false))

-- Whatever record is lent is tested: 16 for its limit; where it is open, 13 for its expected block; 20 for its set, open or idle; where it
-- is open, 12 for its last tag. Then come 4 for the block that is offered and 12 for its tag. The data valid word has no part in it.
abbrev pub refusals : Watch → ℕ → List ℕ → List Reason
refusals w b s =
    16 if (3600000 < w.limit)
    ∷ 13 if ((w.opened ≡ true) × ((w.expected < 1) ⊎ (10 < w.expected)))
    ∷ 20 if Outside w
    ∷ 12 if ((w.opened ≡ true) × (Bounds w.last → ⊥))
    ∷ 4 if (11 < b)
    ∷ 12 if Bad s
    ∷ []

-- What an accepted offer does, by its kind: 1 a stray, 2 opened, 3 kept; closed 4 as clock back, 5 as late, 6 as broken, 7 as complete.
-- Idle: block 0 opens a scan, any other block is a stray. Open, d being the time from the last tag to the offered one: d is negative (4), d
-- is greater than the limit (5), the block is not the expected one (6), it is block 10 (7); otherwise the scan goes on (3). The rules are
-- the same with a list of leap days, by which d is counted.
abbrev pub rules : List ℕ → Watch → ℕ → Tag → List Reason
rules leaps w b t =
    2 if ((w.opened ≡ false) × (b ≡ 0))
    ∷ 1 if (w.opened ≡ false)
    ∷ 4 if (between leaps w.last t <ℤ pos 0)
    ∷ 5 if (pos w.limit <ℤ between leaps w.last t)
    ∷ 6 if (b ≡ w.expected → ⊥)
    ∷ 7 if (b ≡ 10)
    ∷ 3 if Unit {0}
    ∷ []

-- The watch's own promises print its records part by part, and are cited: how it begins, what an offer leaves, what any offers do. Which
-- blocks were fill stands in specs/FillBlocks.antt.
pub record Watching : Type 0 where
  pub begun : Beginning
  pub number : (w : Watch) (b v : ℕ) (s : List ℕ) → FirstOf (refusals w b s) (number_of (step_of [] w b v s).verdict)
  pub rule : (w : Watch) (b v : ℕ) (s : List ℕ) (t : Tag) → Says s t → number_of (step_of [] w b v s).verdict ≡ 0
      → FirstOf (rules [] w b t) (kind_of (step_of [] w b v s).verdict)
  pub left : OneOffer []
  -- A watch is begun idle and gets any offers. Then a scan that it completes takes no less than 0 and no more than ten limits.
  pub scans : AnyOffers []
