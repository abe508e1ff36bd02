-- What an offer is refused for: a lent record outside its bounds, with the list of leap days lent now, then the block, then its tag.
-- Assumes nothing.
use Rattle.std.specs.Prelude.{ℕ, ◌^◌, Bool, not, ◌&&◌, ◌||◌, List, [], ◌∷◌, ◌++◌, ltb}
use Rattle.ground.specs.Choice.{pick}
use Rattle.ground.specs.Grounds.{Ground, ◌when◌, first_of}
use Rattle.row.specs.Rows.{last_block}
use Rattle.calendar.specs.Leaps.{good_list}
use Rattle.tag.specs.Tags.{in_bounds, good_tag}
use Rattle.watch_rule.specs.Rules.{last_of_scan}
use Rattle.watch_bounds.specs.declared.Watch.{Watch}

-- The longest waiting limit, in ms.
abbrev pub longest_wait : ℕ
longest_wait = 3600000

-- A limit above the longest. The expected block and the last tag are read only when the watch is open.
abbrev pub bad_limit : Watch → Bool
bad_limit w = ltb longest_wait w.limit

abbrev pub bad_expected : Watch → Bool
bad_expected w = w.opened && (ltb w.expected 1 || ltb last_of_scan w.expected)

-- Every block in the set is below this one: the expected one of an open watch, and block 0 while idle, so that the set is empty then. The
-- sets of such blocks are the numbers below 2 ^ that.
abbrev pub bounding : Watch → ℕ
bounding w = pick w.opened w.expected 0

abbrev pub bad_fill : Watch → Bool
bad_fill w = not (ltb w.fill (2 ^ bounding w))

abbrev pub bad_last : List ℕ → Watch → Bool
bad_last leaps w = w.opened && not (in_bounds leaps w.last)

-- Whatever record is lent is tested: 16 for its limit, 13 for its expected block, 20 for its set of fill blocks; then 19 for the list, and
-- 12 for its last tag by that list.
abbrev pub lent : List ℕ → Watch → List Ground
lent leaps w = (16 when bad_limit w) ∷ (13 when bad_expected w) ∷ (20 when bad_fill w) ∷ (19 when not (good_list leaps)) ∷ (12 when bad_last leaps w) ∷ []

-- Then come 4 for the block that is offered and 12 for its tag, which is good or not.
abbrev pub offered : ℕ → Bool → List Ground
offered b good = (4 when ltb last_block b) ∷ (12 when not good) ∷ []

abbrev pub grounds : List ℕ → Watch → ℕ → Bool → List Ground
grounds leaps w b good = lent leaps w ++ offered b good

-- The number of an offer of a block and its tag's bytes.
unfoldable pub refusal_of : List ℕ → Watch → ℕ → List ℕ → ℕ
refusal_of leaps w b s = first_of (grounds leaps w b (good_tag leaps s))
