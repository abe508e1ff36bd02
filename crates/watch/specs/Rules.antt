-- What one offer does to a watch, and how a watch begins.
-- Assumes nothing.
use Rattle.std.specs.Prelude.{ℕ, ◌+◌, ◌^◌, ◌≤◌, ◌<◌, true, false, List, eqb, ltb, ℤ, Result, Ok, Err}
use Rattle.std.specs.Int.Count.{ones}
use Rattle.ground.specs.Choice.{pick}
use Rattle.ground.specs.declared.Refusal.{Refusal}
use Rattle.ground.specs.Refusals.{number_of}
use Rattle.tag.specs.Tags.{zero_tag, tag_of}
use Rattle.time.specs.Times.{between}
use Rattle.tag.specs.declared.Tag.{Tag}
use Rattle.watch_rule.specs.Rules.{last_of_scan, rule_of}
use Rattle.watch_rule.specs.declared.Closing.{Closing}
use Rattle.watch_rule.specs.declared.Closing.TheVariants.{ClockBack, Late, Broken, Complete}
use Rattle.watch_rule.specs.declared.Rule.{Rule}
use Rattle.watch_rule.specs.declared.Rule.TheVariants.{Keeps, Closes}
use Rattle.watch_bounds.specs.Bounds.{longest_wait, refusal_of}
use Rattle.watch_bounds.specs.declared.Watch.{Watch}
use Rattle.watch.specs.Fills.{filled}
use Rattle.watch.specs.declared.Stepped as code
use Rattle.watch.specs.Verdicts.{Verdict, verdict_in, Refused, Stray, Opened, Kept, Closed}

-- What a step answers, the watch after it and the verdict; and what is told of an answer: a refused record comes back as given.
pub record Stepped : Type 0 where
  pub next : Watch
  pub verdict : Verdict

abbrev pub step_in : code.Stepped → Stepped
step_in s = record { next = s.next; verdict = verdict_in s.verdict }

abbrev pub told_step : Watch → Result code.Stepped Refusal → Stepped
told_step w (Ok s) = step_in s
told_step w (Err r) = record { next = w; verdict = Refused (number_of r) }

-- Idle, block and tag zero, the set empty.
abbrev pub idle : ℕ → Watch
idle limit = record { opened = false; expected = 0; last = zero_tag; limit = limit; fill = 0 }

-- Open: it has the block that it expects next, the last tag, and the set of fill blocks.
abbrev pub expecting : ℕ → Tag → ℕ → ℕ → Watch
expecting b t limit set = record { opened = true; expected = b; last = t; limit = limit; fill = set }

-- What beginning answers: 0 and an idle watch, or 16 and zeros; and what is told of an answer.
pub record Begun : Type 0 where
  pub number : ℕ
  pub watch : Watch

abbrev pub told_begun : Result Watch Refusal → Begun
told_begun (Ok w) = record { number = 0; watch = w }
told_begun (Err r) = record { number = number_of r; watch = idle 0 }

-- At first a watch is idle, and has a waiting limit between 0 and 3,600,000 ms; above it 16, and every part of the record zero.
unfoldable pub begin_of : ℕ → Begun
begin_of limit = pick (ltb longest_wait limit) (record { number = 16; watch = idle 0 }) (record { number = 0; watch = idle limit })

-- Block 0 opens a scan: block 1 is expected, and block 0 is the set's first where it is fill.
abbrev pub opening : ℕ → Tag → ℕ → Watch
opening v t limit = expecting 1 t limit (filled 0 0 v)

-- Idle: block 0 opens a scan. Any other block is a stray, which changes nothing.
unfoldable pub on_idle : Watch → ℕ → ℕ → Tag → Stepped
on_idle w b v t = pick (eqb b 0) (record { next = opening v t w.limit; verdict = Opened }) (record { next = w; verdict = Stray })

-- What is handed over, of the set so far. The block that completes a scan is in it where that is fill; no other that closes one is.
abbrev pub handed : ℕ → ℕ → Closing → ℕ
handed set v ClockBack = set
handed set v Late = set
handed set v Broken = set
handed set v Complete = filled set last_of_scan v

-- Where the offer that closes a scan is block 0, it opens the next one as well. Every other closing leaves the watch idle, with zeros for
-- expected block and tag, and no set.
abbrev pub after_closing : ℕ → ℕ → Tag → ℕ → Watch
after_closing b v t limit = pick (eqb b 0) (opening v t limit) (idle limit)

-- A closing hands over the set and how many blocks it has.
abbrev pub closing : Watch → ℕ → ℕ → Tag → Closing → Stepped
closing w b v t why = record { next = after_closing b v t w.limit; verdict = Closed why (handed w.fill v why) (ones (handed w.fill v why)) }

-- The scan goes on: the next block is expected, the tag offered is the last one now, and the set has the block where it is fill.
abbrev pub keeping : Watch → ℕ → Tag → Stepped
keeping w v t = record { next = expecting (w.expected + 1) t w.limit (filled w.fill w.expected v); verdict = Kept }

-- Open: what the rule says.
abbrev pub following : Watch → ℕ → ℕ → Tag → Rule → Stepped
following w b v t Keeps = keeping w v t
following w b v t (Closes why) = closing w b v t why

-- With d the time from the last tag to the offered one.
abbrev pub on_open : Watch → ℕ → ℕ → Tag → ℤ → Stepped
on_open w b v t d = following w b v t (rule_of w.expected w.limit b d)

-- An offer of a known block, its data valid word and a good tag.
unfoldable pub on_good : List ℕ → Watch → ℕ → ℕ → Tag → Stepped
on_good leaps w b v t = pick w.opened (on_open w b v t (between leaps w.last t)) (on_idle w b v t)

-- An offer of a block, its data valid word and its tag's bytes, with a list of leap days; a refused record comes back as given.
unfoldable pub step_of : List ℕ → Watch → ℕ → ℕ → List ℕ → Stepped
step_of leaps w b v s =
    pick (eqb (refusal_of leaps w b s) 0) (on_good leaps w b v (tag_of s)) (record { next = w; verdict = Refused (refusal_of leaps w b s) })

-- The bounds of an open watch that an accepted offer finds: so much the code needs.
abbrev pub InScan : Watch → Type 0
InScan w = (w.expected ≤ 10) × (w.fill < 2 ^ w.expected)
