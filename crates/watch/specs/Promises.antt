-- What is promised of the watch, with any list of leap days: of its beginning, of one offer and what an accepted one does, kept in
-- proofs/KeepsRules.antt, where the numbers that `watch_bounds` promises are shown to be those of a step; then of any sequence of offers,
-- kept in proofs/KeepsScans.antt. Numbers and records stand here as the scope prints them, not by the rules' own names. What is promised of
-- the blocks that were fill stands in specs/Filled.antt.
-- Assumes nothing.
use Rattle.std.specs.Prelude.{◌≡◌, ℕ, suc, ◌+◌, ◌*◌, ◌≤◌, ◌<◌, true, false, List, ◌∷◌, ◌++◌, pos, ◌≤ℤ◌, ◌<ℤ◌}
use Rattle.calendar.specs.Promises.{IsList}
use Rattle.tag.specs.Tags.{tag_of}
use Rattle.time.specs.Times.{between, elapsed_of}
use Rattle.tag.specs.Promises.{IsTag}
use Rattle.tag.specs.declared.Tag.{Tag}
use Rattle.watch_bounds.specs.Promises.{Sound}
use Rattle.watch_bounds.specs.declared.Watch.{Watch}
use Rattle.watch.specs.Verdicts.{number_of, kind_of}
use Rattle.watch.specs.Rules.{begin_of, step_of}
use Rattle.watch.specs.Offers.{Offer, next_of, verdict_of, after, begins, none_begins, OneList, offer_of, blocks_before}

-- The watch at rest, idle with block and tag zero and an empty set, number by number.
abbrev pub resting : ℕ → Watch
resting limit =
    record {
      opened = false;
      expected = 0;
      last = record { year = 0; day = 0; hour = 0; minute = 0; second = 0; ms = 0; flywheel = false };
      limit = limit;
      fill = 0;
    }

-- One that is open; specs/Filled.antt says which blocks are in its set.
pub record Waits (w : Watch) (block : ℕ) (tag : Tag) (most : ℕ) : Type 0 where
  pub opened : w.opened ≡ true
  pub expected : w.expected ≡ block
  pub last : w.last ≡ tag
  pub limit : w.limit ≡ most

-- At first a watch is idle, and has a limit between 0 and 3,600,000 ms; above it 16, with zeros.
pub record Beginning : Type 0 where
  pub taken : (limit : ℕ) → limit ≤ 3600000 → begin_of limit ≡ record { number = 0; watch = resting limit }
  pub refused : (limit : ℕ) → 3600000 < limit → begin_of limit ≡ record { number = 16; watch = resting 0 }

-- The number given to an offer, which its data valid word has no part in, and what it does, by the numbers of specs/Verdicts.antt.
abbrev pub given : List ℕ → ℕ → Watch → ℕ → List ℕ → ℕ
given leaps v w b s = number_of (step_of leaps w b v s).verdict

abbrev pub kind : List ℕ → Watch → ℕ → ℕ → List ℕ → ℕ
kind leaps w b v s = kind_of (step_of leaps w b v s).verdict

pub record OneOffer (leaps : List ℕ) : Type 0 where
  -- A refused record comes back as given; a stray leaves the watch as it is.
  pub refused : (w : Watch) (b v : ℕ) (s : List ℕ) → (given leaps v w b s ≡ 0 → ⊥) → (kind leaps w b v s ≡ 0) × ((step_of leaps w b v s).next ≡ w)
  pub stray : (w : Watch) (b v : ℕ) (s : List ℕ) → kind leaps w b v s ≡ 1 → (step_of leaps w b v s).next ≡ w
  -- What an idle record holds beside its set is not read: two of one limit and one set get one verdict, and the same watch where a scan
  -- opens.
  pub unread : (x y : Watch) (b v : ℕ) (s : List ℕ) → x.opened ≡ false → y.opened ≡ false → x.limit ≡ y.limit → x.fill ≡ y.fill
      → (step_of leaps x b v s).verdict ≡ (step_of leaps y b v s).verdict
  pub opened_alike : (x y : Watch) (b v : ℕ) (s : List ℕ) → x.limit ≡ y.limit → kind leaps x b v s ≡ 2 → kind leaps y b v s ≡ 2
      → (step_of leaps x b v s).next ≡ (step_of leaps y b v s).next
  pub opening : (w : Watch) (b v : ℕ) (s : List ℕ) → kind leaps w b v s ≡ 2 → Waits (step_of leaps w b v s).next 1 (tag_of s) w.limit
  -- Where the offer that closes a scan is block 0, it opens the next one as well. Every other closing leaves the watch idle, with zeros for
  -- expected block and tag, and an empty set.
  pub anew : (w : Watch) (b v : ℕ) (s : List ℕ) → 4 ≤ kind leaps w b v s → b ≡ 0 → Waits (step_of leaps w b v s).next 1 (tag_of s) w.limit
  pub at_rest : (w : Watch) (b v : ℕ) (s : List ℕ) → 4 ≤ kind leaps w b v s → (b ≡ 0 → ⊥) → (step_of leaps w b v s).next ≡ resting w.limit
  -- The scan goes on: the next block is expected, and the tag offered is the last one now.
  pub going_on : (w : Watch) (b v : ℕ) (s : List ℕ) → kind leaps w b v s ≡ 3 → Waits (step_of leaps w b v s).next (w.expected + 1) (tag_of s) w.limit
  -- The limit stays.
  pub limit : (w : Watch) (b v : ℕ) (s : List ℕ) → (step_of leaps w b v s).next.limit ≡ w.limit

-- An accepted offer to an idle watch, and to an open one.
pub record Idle (leaps : List ℕ) (w : Watch) (b : ℕ) (s : List ℕ) : Type 0 where
  pub idle : w.opened ≡ false
  pub sound : Sound leaps w b s

pub record Open (leaps : List ℕ) (w : Watch) (b : ℕ) (s : List ℕ) : Type 0 where
  pub opened : w.opened ≡ true
  pub sound : Sound leaps w b s

-- One that is neither back nor late.
pub record InTime (leaps : List ℕ) (w : Watch) (b : ℕ) (s : List ℕ) : Type 0 where
  pub taken : Open leaps w b s
  pub forward : pos 0 ≤ℤ between leaps w.last (tag_of s)
  pub soon : between leaps w.last (tag_of s) ≤ℤ pos w.limit

-- What an accepted offer does, rule by rule: it opens (2), is a stray (1) or kept (3), and closes as clock back (4), late (5), broken (6)
-- or complete (7).
pub record AcceptedOffer (leaps : List ℕ) : Type 0 where
  pub opens : (w : Watch) (b v : ℕ) (s : List ℕ) → Idle leaps w b s → b ≡ 0 → kind leaps w b v s ≡ 2
  pub strays : (w : Watch) (b v : ℕ) (s : List ℕ) → Idle leaps w b s → (b ≡ 0 → ⊥) → kind leaps w b v s ≡ 1
  pub back : (w : Watch) (b v : ℕ) (s : List ℕ) → Open leaps w b s → between leaps w.last (tag_of s) <ℤ pos 0 → kind leaps w b v s ≡ 4
  pub late : (w : Watch) (b v : ℕ) (s : List ℕ) → Open leaps w b s → pos w.limit <ℤ between leaps w.last (tag_of s) → kind leaps w b v s ≡ 5
  pub broken : (w : Watch) (b v : ℕ) (s : List ℕ) → InTime leaps w b s → (b ≡ w.expected → ⊥) → kind leaps w b v s ≡ 6
  pub complete : (w : Watch) (b v : ℕ) (s : List ℕ) → InTime leaps w b s → b ≡ w.expected → b ≡ 10 → kind leaps w b v s ≡ 7
  pub kept : (w : Watch) (b v : ℕ) (s : List ℕ) → InTime leaps w b s → b ≡ w.expected → (b ≡ 10 → ⊥) → kind leaps w b v s ≡ 3
  -- Block 11 breaks an open scan, if the clock has not closed it first.
  pub eleven : (w : Watch) (v : ℕ) (s : List ℕ) → InTime leaps w 11 s → kind leaps w 11 v s ≡ 6

-- After the offers os to a watch: the block 0 that began the scan it is in was offered and accepted, with none after it.
pub record BegunBy (w : Watch) (os : List Offer) : Type 0 where
  pub earlier : List Offer
  pub first : Offer
  pub since : List Offer
  pub parts : os ≡ earlier ++ (first ∷ since)
  pub begun : begins (after w earlier) first ≡ true
  pub none_since : none_begins (next_of (after w earlier) first) since ≡ true

-- The offer o after the offers os completes a scan, which its block 10 ends, no less than 0 and no more than ten limits after its block 0.
pub record Scan (leaps : List ℕ) (limit : ℕ) (os : List Offer) (o : Offer) : Type 0 where
  pub by : BegunBy (resting limit) os
  pub ten : o.block ≡ 10
  pub number : (elapsed_of leaps by.first.tag o.tag).number ≡ 0
  pub forward : pos 0 ≤ℤ (elapsed_of leaps by.first.tag o.tag).ms
  pub soon : (elapsed_of leaps by.first.tag o.tag).ms ≤ℤ pos (10 * limit)

-- A watch is begun idle and gets any offers, some of them refused.
pub record AnyOffers (leaps : List ℕ) : Type 0 where
  -- With this one list lent throughout, a scan that it completes is one.
  pub completed : (limit : ℕ) (os : List Offer) (o : Offer) → OneList leaps os → o.leaps ≡ leaps
      → kind_of (verdict_of (after (resting limit) os) o) ≡ 7 → Scan leaps limit os o
  -- A scan whose blocks 0 to 10 are offered in order, each from 0 to the limit after the one before it, is completed.
  pub whole : (limit : ℕ) (valid : ℕ → ℕ) (tag : ℕ → List ℕ) → limit ≤ 3600000 → IsList leaps → ((k : ℕ) → k ≤ 10 → IsTag leaps (tag k))
      → ((k : ℕ) → k < 10 → (pos 0 ≤ℤ (elapsed_of leaps (tag k) (tag (suc k))).ms) × ((elapsed_of leaps (tag k) (tag (suc k))).ms ≤ℤ pos limit))
      → kind_of (verdict_of (after (resting limit) (blocks_before 10 leaps valid tag)) (offer_of leaps valid tag 10)) ≡ 7
  -- Nor does such a watch ever refuse a known block with a good tag.
  pub never_refused : (limit : ℕ) (os : List Offer) (o : Offer) → OneList leaps os → o.leaps ≡ leaps → limit ≤ 3600000 → IsList leaps → o.block ≤ 11
      → IsTag leaps o.tag → number_of (verdict_of (after (resting limit) os) o) ≡ 0
  -- Whatever its limit and the lists are, it always expects a block that there is, and its set is within bounds.
  pub never_itself : (limit : ℕ) (os : List Offer) (o : Offer)
      → (number_of (verdict_of (after (resting limit) os) o) ≡ 13 → ⊥) × (number_of (verdict_of (after (resting limit) os) o) ≡ 20 → ⊥)
