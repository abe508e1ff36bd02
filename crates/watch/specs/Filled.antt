-- What is promised of the blocks that were fill: of one offer, kept in proofs/KeepsFilled.antt, and of any sequence of offers, kept in
-- proofs/KeepsHanded.antt. A block is fill where its data valid word is not 1.
-- Assumes nothing.
use Rattle.std.specs.Prelude.{◌≡◌, ◌⊎◌, ◌↔◌, ℕ, zero, suc, ◌≤◌, ◌<◌, not, List, [], ◌∷◌, ◌++◌, eqb, length, get_or}
use Rattle.ground.specs.Choice.{pick}
use Rattle.watch_bounds.specs.Sets.{Has}
use Rattle.watch_bounds.specs.declared.Watch.{Watch}
use Rattle.watch.specs.Verdicts.{kind_of, fill_of, count_of}
use Rattle.watch.specs.Rules.{step_of}
use Rattle.watch.specs.Offers.{Offer, verdict_of, after, accepted}
use Rattle.watch.specs.Promises.{resting, kind, BegunBy}

-- Of two sets: the one is the other with block b as well, where its data valid word v is not 1.
abbrev pub Gains : ℕ → ℕ → ℕ → ℕ → Type 0
Gains new old b v = (k : ℕ) → Has new k ↔ (Has old k ⊎ ((k ≡ b) × (v ≡ 1 → ⊥)))

-- One number of a list, and each number above the one before it.
abbrev pub Among : ℕ → List ℕ → Type 0
Among k ks = (i : ℕ) × (i < length ks) × (get_or ks i 0 ≡ k)

abbrev pub Rising : List ℕ → Type 0
Rising ks = (i : ℕ) → suc i < length ks → get_or ks i 0 < get_or ks (suc i) 0

-- So many blocks are in a set: they can be listed in rising order.
pub record HowMany (set count : ℕ) : Type 0 where
  pub blocks : List ℕ
  pub rising : Rising blocks
  pub exactly : (k : ℕ) → Has set k ↔ Among k blocks
  pub many : length blocks ≡ count

-- One offer to any record, of block b with the data valid word v.
pub record OneFill (leaps : List ℕ) : Type 0 where
  -- The set of a scan that opens, also by the offer that closes one before it: of block 0 alone, or empty.
  pub opening : (w : Watch) (b v : ℕ) (s : List ℕ) → kind leaps w b v s ≡ 2 → Gains (step_of leaps w b v s).next.fill 0 0 v
  pub anew : (w : Watch) (b v : ℕ) (s : List ℕ) → 4 ≤ kind leaps w b v s → b ≡ 0 → Gains (step_of leaps w b v s).next.fill 0 0 v
  -- The set of a scan that goes on.
  pub going_on : (w : Watch) (b v : ℕ) (s : List ℕ) → kind leaps w b v s ≡ 3 → Gains (step_of leaps w b v s).next.fill w.fill b v
  -- What is handed over: the set with block 10 by a completed scan, else the set as it was; nothing where nothing closes.
  pub complete : (w : Watch) (b v : ℕ) (s : List ℕ) → kind leaps w b v s ≡ 7 → Gains (fill_of (step_of leaps w b v s).verdict) w.fill 10 v
  pub closed : (w : Watch) (b v : ℕ) (s : List ℕ) → 4 ≤ kind leaps w b v s → kind leaps w b v s < 7 → fill_of (step_of leaps w b v s).verdict ≡ w.fill
  pub nothing : (w : Watch) (b v : ℕ) (s : List ℕ) → kind leaps w b v s < 4
      → (fill_of (step_of leaps w b v s).verdict ≡ 0) × (count_of (step_of leaps w b v s).verdict ≡ 0)
  -- And how many blocks that set has.
  pub count : (w : Watch) (b v : ℕ) (s : List ℕ) → 4 ≤ kind leaps w b v s
      → HowMany (fill_of (step_of leaps w b v s).verdict) (count_of (step_of leaps w b v s).verdict)

-- Of a list of offers: those that are fill, and the numbers of their blocks.
unfoldable pub fills_of : List Offer → List Offer
fills_of [] = []
fills_of (o ∷ os) = pick (not (eqb o.valid 1)) (o ∷ fills_of os) (fills_of os)

unfoldable pub blocks_of : List Offer → List ℕ
blocks_of [] = []
blocks_of (o ∷ os) = o.block ∷ blocks_of os

-- The offers that were accepted for a scan had its blocks, in order; those of them that were fill are the set handed over, and as many as
-- its count says.
pub record Handed (taken : List Offer) (blocks : List ℕ) (set count : ℕ) : Type 0 where
  pub in_order : blocks_of taken ≡ blocks
  pub fills : (k : ℕ) → Has set k ↔ Among k (blocks_of (fills_of taken))
  pub many : length (fills_of taken) ≡ count

-- The offers that were accepted from a scan's block 0 on.
abbrev pub taken_by : (w : Watch) (os : List Offer) → BegunBy w os → List Offer
taken_by w os by = accepted (after w by.earlier) (by.first ∷ by.since)

-- The offer o after the offers os closes the scan that one of them began.
pub record AtClosing (limit : ℕ) (os : List Offer) (o : Offer) (scan : List Offer → List Offer) (blocks : List ℕ) : Type 0 where
  pub by : BegunBy (resting limit) os
  pub handed :
      Handed (scan (taken_by (resting limit) os by)) blocks (fill_of (verdict_of (after (resting limit) os) o)) (count_of (verdict_of (after (resting limit) os) o))

-- Blocks 0 to n - 1.
unfoldable pub first_blocks : ℕ → List ℕ
first_blocks zero = []
first_blocks (suc n) = first_blocks n ++ (n ∷ [])

-- A watch is begun idle and gets any offers, some of them refused, each with a list of leap days of its own.
pub record AnyFills : Type 0 where
  -- A completed scan has blocks 0 to 10, the last by the offer that completes it.
  pub complete : (limit : ℕ) (os : List Offer) (o : Offer) → kind_of (verdict_of (after (resting limit) os) o) ≡ 7
      → AtClosing limit os o (λ taken. taken ++ (o ∷ [])) (0 ∷ 1 ∷ 2 ∷ 3 ∷ 4 ∷ 5 ∷ 6 ∷ 7 ∷ 8 ∷ 9 ∷ 10 ∷ [])
  -- Any other has blocks from 0 on, and the offer that closes it is none of them.
  pub closed : (limit : ℕ) (os : List Offer) (o : Offer) → 4 ≤ kind_of (verdict_of (after (resting limit) os) o) → kind_of (verdict_of (after (resting limit) os) o) < 7
      → AtClosing limit os o (λ taken. taken) (first_blocks (after (resting limit) os).expected)
