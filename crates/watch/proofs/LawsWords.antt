-- Of a data valid word only whether it says fill counts.
-- Assumes nothing.
use mathlib.Core.Path.{◌≡◌, refl, ap}
use Prim.Native.Nat.{ℕ, ◌+◌, ◌^◌}
use mathlib.Core.Bool.{Bool}
use mathlib.Core.List.{List}
use lib.Count.{ones}
use lib.Dec.{eqb}
use Rattle.ground.specs.Choice.{pick}
use Rattle.tag.specs.Tags.{tag_of}
use Rattle.time.specs.Times.{between}
use Rattle.tag.specs.declared.Tag.{Tag}
use Rattle.watch_rule.specs.Rules.{rule_of}
use Rattle.watch_rule.specs.declared.Closing.{Closing}
use Rattle.watch_rule.specs.declared.Closing.TheVariants.{ClockBack, Late, Broken, Complete}
use Rattle.watch_rule.specs.declared.Rule.{Rule}
use Rattle.watch_rule.specs.declared.Rule.TheVariants.{Keeps, Closes}
use Rattle.watch_bounds.specs.Bounds.{refusal_of}
use Rattle.watch_bounds.specs.declared.Watch.{Watch}
use Rattle.watch.specs.Fills.{is_fill, filled}
use Rattle.watch.specs.Rules.{expecting, opening, handed, idle, following, on_idle, on_good, step_of}
use Rattle.watch.proofs.LawsSteps.{stepped}
use Rattle.watch.specs.Verdicts.{Refused, Stray, Opened, Kept, Closed}

module _ (u v : ℕ) (e : is_fill u ≡ is_fill v) where
  same_set : (set b : ℕ) → filled set b u ≡ filled set b v
  unfolding filled
  same_set set b = ap (λ (t : Bool). pick t (set + 2 ^ b) set) e

  same_handed : (set : ℕ) (why : Closing) → handed set u why ≡ handed set v why
  same_handed set ClockBack = refl
  same_handed set Late = refl
  same_handed set Broken = refl
  same_handed set Complete = same_set set 10

  same_opening : (t : Tag) (limit : ℕ) → opening u t limit ≡ opening v t limit
  same_opening t limit = ap (expecting 1 t limit) (same_set 0 0)

  module _ (w : Watch) (b : ℕ) (t : Tag) where
    same_following : (rule : Rule) → following w b u t rule ≡ following w b v t rule
    same_following Keeps = λ i. stepped (expecting (w.expected + 1) t w.limit (same_set w.fill w.expected i)) Kept
    same_following (Closes why) = λ i.
        stepped (pick (eqb b 0) (same_opening t w.limit i) (idle w.limit)) (Closed why (same_handed w.fill why i) (ones (same_handed w.fill why i)))

    same_idle : on_idle w b u t ≡ on_idle w b v t
    unfolding on_idle
    same_idle = λ i. pick (eqb b 0) (stepped (same_opening t w.limit i) Opened) (stepped w Stray)

  pub same_step : (leaps : List ℕ) (w : Watch) (b : ℕ) (s : List ℕ) → step_of leaps w b u s ≡ step_of leaps w b v s
  unfolding step_of on_good
  same_step leaps w b s = λ i.
      pick (eqb (refusal_of leaps w b s) 0)
      (pick w.opened (same_following w b (tag_of s) (rule_of w.expected w.limit b (between leaps w.last (tag_of s))) i) (same_idle w b (tag_of s) i))
      (stepped w (Refused (refusal_of leaps w b s)))
