-- One offer, by what it did: each case with the facts that led to it.
-- Assumes nothing.
use mathlib.Core.Path.{◌≡◌}
use Prim.Native.Nat.{ℕ}
use mathlib.Core.Bool.{true, false, not}
use mathlib.Core.List.{List}
use lib.Dec.{eqb}
use lib.IntN.{ℤ, pos}
use lib.Signed.{lt_z}
use borrow.Author.Tests.{eqb-true, eqb-false, not-false}
use Rattle.ground.proofs.LawsChoice.{either}
use Rattle.tag.specs.Tags.{tag_of}
use Rattle.time.specs.Times.{between}
use Rattle.tag.specs.declared.Tag.{Tag}
use Rattle.watch_rule.specs.Rules.{last_of_scan, in_time, rule_of}
use Rattle.watch_rule.specs.declared.Closing.{Closing}
use Rattle.watch_rule.specs.declared.Closing.TheVariants.{ClockBack, Late, Broken, Complete}
use Rattle.watch_rule.specs.declared.Rule.{Rule}
use Rattle.watch_bounds.specs.Bounds.{refusal_of}
use Rattle.watch_bounds.specs.declared.Watch.{Watch}
use Rattle.watch.specs.Rules.{Stepped, opening, closing, keeping, following, on_idle, on_open, on_good, step_of}
use Rattle.watch.proofs.LawsSteps.{stepped}
use Rattle.watch.specs.Verdicts.{Refused, Stray, Opened}

-- Neither back nor late.
pub record Timely (leaps : List ℕ) (w : Watch) (t : Tag) : Type 0 where
  pub forward : lt_z (between leaps w.last t) (pos 0) ≡ false
  pub soon : lt_z (pos w.limit) (between leaps w.last t) ≡ false

-- Why an open watch closes.
pub data Why (leaps : List ℕ) (w : Watch) (b : ℕ) (t : Tag) : Closing → Type 0 where
  back : lt_z (between leaps w.last t) (pos 0) ≡ true → Why leaps w b t ClockBack
  late : lt_z (pos w.limit) (between leaps w.last t) ≡ true → Why leaps w b t Late
  broken : Why leaps w b t Broken
  complete : Timely leaps w t → b ≡ w.expected → b ≡ last_of_scan → Why leaps w b t Complete

pub data Turn (leaps : List ℕ) (w : Watch) (b v : ℕ) (s : List ℕ) : Stepped → Type 0 where
  refuses : (refusal_of leaps w b s ≡ 0 → ⊥) → Turn leaps w b v s (stepped w (Refused (refusal_of leaps w b s)))
  strays : refusal_of leaps w b s ≡ 0 → w.opened ≡ false → (b ≡ 0 → ⊥) → Turn leaps w b v s (stepped w Stray)
  opens : refusal_of leaps w b s ≡ 0 → b ≡ 0 → Turn leaps w b v s (stepped (opening v (tag_of s) w.limit) Opened)
  closes : refusal_of leaps w b s ≡ 0 → w.opened ≡ true → {why : Closing} → Why leaps w b (tag_of s) why → Turn leaps w b v s (closing w b v (tag_of s) why)
  keeps : refusal_of leaps w b s ≡ 0 → w.opened ≡ true → Timely leaps w (tag_of s) → b ≡ w.expected → (b ≡ last_of_scan → ⊥) → Turn leaps w b v s (keeping w v (tag_of s))

module _ (leaps : List ℕ) (w : Watch) (b v : ℕ) (s : List ℕ) where
  abbrev t : Tag
  t = tag_of s

  abbrev d : ℤ
  d = between leaps w.last t

  -- what the watch does by a rule
  abbrev Followed : Rule → Type 0
  Followed rule = Turn leaps w b v s (following w b v t rule)

  module _ (taken : refusal_of leaps w b s ≡ 0) where
    when_open : w.opened ≡ true → Turn leaps w b v s (on_open w b v t d)
    unfolding rule_of in_time
    when_open o =
        either Followed (lt_z d (pos 0)) (λ e. closes taken o (back e)) (λ forward.
        either Followed (lt_z (pos w.limit) d) (λ e. closes taken o (late e)) (λ soon.
        either Followed (not (eqb b w.expected)) (λ e. closes taken o broken) (λ e.
        let timely : Timely leaps w t = record { forward = forward; soon = soon } in
        let same : b ≡ w.expected = eqb-true b w.expected (not-false (eqb b w.expected) e) in
        either Followed (eqb b last_of_scan) (λ e. closes taken o (complete timely same (eqb-true b last_of_scan e))) (λ e. keeps taken o timely same (eqb-false b last_of_scan e)))))

    when_idle : w.opened ≡ false → Turn leaps w b v s (on_idle w b v t)
    unfolding on_idle
    when_idle o = either (Turn leaps w b v s) (eqb b 0) (λ e. opens taken (eqb-true b 0 e)) (λ e. strays taken o (eqb-false b 0 e))

    when_good : Turn leaps w b v s (on_good leaps w b v t)
    unfolding on_good
    when_good = either (Turn leaps w b v s) w.opened when_open when_idle

  pub turn : Turn leaps w b v s (step_of leaps w b v s)
  unfolding step_of
  turn = either (Turn leaps w b v s) (eqb (refusal_of leaps w b s) 0) (λ e. when_good (eqb-true (refusal_of leaps w b s) 0 e)) (λ e. refuses (eqb-false (refusal_of leaps w b s) 0 e))
