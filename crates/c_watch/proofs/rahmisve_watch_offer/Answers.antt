-- `c_watch::rahmisve_watch_offer` meets its contract: what the step by value answers, and each branch knows whether the watch is left.
-- Assumes nothing.
use mathlib.Core.Path.{◌≡◌, refl, sym, ◌∙◌}
use Rattle.watch.specs.Verdicts.{verdict_in, number_of}
use Rattle.watch.specs.declared.Verdict.{Verdict}
use Rattle.watch.specs.declared.Verdict.TheVariants.{Stray, Opened, Kept, Closed}
use Rattle.c_watch.proofs.rahmisve_watch_offer.Goals as goal

-- no verdict on an accepted offer has a number of its own
none_refused : (v : Verdict) → 0 ≡ number_of (verdict_in v)
none_refused Stray = refl
none_refused Opened = refl
none_refused Kept = refl
none_refused (Closed why fill count) = refl

pub returns-in-Err : goal.returns-in-Err
returns-in-Err c =
    rw (← c.watch_in.ensures, ← c.in_byte.ensures, ← c.in_byte-2.ensures, ← c.in-Err.ensures)
    (record { value = c.number.ensures; verdict_after = refl; fill_after = refl; count_after = refl; watch_after = refl })

pub returns-then-leaves : goal.returns-then-leaves
returns-then-leaves c =
    rw (
      ← c.watch_in.ensures,
      ← c.in_byte.ensures,
      ← c.in_byte-2.ensures,
      ← c.in-Ok.ensures,
      sym c.leaves.ensures ∙ c.if-leaves.true,
    )
    (record {
      value = none_refused c.in-Ok.stepped.verdict;
      verdict_after = c.code_of.ensures;
      fill_after = c.handed-set.ensures.0;
      count_after = c.handed-set.ensures.1;
      watch_after = refl;
    })

pub returns-else-leaves : goal.returns-else-leaves
returns-else-leaves c =
    rw (
      ← c.watch_in.ensures,
      ← c.in_byte.ensures,
      ← c.in_byte-2.ensures,
      ← c.in-Ok.ensures,
      sym c.leaves.ensures ∙ c.if-leaves.false,
    )
    (record {
      value = none_refused c.in-Ok.stepped.verdict;
      verdict_after = c.code_of.ensures;
      fill_after = c.handed-set.ensures.0;
      count_after = c.handed-set.ensures.1;
      watch_after = c.row_of.ensures;
    })
