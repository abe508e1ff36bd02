-- `find` meets its contract: both loops are left at the first start and copy with a block, or the starts run out.
-- Assumes nothing.
use mathlib.Core.Path.{refl, sym, subst}
use Rattle.salvaging.specs.Pieces.{Finds}
use Rattle.salvaging.proofs.SearchTurns.{rest_is, begins, passed_all, passes_on, tried_on, hits}
use Rattle.salvaging.proofs.search.find.Goals as goal

pub starts-init : goal.starts-init
starts-init c = (begins _ _ _ c.requires.from_in_bounds, refl)

pub loop-copy-preserved : goal.loop-copy-preserved
loop-copy-preserved c = (
  tried_on c.starts.invariant.0 c.starts-test.true c.loop-copy.invariant.0 c.requires.most_words_in_bounds (rest_is c.starts.start c.args.input.now)
      c.in_default.ensures.value c.in_default.ensures.scratch_after c.loop-copy-test.true refl,
  c.loop-copy.invariant.1,
)

pub starts-preserved : goal.starts-preserved
starts-preserved c = (passes_on c.starts.invariant.0 c.starts-test.true c.loop-copy.invariant.0 c.loop-copy-test.false, c.loop-copy.invariant.1)

pub returns-after-starts : goal.returns-after-starts
returns-after-starts c =
    let both = passed_all c.starts.invariant.0 c.starts-test.false in
    record { found = subst (Finds c.args.input.now c.args.from) (sym c.starts.invariant.1) both.0; scratch_after = both.1 }

pub returns-in-Some : goal.returns-in-Some
returns-in-Some c =
    let both = hits c.starts.invariant.0 c.starts-test.true c.loop-copy.invariant.0 c.requires.most_words_in_bounds (rest_is c.starts.start c.args.input.now)
    c.in-Some.ensures.value c.in-Some.ensures.scratch_after c.loop-copy-test.true refl in record { found = both.0; scratch_after = both.1 }
