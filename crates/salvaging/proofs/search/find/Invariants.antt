-- `find` meets its contract: both loops are left at the first start and copy with a block, or the starts run out.
-- Assumes nothing.
use Rattle.std.specs.Prelude.{◌≡◌, None}
use Rattle.salvaging.proofs.SearchTurns.{Passed, Tried}
use Rattle.salvaging.proofs.search.find.Given as goal

abbrev pub invariant-loop-copy : goal.invariant-loop-copy
invariant-loop-copy l = Tried l.input l.initial.scratch l.scratch l.start l.copy × (l.hit ≡ None)

abbrev pub invariant-starts : goal.invariant-starts
invariant-starts l = Passed l.input l.initial.scratch l.scratch l.from l.start × (l.hit ≡ None)
