-- `check_window::last` meets its contract: the words so far as one.
-- Assumes nothing.
use mathlib.Core.Path.{◌≡◌}
use lib.ListN.{take}
use Rattle.check_window.specs.Turn.{mirrors, horner}
use Rattle.check_window.proofs.last.Given as goal

abbrev pub invariant-loop-word : goal.invariant-loop-word
invariant-loop-word l = l.t ≡ horner 0 (mirrors (take l.word-index l.word-items))
