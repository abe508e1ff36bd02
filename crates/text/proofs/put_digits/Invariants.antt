-- `text::put_digits` meets its contract: at every turn what is put stands behind the digits of the rest.
-- Assumes nothing.
use Rattle.text.proofs.LawsDecimal.{Digits}
use Rattle.text.proofs.put_digits.Given as goal

abbrev pub invariant-loop-rest : goal.invariant-loop-rest
invariant-loop-rest l = Digits l.n l.end l.column l.rest l.at

abbrev pub decreases-loop-rest : goal.decreases-loop-rest
decreases-loop-rest l = l.rest
