-- `records_in_2` goes by the version, as its definition does.
-- Assumes nothing.
use native.Mathlib.Omega.{arith}
use Rattle.row.proofs.LawsRow.{before_3, from_3}
use Rattle.row.proofs.records_in_2.Goals as goal

pub returns-then-version-lt-EIGHTH_DETECTOR_VERSION : goal.returns-then-version-lt-EIGHTH_DETECTOR_VERSION
returns-then-version-lt-EIGHTH_DETECTOR_VERSION c = before_3 c.args.version (omega (arith, c.if-version-lt-EIGHTH_DETECTOR_VERSION.true))

pub returns-else-version-lt-EIGHTH_DETECTOR_VERSION : goal.returns-else-version-lt-EIGHTH_DETECTOR_VERSION
returns-else-version-lt-EIGHTH_DETECTOR_VERSION c = from_3 c.args.version c.if-version-lt-EIGHTH_DETECTOR_VERSION.false
