-- What a step and a beginning answer, as records.
-- Assumes nothing.
use Prim.Native.Nat.{ℕ}
use Rattle.watch_bounds.specs.declared.Watch.{Watch}
use Rattle.watch.specs.Verdicts.{Verdict}
use Rattle.watch.specs.Rules.{Stepped, Begun}

abbrev pub stepped : Watch → Verdict → Stepped
stepped w v = record { next = w; verdict = v }

abbrev pub begun : ℕ → Watch → Begun
begun n w = record { number = n; watch = w }
