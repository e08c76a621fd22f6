use Rattle.std.proofs.Common.{◌≡◌, drop}
use Rattle.std.specs.Prelude.{max}
use Rattle.sweep_report.specs.Table as spec
use Rattle.sweep_report.proofs.shown.longest_wait.Given as goal

abbrev pub invariant-loop-found : goal.invariant-loop-found
invariant-loop-found l = spec.longest_wait l.settled ≡ max l.longest (spec.longest_wait (drop l.found-index l.settled))
