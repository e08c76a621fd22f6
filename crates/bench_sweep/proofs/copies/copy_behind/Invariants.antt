use Rattle.std.proofs.Common.{◌≡◌, ◌++◌, take}
use Rattle.bench_sweep.proofs.copies.copy_behind.Given as goal

abbrev pub invariant-loop-directive : goal.invariant-loop-directive
invariant-loop-directive l = l.all.items ≡ l.initial.all.items ++ take l.directive-index l.directives
