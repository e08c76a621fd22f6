use Rattle.std.proofs.Common.{◌≡◌, ◌≤◌, length, take}
use Rattle.bench_sweep.proofs.copies.copied_arguments.Given as goal

abbrev pub invariant-loop-argument : goal.invariant-loop-argument
invariant-loop-argument l = record {
  copied : l.copy ≡ take l.argument-index l.all;
  few : length l.all ≤ 4;
}
