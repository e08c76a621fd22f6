use Rattle.std.proofs.Common.{◌≡◌, ◌++◌, ◌+◌, take, vec_len}
use Rattle.bench_sweep.specs.Flat as spec
use Rattle.bench_sweep.proofs.flattening.Flat.add.Given as goal

abbrev pub invariant-loop-directive : goal.invariant-loop-directive
invariant-loop-directive l = record {
  script : l.self.script.items ≡ l.initial.self.script.items ++ spec.numbered_from (vec_len l.initial.self.script + 1) (take l.directive-index l.directives);
  lines : l.self.lines.items ≡ l.initial.self.lines.items ++ spec.lines_of (take l.directive-index l.directives);
  same : vec_len l.self.script ≡ vec_len l.self.lines;
  count : vec_len l.self.script ≡ vec_len l.initial.self.script + l.directive-index;
}
