use Rattle.std.proofs.Common.{◌≡◌, ◌≤◌, ◌+◌, length, vec_len}
use Rattle.std.specs.Str.Lines.{lines}
use Rattle.bench_script.specs.Script.{script, directives_from}
use Rattle.bench_script.specs.Steps.{prepended}
use Rattle.bench_script.proofs.script.read_script.Given as goal

abbrev pub invariant-loop-rest : goal.invariant-loop-rest
invariant-loop-rest l = record {
  read : script l.text ≡ prepended l.directives.items (directives_from (l.number + 1) (length l.directives.items) (lines l.rest));
  few : vec_len l.directives ≤ 50000;
  within : l.number + length l.rest ≤ length l.text;
}

abbrev pub decreases-loop-rest : goal.decreases-loop-rest
decreases-loop-rest l = length l.rest
