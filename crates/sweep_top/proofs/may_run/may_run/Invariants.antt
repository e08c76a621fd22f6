use Rattle.std.proofs.Common.{drop}
use Rattle.script_runner.specs.Scripts.{AllBuilt, LinesRise}
use Rattle.sweep_top.proofs.may_run.may_run.Given as goal

abbrev pub invariant-loop-place : goal.invariant-loop-place
invariant-loop-place l = record {
  lines : LinesRise l.low (drop l.place l.script) → LinesRise 0 l.script;
  built : AllBuilt (drop l.place l.script) → AllBuilt l.script;
  rise : LinesRise 0 l.script → LinesRise l.low (drop l.place l.script);
  obeyed : AllBuilt l.script → AllBuilt (drop l.place l.script);
}
