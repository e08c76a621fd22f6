use Rattle.std.proofs.Common.{◌≡◌, ◌+◌, ◌++◌, ◌≤◌, length, map}
use Rattle.std.specs.List.{All}
use Rattle.bench_sweep.specs.Lines.{lines_in}
use Rattle.bench_sweep.specs.Reactions as spec
use Rattle.bench_sweep.proofs.marking.reaction_lines.Given as goal

abbrev pub invariant-loop-rest : goal.invariant-loop-rest
invariant-loop-rest l = record {
  same : spec.reactions_in l.text ≡ map (λ r. spec.found_on r) l.found.items ++ spec.reactions_behind l.line (lines_in l.rest);
  orders : All (spec.IsWithin (length l.text)) l.found.items;
  within : l.line + length l.rest ≤ length l.text;
}

abbrev pub decreases-loop-rest : goal.decreases-loop-rest
decreases-loop-rest l = length l.rest
