use Rattle.std.proofs.Common.{◌≡◌, ◌≤◌, ◌-◌, ◌++◌, length, take, drop}
use Rattle.std.specs.Prelude.{option_map}
use Rattle.bench_script.specs.Lines as spec
use Rattle.bench_script.proofs.lines.split_at.Given as goal

abbrev pub invariant-loop-feed : goal.invariant-loop-feed
invariant-loop-feed l = record {
  within : l.start ≤ length l.text;
  cut : spec.split_at l.mark l.text ≡ option_map (λ p. (take l.start l.text ++ p.0, p.1)) (spec.split_at l.mark (drop l.start l.text));
}

abbrev pub decreases-loop-feed : goal.decreases-loop-feed
decreases-loop-feed l = length l.text - l.start
