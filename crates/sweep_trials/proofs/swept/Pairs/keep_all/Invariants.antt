use Rattle.std.proofs.Common.{◌≡◌, ◌++◌, map, take}
use Rattle.sweep_trials.specs.Pairs.{told_from}
use Rattle.sweep_trials.proofs.swept.Pairs.keep_all.Given as goal

abbrev pub invariant-loop-second : goal.invariant-loop-second
invariant-loop-second l = record {
  moments : l.self.moments.items ≡ l.fn.self.moments.items ++ map (λ t. t.0) (told_from l.number l.first 0 (take l.second l.tried));
  settled : l.self.settled.items ≡ l.fn.self.settled.items ++ map (λ t. t.1) (told_from l.number l.first 0 (take l.second l.tried));
  skipped : l.self.skipped ≡ l.fn.self.skipped;
}
