use Rattle.std.proofs.Common.{◌≡◌, take, vec_len}
use Rattle.sweep_trials.specs.Counts.{counts}
use Rattle.sweep_trials.proofs.followed.steps_of.Given as goal

abbrev pub invariant-loop-step : goal.invariant-loop-step
invariant-loop-step l = record {
  counted : l.steps.items ≡ counts l.count (take l.step-index l.seen);
  length : vec_len l.steps ≡ l.count;
}
