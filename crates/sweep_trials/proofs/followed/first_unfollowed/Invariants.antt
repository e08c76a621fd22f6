use Rattle.std.proofs.Common.{◌≡◌, take, vec_len}
use Rattle.sweep_trials.specs.Counts.{counts}
use Rattle.sweep_trials.specs.Follows.{AreFollowed}
use Rattle.sweep_trials.proofs.followed.first_unfollowed.Given as goal

abbrev pub invariant-loop-step : goal.invariant-loop-step
invariant-loop-step l = record {
  counted : l.made.items ≡ counts l.count (take l.step-index l.seen);
  length : vec_len l.made ≡ l.count;
  followed : AreFollowed l.following l.directives l.seen (take l.step-index l.seen) l.taken.items;
}
