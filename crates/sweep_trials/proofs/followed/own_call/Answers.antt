use Rattle.std.proofs.Common.{◌≡◌}
use Rattle.sweep_trials.proofs.Walking.{own_too}
use Rattle.sweep_trials.specs.Follows.{StandsAlone, StandsBehind}
use Rattle.sweep_trials.proofs.followed.own_call.Goals as goal

pub returns-then-made-all : goal.returns-then-made-all
returns-then-made-all c = let a = c.args in own_too c.follower.result (a.steps.0 ≡ a.steps.1) (StandsAlone a.following a.directives.now a.taken.now a.directive a.line) (StandsBehind a.following a.directives.now a.taken.now a.directive a.line) c.if-made-all.true c.follower.ensures
