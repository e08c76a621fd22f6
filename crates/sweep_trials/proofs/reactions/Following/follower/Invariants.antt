use Rattle.std.proofs.Common.{false, true}
use Rattle.sweep_trials.specs.Follows as spec
use Rattle.sweep_trials.proofs.Walking.{EachBetween}
use Rattle.sweep_trials.proofs.reactions.Following.follower.Given as goal

abbrev pub invariant-loop-place : goal.invariant-loop-place
invariant-loop-place l = record {
  between : EachBetween (λ k d. spec.may_intrude l.self d.line) true l.directives l.directive l.place;
  first : EachBetween (λ k d. spec.is_free_call l.line l.taken k d) false l.directives l.directive l.place;
}
